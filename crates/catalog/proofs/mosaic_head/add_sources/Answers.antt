use Rattle.std.proofs.Common.{◌++◌, List, subst, arith}
use Rattle.std.specs.List.{filter_map}
use Rattle.std.proofs.lemmas.List.{take_all}
use Rattle.vrt_profile.specs.Values.{SourceValue}
use Rattle.catalog.specs.Mosaics.{source_name}
use Rattle.catalog.specs.Gathered.{HasGathered}
use Rattle.catalog.proofs.mosaic_head.add_sources.Goals as goal

pub loop-at-preserved : goal.loop-at-preserved
loop-at-preserved c = λ own names listed. c.in_ok-add_source.ensures.gathered own names (c.loop-at.invariant own names listed)

pub returns-clause-gathered : goal.returns-clause-gathered
returns-clause-gathered c = λ own names listed.
    subst (λ (l : List SourceValue). HasGathered own (names ++ filter_map (source_name c.args.base.now) l) c.loop-at.gathered) (take_all c.loop-at.at c.args.sources.now (omega arith)) (c.loop-at.invariant own names listed)
