use Rattle.std.proofs.Common.{sym, subst}
use Rattle.std.proofs.lemmas.Option.{slice_get_within}
use Rattle.catalog.specs.Dataset.{DatasetHead}
use Rattle.catalog.proofs.Found.{found}
use Rattle.mosaic_builds.specs.Ends.{IsOfMaking}
use Rattle.mosaic_builds.proofs.Walked.{may_walk}
use Rattle.synthetic_rasters.specs.Names.{output_name}
use Rattle.synth_runs.specs.Tallied.{IsCopied}
use Rattle.synth_runs.proofs.Reaching.{copied_is, copied_refused, is_copied}
use Rattle.synth_runs.proofs.telling.open_copied.Goals as goal

pub head-requires : goal.head-requires
head-requires g c =
    let d = found c.open_all.new.cat c.in_ok-name.name c.in-Ok.id c.in-Ok.ensures.number in
    record { known = slice_get_within c.open_all.new.cat c.in-Ok.id d.dataset d.at }

pub returns-in-Ok-clause-copied : goal.returns-in-Ok-clause-copied
returns-in-Ok-clause-copied g c =
    subst (λ (h : DatasetHead). IsCopied c.open_all.new.cat c.in-Ok.id h.size) (sym c.behind-cat.view_is)
    (is_copied c.open_all.new.cat c.in_ok-name.name c.in-Ok.id c.head.result.now c.in-Ok.ensures.valid c.in-Ok.ensures.number c.head.ensures.head)

pub returns-in-Ok-clause-dataset : goal.returns-in-Ok-clause-dataset
returns-in-Ok-clause-dataset g c = λ m told d at.
    copied_is m c.new-cat.result c.open_all.new.cat c.in_ok-name.name c.in-Ok.id d c.in_ok-name.ensures.name c.new-cat.ensures.empty (c.in-Ok.ensures.told m told) (c.in-Ok.ensures.walked m told) c.in-Ok.ensures.number at

pub returns-clause-refused : goal.returns-clause-refused
returns-clause-refused g c = λ m told.
    copied_refused m c.new-cat.result c.in_ok-name.name c.in-Err.fault c.from.result c.in_ok-name.ensures.name c.new-cat.ensures.empty c.from.ensures (c.in-Err.ensures.told m told)

pub returns-clause-faults : goal.returns-clause-faults
returns-clause-faults g c = subst (IsOfMaking output_name) (sym c.from.ensures) (may_walk c.in-Err.fault c.in-Err.ensures.unknown.only c.in-Err.ensures.own output_name)
