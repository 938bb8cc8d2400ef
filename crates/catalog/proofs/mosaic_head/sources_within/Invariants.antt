use Rattle.std.proofs.Common.{◌≡◌, drop}
use Rattle.catalog.specs.Heads.{all_resolved}
use Rattle.catalog.proofs.mosaic_head.sources_within.Given as goal

-- the sources that are left are refused as all are
abbrev pub invariant-loop-source : goal.invariant-loop-source
invariant-loop-source l = all_resolved l.base (drop l.source-index l.sources) ≡ all_resolved l.base l.sources
