use Rattle.std.proofs.Common.{◌≡◌, map, take}
use Rattle.translate_plan.specs.Documents.{shown_band}
use Rattle.translate_plan.proofs.publishing.shown_bands.Given as goal

abbrev pub invariant-loop-k : goal.invariant-loop-k
invariant-loop-k l = l.bands ≡ map (shown_band l.plan l.base l.name) (take l.k l.plan.bands)
