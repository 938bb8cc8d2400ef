use Rattle.std.proofs.Common.{◌≡◌, None, length}
use Rattle.vrt_profile.specs.Fronts.{lut_behind}
use Rattle.vrt_profile.proofs.lookup.push_whole_pairs.Given as goal

abbrev pub invariant-loop-found : goal.invariant-loop-found
invariant-loop-found l = lut_behind l.pairs l.last l.rest ≡ lut_behind l.fn.pairs None l.text

abbrev pub decreases-loop-found : goal.decreases-loop-found
decreases-loop-found l = length l.rest
