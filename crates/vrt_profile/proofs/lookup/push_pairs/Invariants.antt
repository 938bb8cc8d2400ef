use Rattle.std.proofs.Common.{◌≡◌, length}
use Rattle.vrt_profile.specs.Fronts.{lut_behind}
use Rattle.vrt_profile.proofs.lookup.push_pairs.Given as goal

abbrev pub invariant-pieces : goal.invariant-pieces
invariant-pieces l = lut_behind l.pairs l.last l.rest ≡ lut_behind l.fn.pairs l.fn.before l.text

abbrev pub decreases-pieces : goal.decreases-pieces
decreases-pieces l = length l.rest
