use Rattle.std.proofs.Common.{◌≡◌, ◌++◌, map, length}
use Rattle.vrt_markup.specs.Items.{pairs}
use Rattle.vrt_markup.specs.Keys.{sort_key_of}
use Rattle.vrt_markup.proofs.attributes.keys_of.Given as goal

abbrev pub invariant-loop-pair : goal.invariant-loop-pair
invariant-loop-pair l = map (λ k. (k.0, k.1.now)) l.keys.items ++ map sort_key_of (pairs l.rest).0 ≡ map sort_key_of (pairs l.text).0

abbrev pub decreases-loop-pair : goal.decreases-loop-pair
decreases-loop-pair l = length l.rest
