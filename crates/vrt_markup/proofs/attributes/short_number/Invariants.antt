use Rattle.std.proofs.Common.{◌≡◌, length}
use Rattle.vrt_markup.specs.Keys.{bytes_number}
use Rattle.vrt_markup.proofs.attributes.short_number.Given as goal

abbrev pub invariant-loop-rest : goal.invariant-loop-rest
invariant-loop-rest l = bytes_number l.word l.rest ≡ bytes_number 0 l.name

abbrev pub decreases-loop-rest : goal.decreases-loop-rest
decreases-loop-rest l = length l.rest
