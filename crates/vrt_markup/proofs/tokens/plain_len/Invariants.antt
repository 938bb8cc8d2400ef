use Rattle.std.proofs.Common.{◌≡◌, ◌+◌, length}
use Rattle.vrt_markup.specs.Items.{plain_len}
use Rattle.vrt_markup.proofs.tokens.plain_len.Given as goal

abbrev pub invariant-loop-rest : goal.invariant-loop-rest
invariant-loop-rest l = record { left : plain_len l.end l.rest + l.count ≡ plain_len l.end l.text; bound : length l.rest + l.count ≡ length l.text }

abbrev pub decreases-loop-rest : goal.decreases-loop-rest
decreases-loop-rest l = length l.rest
