use Rattle.std.proofs.Common.{◌≡◌, ◌+◌, length}
use Rattle.std.specs.List.{prefix_len}
use Rattle.vrt_markup.specs.Keys.{is_plain}
use Rattle.vrt_markup.proofs.text.plain_front.Given as goal

abbrev pub invariant-loop-rest : goal.invariant-loop-rest
invariant-loop-rest l = record { left : prefix_len is_plain l.rest + l.count ≡ prefix_len is_plain l.bytes; bound : length l.rest + l.count ≡ length l.bytes }

abbrev pub decreases-loop-rest : goal.decreases-loop-rest
decreases-loop-rest l = length l.rest
