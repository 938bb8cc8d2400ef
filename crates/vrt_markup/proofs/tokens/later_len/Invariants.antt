use Rattle.std.proofs.Common.{◌≡◌, ◌+◌, length}
use Rattle.std.specs.List.{prefix_len}
use Rattle.vrt_markup.specs.Items.{is_later}
use Rattle.vrt_markup.proofs.tokens.later_len.Given as goal

abbrev pub invariant-loop-rest : goal.invariant-loop-rest
invariant-loop-rest l = record { left : prefix_len is_later l.rest + l.count ≡ prefix_len is_later l.text; bound : length l.rest + l.count ≡ length l.text }

abbrev pub decreases-loop-rest : goal.decreases-loop-rest
decreases-loop-rest l = length l.rest
