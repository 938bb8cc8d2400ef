use Rattle.std.proofs.Common.{◌≡◌, ◌≤◌, ◌+◌, length}
use Rattle.vrt_markup.specs.Items.{plain_len}
use Rattle.vrt_markup.proofs.tokens.run_len.Given as goal

abbrev pub invariant-loop-more : goal.invariant-loop-more
invariant-loop-more l = record { plain : plain_len 60 l.text + length l.rest ≡ plain_len 60 l.rest + length l.text; shorter : length l.rest ≤ length l.text }

abbrev pub decreases-loop-more : goal.decreases-loop-more
decreases-loop-more l = length l.rest
