use Rattle.std.proofs.Common.{◌≡◌, ◌≤◌, length}
use Rattle.vrt_markup.specs.Items.{after_comment}
use Rattle.vrt_markup.proofs.tokens.after_comment.Given as goal

abbrev pub invariant-loop-rest : goal.invariant-loop-rest
invariant-loop-rest l = record { left : after_comment l.rest ≡ after_comment l.text; shorter : length l.rest ≤ length l.text }

abbrev pub decreases-loop-rest : goal.decreases-loop-rest
decreases-loop-rest l = length l.rest
