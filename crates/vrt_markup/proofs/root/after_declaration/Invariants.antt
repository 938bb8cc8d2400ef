use Rattle.std.proofs.Common.{◌≡◌, ◌≤◌, length}
use Rattle.vrt_markup.specs.Tree.{after_declaration}
use Rattle.vrt_markup.proofs.root.after_declaration.Given as goal

abbrev pub invariant-loop-rest : goal.invariant-loop-rest
invariant-loop-rest l = record { left : after_declaration l.rest ≡ after_declaration l.text; shorter : length l.rest ≤ length l.text }

abbrev pub decreases-loop-rest : goal.decreases-loop-rest
decreases-loop-rest l = length l.rest
