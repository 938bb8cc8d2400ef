use Rattle.std.proofs.Common.{List, ℕ}
use denote.Ref.{Bor}
use Rattle.lists_and_answers.proofs.Pieces.{one_more, keeps_pushed, on_err}
use Rattle.lists_and_answers.proofs.texts.push_all.Goals as goal

pub loop-part-preserved : goal.loop-part-preserved
loop-part-preserved c = one_more (λ (piece : Bor (List ℕ)). piece.now) c.args.parts.now c.loop-part.part-index _ c.args.out.now.items c.loop-part.out.items c.extend_from_slice.new.self.items c.loop-part-test.true c.loop-part.invariant c.in_ok-extend_from_slice.ensures.items

pub returns-in_err-extend_from_slice-clause-err : goal.returns-in_err-extend_from_slice-clause-err
returns-in_err-extend_from_slice-clause-err c = on_err c.from_residual.result (keeps_pushed c.args.out.now.items c.loop-part.out.items c.extend_from_slice.new.self.items _ c.loop-part.invariant c.in_err-extend_from_slice.ensures.items)
