use Rattle.std.proofs.Common.{◌≡◌, ◌∙◌, inr, arith, length}
use Rattle.catalog.proofs.Cells.{cell_bad, cell_short, cell_fine}
use Rattle.catalog.proofs.dted.read_cell.Goals as goal

pub returns-in-Err-clause-told : goal.returns-in-Err-clause-told
returns-in-Err-clause-told g c = λ b told.
    inr (rw c.in_ok-try_clone-in-Err.ensures.same (cell_bad b c.args.name.now c.deref.result.now c.in-Err.fault (c.deref.ensures.value ∙ c.in_ok-front.ensures.ok b told) c.in-Err.ensures.head))

pub returns-then-has-needed-clause-told : goal.returns-then-has-needed-clause-told
returns-then-has-needed-clause-told g c = λ b told.
    let len : c.len-has.result ≡ length b = c.len-has.ensures.told b (c.in_ok-front.ensures.bytes ∙ told) in
    inr (rw c.in_ok-try_clone.ensures.same (rw c.needed_len-needed.ensures.value (rw len (cell_short b c.args.name.now c.deref.result.now c.in-Ok.head (c.deref.ensures.value ∙ c.in_ok-front.ensures.ok b told) c.in-Ok.ensures.head (omega (arith, c.if-has-needed.true, len, c.needed_len-needed.ensures.value))))))

pub returns-clause-told : goal.returns-clause-told
returns-clause-told g c = λ b told.
    let len : c.len-has.result ≡ length b = c.len-has.ensures.told b (c.in_ok-front.ensures.bytes ∙ told) in
    cell_fine b c.args.name.now c.deref.result.now c.in-Ok.head (c.deref.ensures.value ∙ c.in_ok-front.ensures.ok b told) c.in-Ok.ensures.head (omega (arith, c.if-has-needed.false, len, c.needed_len-needed.ensures.value))
