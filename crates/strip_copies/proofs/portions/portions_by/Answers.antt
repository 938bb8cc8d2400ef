use Rattle.std.proofs.Common.{Option, ap, sym}
use Rattle.strip_copies.specs.declared.portions.Form.{Form}
use Rattle.strip_copies.specs.Portions.{form_of, portions_by}
use Rattle.strip_copies.proofs.Shared.{form_taken, portions_shared}
use Rattle.strip_copies.proofs.portions.portions_by.Goals as goal

pub portions_in-requires-clause-takes : goal.portions_in-requires-clause-takes
portions_in-requires-clause-takes c =
    let t = c.requires.translation in
    form_taken c.args.translation.now.cat c.args.translation.now.id t.dataset c.args.translation.now.plan c.in-Some.form t.at (sym (c.in-Some.ensures.form t.dataset t.at))

pub returns-in-Some-clause-portions : goal.returns-in-Some-clause-portions
returns-in-Some-clause-portions c = λ d at.
    let p = c.args.translation.now.plan in
    portions_shared c.args.workers c.args.translation.now.cat p c.in-Some.form (form_of c.args.translation.now.cat d p) c.portions_in.result (c.in-Some.ensures.form d at) c.portions_in.ensures.portions

pub returns-in-None-clause-portions : goal.returns-in-None-clause-portions
returns-in-None-clause-portions c = λ d at. ap (λ (o : Option Form). portions_by o c.args.workers c.args.translation.now.cat c.args.translation.now.plan) (c.in-None.ensures.form d at)
