use Rattle.std.proofs.Common.{◌∙◌, ap, sym, inr, cond, Ok, Err}
use Rattle.vrt_markup.specs.declared.fault.VrtFault.TheVariants as vrt
use Rattle.catalog.specs.declared.faults.Bad.TheVariants as bad
use Rattle.catalog.specs.declared.faults.WalkFault.TheVariants.{Malformed}
use Rattle.catalog.proofs.walk.check_width.Goals as goal

pub returns-then-takes_samples-clause-told : goal.returns-then-takes_samples-clause-told
returns-then-takes_samples-clause-told c = λ d at.
    ap (λ b. cond b (Ok tt) (Err (Malformed d.head.name (bad.Vrt vrt.Unsupported)))) (sym c.takes_samples.ensures.takes ∙ c.if-takes_samples.true)

pub returns-clause-told : goal.returns-clause-told
returns-clause-told c = λ d at.
    let named = c.name.ensures.name d at in
    inr (ap (λ b. cond b (Ok tt) (Err (Malformed d.head.name (bad.Vrt vrt.Unsupported)))) (sym c.takes_samples.ensures.takes ∙ c.if-takes_samples.false)
    ∙ ap (λ n. Err (Malformed n (bad.Vrt vrt.Unsupported))) (sym (c.in_ok-try_clone.ensures.same ∙ named)))
