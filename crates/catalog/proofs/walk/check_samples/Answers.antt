use Rattle.std.proofs.Common.{ap, sym, subst, inl, inr}
use Rattle.lists_and_answers.specs.Answers.{Gives, ◌>>=◌}
use Rattle.catalog.specs.Outcomes.{IsMemory}
use Rattle.catalog.specs.Walk.{unless_wide}
use Rattle.catalog.proofs.Listings.{err_is}
use Rattle.catalog.proofs.walk.check_samples.Goals as goal

pub returns-clause-told : goal.returns-clause-told
returns-clause-told c = λ d at.
    let cat = c.args.met.now.datasets in
    let w = c.args.wanted.now in
    subst (λ r. Gives IsMemory (λ _. tt) c.check_width.result (r >>= λ there. unless_wide cat d.head.name w.name w.band w.plain)) (sym c.in_ok-check_band.ensures.told) (c.check_width.ensures.told d at)

pub returns-in_err-check_band-clause-told : goal.returns-in_err-check_band-clause-told
returns-in_err-check_band-clause-told c = λ d at.
    let cat = c.args.met.now.datasets in
    let w = c.args.wanted.now in
    let result = err_is c.from_residual.result c.in_err-check_band.field-0.0 c.from_residual.ensures in
    rw result (elim c.in_err-check_band.ensures.told [ inl full ↦ inl full | inr same ↦ inr (ap (λ r. r >>= λ there. unless_wide cat d.head.name w.name w.band w.plain) same) ])
