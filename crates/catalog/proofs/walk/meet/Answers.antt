use Rattle.std.proofs.Common.{◌≡◌, ◌∙◌, inl, ap, sym, None, Ok, rules}
use Rattle.catalog.specs.declared.faults.WalkFault.TheVariants.{Memory}
use Rattle.catalog.specs.declared.kind.Kind.TheVariants as kinds
use Rattle.catalog.specs.Walk.{dataset_number_in}
use Rattle.catalog.proofs.Listings.{err_is}
use Rattle.catalog.proofs.Meetings.{from_memory, visits_plain, visits_unknown, visits_known, visits_deep, no_some}
use Rattle.catalog.proofs.Meets.{kind_met}
use Rattle.catalog.proofs.walk.meet.Goals as goal

pub returns-in_err-kind : goal.returns-in_err-kind
returns-in_err-kind g c =
    let result = err_is c.from_residual-in_err-kind.result c.in_err-kind.field-0.0 c.from_residual-in_err-kind.ensures in
    record { meets = rw result (visits_unknown c.args.verify c.args.room c.args.name.now _ c.args.met.now c.in_err-kind.field-0.0 c.in_err-kind.ensures.kind) }

pub returns-in_err-check_again : goal.returns-in_err-check_again
returns-in_err-check_again g c =
    let result = err_is c.from_residual.result c.in_err-check_again.field-0.0 c.from_residual.ensures in
    let e = c.in_err-check_again.ensures in
    let (kind, is) = kind_met c.args.met.now c.requires.linked c.args.name.now c.in-Some.id (sym c.in-Some.ensures.number) in
    record {
      meets = rw result (visits_plain c.args.verify c.args.room c.args.name.now _ c.args.met.now kind c.in_err-check_again.field-0.0 is e.plain
          (λ m path on. from_memory _ (e.told m c.args.verify path on)));
    }

pub returns-in-Some : goal.returns-in-Some
returns-in-Some g c =
    let e = c.in_ok-check_again.ensures in
    let (kind, is) = kind_met c.args.met.now c.requires.linked c.args.name.now c.in-Some.id (sym c.in-Some.ensures.number) in
    record { meets = visits_known c.args.verify c.args.room c.args.name.now _ c.args.met.now kind c.in-Some.id c.requires.linked is (sym c.in-Some.ensures.number) e.low (λ m path on. e.told m c.args.verify path on) }

pub returns-in_err-try_clone : goal.returns-in_err-try_clone
returns-in_err-try_clone g c =
    let result = err_is c.from_residual-in_err-try_clone.result Memory c.from_residual-in_err-try_clone.ensures in
    record { meets = rw result (visits_plain c.args.verify c.args.room c.args.name.now _ c.args.met.now c.in_ok-kind.kind Memory c.in_ok-kind.ensures.kind tt (λ m path on. inl tt)) }

pub returns-then-eq : goal.returns-then-eq
returns-then-eq g c =
    let none : dataset_number_in c.args.met.now.datasets c.args.name.now ≡ None = sym c.number.ensures.number ∙ no_some c.number.result c.in_default.not-Some in
    let vrt : c.in_ok-kind.kind ≡ kinds.Vrt = search rules in
    record { meets = rw c.in_ok-try_clone.ensures.same (visits_deep c.args.verify c.args.room c.args.name.now _ c.args.met.now none (c.in_ok-kind.ensures.kind ∙ ap (λ k. Ok k) vrt) c.if-room-eq0.true) }
