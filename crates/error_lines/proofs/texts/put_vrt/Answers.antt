use Rattle.std.proofs.Common.{◌≡◌, ◌∙◌, sym, None, Some}
use Rattle.vrt_markup.specs.Faults.{fault_place}
use Rattle.error_lines.proofs.texts.put_vrt.Goals as goal

pub returns-in-None-clause-ok : goal.returns-in-None-clause-ok
returns-in-None-clause-ok g c =
    let place : fault_place c.args.fault ≡ None = sym c.place.ensures.place ∙ c.in-None.is in
    rw place (rw (c.from-number.ensures, c.number.ensures.number) at c.put_form.ensures.ok)

pub returns-in-None-clause-err : goal.returns-in-None-clause-err
returns-in-None-clause-err g c =
    let place : fault_place c.args.fault ≡ None = sym c.place.ensures.place ∙ c.in-None.is in
    rw place (rw (c.from-number.ensures, c.number.ensures.number) at c.put_form.ensures.err)

pub returns-in-Some-clause-ok : goal.returns-in-Some-clause-ok
returns-in-Some-clause-ok g c =
    let place : fault_place c.args.fault ≡ Some c.in-Some.place = sym c.place.ensures.place ∙ c.in-Some.is in
    rw place (rw (c.from-number.ensures, c.number.ensures.number) at c.put_form_at.ensures.ok)

pub returns-in-Some-clause-err : goal.returns-in-Some-clause-err
returns-in-Some-clause-err g c =
    let place : fault_place c.args.fault ≡ Some c.in-Some.place = sym c.place.ensures.place ∙ c.in-Some.is in
    rw place (rw (c.from-number.ensures, c.number.ensures.number) at c.put_form_at.ensures.err)
