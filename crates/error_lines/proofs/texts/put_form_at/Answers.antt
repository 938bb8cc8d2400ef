use Rattle.std.proofs.Common.{rules, ◌≡◌, decimal}
use Rattle.error_lines.proofs.texts.put_form_at.Goals as goal

pub returns-clause-ok : goal.returns-clause-ok
returns-clause-ok g c =
    let name : c.as_bytes-name.result.now ≡ c.args.name.now = search rules in
    let number : c.as_bytes-number.result.now ≡ decimal c.args.number = search rules in
    let place : c.as_bytes-place.result.now ≡ decimal c.args.place = search rules in
    rw (name, number, place) at c.put_all.ensures.ok

pub returns-clause-err : goal.returns-clause-err
returns-clause-err g c =
    let name : c.as_bytes-name.result.now ≡ c.args.name.now = search rules in
    let number : c.as_bytes-number.result.now ≡ decimal c.args.number = search rules in
    let place : c.as_bytes-place.result.now ≡ decimal c.args.place = search rules in
    rw (name, number, place) at c.put_all.ensures.err
