use Rattle.std.proofs.Common.{rules, ◌≡◌, decimal}
use Rattle.error_lines.proofs.texts.put_changed.Goals as goal

pub returns-in-None-clause-ok : goal.returns-in-None-clause-ok
returns-in-None-clause-ok g c = rw c.in-None.is c.put_change.ensures.ok

pub returns-in-None-clause-err : goal.returns-in-None-clause-err
returns-in-None-clause-err g c = rw c.in-None.is c.put_change.ensures.err

pub returns-in-Some-clause-ok : goal.returns-in-Some-clause-ok
returns-in-Some-clause-ok g c =
    let digits : c.as_bytes-digits.result.now ≡ decimal c.in-Some.len = search rules in
    rw c.in-Some.is (rw digits at c.put_change-in-Some.ensures.ok)

pub returns-in-Some-clause-err : goal.returns-in-Some-clause-err
returns-in-Some-clause-err g c =
    let digits : c.as_bytes-digits.result.now ≡ decimal c.in-Some.len = search rules in
    rw c.in-Some.is (rw digits at c.put_change-in-Some.ensures.err)
