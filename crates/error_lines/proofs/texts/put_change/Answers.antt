use Rattle.std.proofs.Common.{rules, ◌≡◌, decimal}
use Rattle.error_lines.proofs.texts.put_change.Goals as goal

pub returns-clause-ok : goal.returns-clause-ok
returns-clause-ok g c =
    let name : c.as_bytes-name.result.now ≡ c.args.name.now = search rules in
    let was : c.as_bytes-was.result.now ≡ decimal c.args.was = search rules in
    rw (name, was) at c.put_all.ensures.ok

pub returns-clause-err : goal.returns-clause-err
returns-clause-err g c =
    let name : c.as_bytes-name.result.now ≡ c.args.name.now = search rules in
    let was : c.as_bytes-was.result.now ≡ decimal c.args.was = search rules in
    rw (name, was) at c.put_all.ensures.err
