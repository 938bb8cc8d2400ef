use Rattle.std.proofs.Common.{rules, ◌≡◌, decimal}
use Rattle.error_lines.proofs.texts.put_short.Goals as goal

pub returns-clause-ok : goal.returns-clause-ok
returns-clause-ok g c =
    let name : c.as_bytes-name.result.now ≡ c.args.name.now = search rules in
    let needed : c.as_bytes-needed.result.now ≡ decimal c.args.needed = search rules in
    let has : c.as_bytes-has.result.now ≡ decimal c.args.has = search rules in
    rw (name, needed, has) at c.put_all.ensures.ok
