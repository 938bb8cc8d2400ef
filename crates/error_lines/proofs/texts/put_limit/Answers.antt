use Rattle.std.proofs.Common.{rules, ◌≡◌, decimal}
use Rattle.error_lines.proofs.texts.put_limit.Goals as goal

pub returns-clause-ok : goal.returns-clause-ok
returns-clause-ok g c =
    let value : c.as_bytes-value.result.now ≡ decimal c.args.value = search rules in
    rw (value, c.limit_word.ensures) at c.put_all.ensures.ok

pub returns-clause-err : goal.returns-clause-err
returns-clause-err g c =
    let value : c.as_bytes-value.result.now ≡ decimal c.args.value = search rules in
    rw (value, c.limit_word.ensures) at c.put_all.ensures.err
