use Rattle.std.proofs.Common.{◌≡◌, ◌∙◌, ap, string_bytes, unwrap_or, rules}
use Rattle.std.specs.BTreeMap.Entry.{map_with_value}
use Rattle.catalog.proofs.Indexed.{kept_text}
use Rattle.catalog.proofs.links.keep_number.Goals as goal

pub returns-clause-ok : goal.returns-clause-ok
returns-clause-ok c =
    let key : string_bytes c.in_ok-key.key ≡ c.args.dataset.now.head.name = search rules in
    let value = c.or_insert.ensures.value ∙ ap (λ o. unwrap_or o c.args.number) c.in_ok-numbers.ensures.value in
    kept_text c.args.numbers.now (map_with_value c.in_ok-numbers.field-0 c.or_insert.result.now) c.in_ok-key.key c.args.dataset.now.head.name c.args.number c.or_insert.result.now key value (c.in_ok-numbers.ensures.update.0 c.or_insert.result.now) _ (search rules)
