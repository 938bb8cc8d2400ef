use Rattle.std.proofs.Common.{◌≡◌, ◌∙◌, ap, sym, map, take, string_bytes}
use Rattle.std.proofs.lemmas.List.{take-map}
use Rattle.command_words.specs.Options.{value_count}
use Rattle.command_words.proofs.Told.{option_used}
use Rattle.command_words.proofs.uses.use_said.Goals as goal

pub returns-in-Some : goal.returns-in-Some
returns-in-Some c =
    let few : map string_bytes c.front.result.now ≡ take (value_count c.in-Some.option) (map string_bytes c.args.behind.now) = ap (map string_bytes) c.front.ensures ∙ sym (take-map string_bytes _ c.args.behind.now) ∙ ap (λ n. take n (map string_bytes c.args.behind.now)) c.value_count.ensures.value in
    option_used c.args.tool c.args.place c.args.before c.args.word.now (map string_bytes c.args.behind.now) (map string_bytes c.front.result.now) c.in-Some.option c.option_said.result (sym c.option_of.ensures ∙ c.in-Some.is) few c.option_said.ensures
