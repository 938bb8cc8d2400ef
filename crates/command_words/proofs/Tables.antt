-- Tables of options, row by row.
use Rattle.std.proofs.Common.{◌≡◌, ◌∙◌, ◌<◌, ◌+◌, ap, sym, cond, ℕ, true, false, List, length, map, drop, get_or, Some, bytes_eq, Bor}
use Rattle.std.proofs.lemmas.List.{at_drop_more}
use Rattle.command_words.specs.declared.options.OptionWord.{OptionWord}
use Rattle.command_words.specs.Options.{option_in}
use Rattle.command_words.specs.Gathered.{named}

pub row_passed : (rows : List (Bor (List ℕ) × OptionWord)) (word : List ℕ) (i : ℕ) (d : Bor (List ℕ) × OptionWord) → i < length rows → bytes_eq word (get_or rows i d).0.now ≡ false → option_in (map named (drop (i + 1) rows)) word ≡ option_in (map named (drop i rows)) word
row_passed rows word i d below other =
    sym (at_drop_more (λ l. option_in (map named l) word) rows i d below
    ∙ ap (λ b. cond b (Some (get_or rows i d).1) (option_in (map named (drop (i + 1) rows)) word)) other)

pub row_met : (rows : List (Bor (List ℕ) × OptionWord)) (word : List ℕ) (i : ℕ) (d : Bor (List ℕ) × OptionWord) → i < length rows → bytes_eq word (get_or rows i d).0.now ≡ true → Some (get_or rows i d).1 ≡ option_in (map named (drop i rows)) word
row_met rows word i d below same =
    sym (at_drop_more (λ l. option_in (map named l) word) rows i d below
    ∙ ap (λ b. cond b (Some (get_or rows i d).1) (option_in (map named (drop (i + 1) rows)) word)) same)
