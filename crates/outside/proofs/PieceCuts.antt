-- The first part of a text, and those behind its slash.
use Rattle.std.proofs.Common.{◌≡◌, ℕ, Bool, List, [], ◌∷◌, ap, sym, ◌∙◌, lit<, Bor, MatchOption, Option, Some, None}
use Rattle.std.specs.Prelude.{◌==◌}
use Rattle.std.specs.List.{after_first}
use Rattle.std.proofs.lemmas.List.Splits.{slice_split_first}
use Rattle.std.proofs.lemmas.Str.Pattern.{IsSplitOnceResult, split_once_first, split_parts}
use Rattle.outside.specs.Paths.{with_part, kept_parts, between_slashes}
use Rattle.outside.specs.Plain.{add_the_same}
use Rattle.outside.proofs.Normal.{between_slashes-one}
use Rattle.outside.proofs.Cuts.{free-from}

-- takes the clause of `split_once` at a slash
pub pieces_split : (text : List ℕ) (r : Option (Bor (List ℕ) × Bor (List ℕ))) → IsSplitOnceResult 47 text r
    → MatchOption r (between_slashes text ≡ text ∷ []) (λ x. between_slashes text ≡ x.0.now ∷ between_slashes x.1.now)
pieces_split text None h = between_slashes-one text (free-from 47 text (split_parts 47 text None h (lit< tt)))
pieces_split text (Some x) h =
    let m = split_once_first 47 text (Some x) h (lit< tt) in
    slice_split_first (λ b. b == 47) text 0 m.0
    ∙ ap (λ p. p ∷ between_slashes (after_first (λ b. b == 47) text)) (sym m.1)
    ∙ ap (λ t. x.0.now ∷ between_slashes t) (sym m.2)

-- what stands behind a part that is taken adds what was to be added
pub one_taken : (absolute : Bool) (before after : List (List ℕ)) (text part more next : List ℕ) → between_slashes text ≡ part ∷ between_slashes more → after ≡ with_part absolute before part → add_the_same more next → kept_parts absolute after (between_slashes next) ≡ kept_parts absolute before (between_slashes text)
one_taken absolute before after text part more next cut taken same =
    sym (same absolute after)
    ∙ ap (λ ps. kept_parts absolute ps (between_slashes more)) taken
    ∙ ap (kept_parts absolute before) (sym cut)

pub last_taken : (absolute : Bool) (before after : List (List ℕ)) (text : List ℕ) → between_slashes text ≡ text ∷ [] → after ≡ with_part absolute before text → after ≡ kept_parts absolute before (between_slashes text)
last_taken absolute before after text cut taken = taken ∙ ap (kept_parts absolute before) (sym cut)
