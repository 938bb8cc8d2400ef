-- How a list is refused, and what its lines give.
use Rattle.std.proofs.Common.{◌≡◌, ap, sym, refl, ◌∙◌, ◌⊎◌, inl, inr, ℕ, ◌+◌, ◌<◌, ◌≤◌, ◌^◌, arith, Bool, true, false, cond, nat_lt, List, [], ◌∷◌, length, drop, get_or, Some, None, Result, Ok, Err, IsUtf8}
use Rattle.std.specs.FinMap.{get}
use Rattle.std.specs.Str.{is_utf8}
use Rattle.std.specs.Str.Lines.{lines}
use Rattle.std.proofs.lemmas.Bool.Decides.{nat_tests}
use Rattle.std.proofs.lemmas.List.{drop_more, drop_all}
use Rattle.std.proofs.lemmas.Str.{is_utf8-from_IsUtf8, IsUtf8-from_is_utf8}
use Rattle.lists_and_answers.specs.Answers.{Gives}
use Rattle.outside.specs.Outside.{Files}
use Rattle.catalog.specs.declared.faults.Bad.TheVariants as bad
use Rattle.catalog.specs.declared.faults.LimitKind.TheVariants as limits
use Rattle.error_lines.specs.declared.faults.Fault.{Fault}
use Rattle.error_lines.specs.declared.faults.Fault.TheVariants.{Absent, Limit, Malformed, Memory}
use Rattle.error_lines.specs.Faults.{IsOutside}
use Rattle.mosaic_builds.specs.Inputs.{lines_in, list_text_in, within_limit, filled, with_lines, named_behind, names_in}

pub absent_list : (m : Files) (name : List ℕ) → get m name ≡ None → lines_in m name ≡ Err (Absent name)
unfolding lines_in
absent_list m name is = rw is

-- a list that is too long
within_not : (bytes : List ℕ) → 67108864 < length bytes → within_limit bytes ≡ Err (Limit limits.List (length bytes))
within_not bytes long =
    let is : nat_lt (2 ^ 26) (length bytes) ≡ true = grind (arith, nat_tests) in
    ap (λ (b : Bool). cond b (Err (Limit limits.List (length bytes))) (Ok tt)) is

pub long_list : (m : Files) (name bytes : List ℕ) (n : ℕ) → get m name ≡ Some bytes → n ≡ length bytes → 67108864 < n → lines_in m name ≡ Err (Limit limits.List n)
unfolding lines_in
long_list m name bytes n is len long =
    let more : 67108864 < length bytes = omega arith in
    rw (is, within_not bytes more) (ap (λ (k : ℕ). Err (Limit limits.List k)) (sym len))

-- a list that is short enough
within : (bytes : List ℕ) → length bytes ≤ 67108864 → within_limit bytes ≡ Ok tt
within bytes short =
    let is : nat_lt (2 ^ 26) (length bytes) ≡ false = grind (arith, nat_tests) in
    ap (λ (b : Bool). cond b (Err (Limit limits.List (length bytes))) (Ok tt)) is

is_text : (name bytes : List ℕ) → IsUtf8 bytes → list_text_in name bytes ≡ Ok bytes
is_text name bytes is = ap (λ (b : Bool). cond b (Ok bytes) (Err (Malformed name bad.List))) (is_utf8-from_IsUtf8 bytes is)

no_text_by : (name bytes : List ℕ) (b : Bool) → is_utf8 bytes ≡ b → ¬ (IsUtf8 bytes) → cond b (Ok bytes) (Err (Malformed name bad.List)) ≡ Err (Malformed name bad.List)
no_text_by name bytes false is not_text = refl
no_text_by name bytes true is not_text = absurd (not_text (IsUtf8-from_is_utf8 bytes is))

no_text : (name bytes : List ℕ) → ¬ (IsUtf8 bytes) → list_text_in name bytes ≡ Err (Malformed name bad.List)
no_text name bytes not_text = no_text_by name bytes (is_utf8 bytes) refl not_text

read_lines : (m : Files) (name bytes : List ℕ) → get m name ≡ Some bytes → length bytes ≤ 67108864 → IsUtf8 bytes → lines_in m name ≡ Ok (filled (lines bytes))
unfolding lines_in
read_lines m name bytes is short text = rw (is, within bytes short, is_text name bytes text)

no_lines : (m : Files) (name bytes : List ℕ) → get m name ≡ Some bytes → length bytes ≤ 67108864 → ¬ (IsUtf8 bytes) → lines_in m name ≡ Err (Malformed name bad.List)
unfolding lines_in
no_lines m name bytes is short text = rw (is, within bytes short, no_text name bytes text)

-- what is refused of the list is refused of the names
refused_first : (m : Files) (names : List (List ℕ)) (name : List ℕ) (f : Fault) → lines_in m name ≡ Err f → names_in m names (Some name) ≡ Err f
unfolding names_in
refused_first m names name f is = rw is

pub refused_list : (m : Files) (names : List (List ℕ)) (name : List ℕ) (f : Fault) → IsOutside f ⊎ (lines_in m name ≡ Err f) → IsOutside f ⊎ (names_in m names (Some name) ≡ Err f)
refused_list m names name f (inl out) = inl out
refused_list m names name f (inr is) = inr (refused_first m names name f is)

pub no_list : (m : Files) (names : List (List ℕ)) (name bytes : List ℕ) → get m name ≡ Some bytes → length bytes ≤ 67108864 → ¬ (IsUtf8 bytes) → names_in m names (Some name) ≡ Err (Malformed name bad.List)
no_list m names name bytes is short text = refused_first m names name (Malformed name bad.List) (no_lines m name bytes is short text)

names_are : (m : Files) (names lines : List (List ℕ)) (name : List ℕ) → lines_in m name ≡ Ok lines → names_in m names (Some name) ≡ named_behind names lines
unfolding names_in
names_are m names lines name is = rw is

abbrev whole : List (List ℕ) → List (List ℕ)
whole names = names

free : (r : Result (List (List ℕ)) Fault) (d e : Result (List (List ℕ)) Fault) → e ≡ d → Gives (λ f. f ≡ Memory) whole r d → Gives IsOutside whole r e
free (Ok x) d e is gives = is ∙ gives
free (Err f) d e is (inl memory) = inl (rw memory tt)
free (Err f) d e is (inr refused) = inr (is ∙ refused)

-- the names of the lines of a list
pub listed : (m : Files) (names : List (List ℕ)) (name bytes text : List ℕ) (r : Result (List (List ℕ)) Fault) → get m name ≡ Some bytes → length bytes ≤ 67108864 → IsUtf8 bytes → filled (lines text) ≡ filled (lines bytes) → Gives (λ f. f ≡ Memory) whole r (named_behind names (filled (lines text))) → Gives IsOutside whole r (names_in m names (Some name))
listed m names name bytes text r is short valid same gives =
    free r (named_behind names (filled (lines text))) (names_in m names (Some name))
    (names_are m names (filled (lines bytes)) name (read_lines m name bytes is short valid) ∙ ap (λ (l : List (List ℕ)). named_behind names l) (sym same)) gives

-- no list
none_are : (m : Files) (names : List (List ℕ)) → names_in m names None ≡ named_behind names []
unfolding names_in
none_are m names = refl

pub unlisted : (m : Files) (names : List (List ℕ)) (text : List ℕ) (r : Result (List (List ℕ)) Fault) → text ≡ [] → Gives (λ f. f ≡ Memory) whole r (named_behind names (filled (lines text))) → Gives IsOutside whole r (names_in m names None)
unlisted m names text r none gives = free r (named_behind names (filled (lines text))) (names_in m names None) (none_are m names ∙ ap (λ (t : List ℕ). named_behind names (filled (lines t))) (sym none)) gives

-- one line more of a text
at_line : (texts : List (List ℕ)) (i : ℕ) (line : List ℕ) → i < length texts → line ≡ get_or texts i line → drop i texts ≡ line ∷ drop (i + 1) texts
at_line texts i line less is = drop_more texts i line less ∙ ap (λ (l : List ℕ). l ∷ drop (i + 1) texts) (sym is)

pub lines_next : (texts : List (List ℕ)) (i k : ℕ) (line : List ℕ) (first old new : List (List ℕ)) → (i < length texts) × (line ≡ get_or texts i line) → k ≡ i + 1 → with_lines first (filled texts) ≡ with_lines old (filled (drop i texts)) → ((more : List (List ℕ)) → with_lines old (filled (line ∷ more)) ≡ with_lines new (filled more)) → with_lines first (filled texts) ≡ with_lines new (filled (drop k texts))
lines_next texts i k line first old new at next same step =
    same ∙ ap (λ (l : List (List ℕ)). with_lines old (filled l)) (at_line texts i line at.0 at.1) ∙ step (drop (i + 1) texts) ∙ ap (λ (n : ℕ). with_lines new (filled (drop n texts))) (sym next)

pub lines_refused : (texts : List (List ℕ)) (i : ℕ) (line : List ℕ) (first old : List (List ℕ)) (f : Fault) → (i < length texts) × (line ≡ get_or texts i line) → with_lines first (filled texts) ≡ with_lines old (filled (drop i texts)) → (f ≡ Memory) ⊎ ((more : List (List ℕ)) → with_lines old (filled (line ∷ more)) ≡ Err f) → (f ≡ Memory) ⊎ (with_lines first (filled texts) ≡ Err f)
lines_refused texts i line first old f at same (inl memory) = inl memory
lines_refused texts i line first old f at same (inr step) = inr (same ∙ ap (λ (l : List (List ℕ)). with_lines old (filled l)) (at_line texts i line at.0 at.1) ∙ step (drop (i + 1) texts))

pub lines_end : (texts : List (List ℕ)) (i : ℕ) (first old : List (List ℕ)) → i ≡ length texts → with_lines first (filled texts) ≡ with_lines old (filled (drop i texts)) → with_lines first (filled texts) ≡ Ok old
lines_end texts i first old all so = so ∙ ap (λ (n : ℕ). with_lines old (filled (drop n texts))) all ∙ ap (λ (l : List (List ℕ)). with_lines old (filled l)) (drop_all (length texts) texts (omega arith))
