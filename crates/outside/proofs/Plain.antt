-- A path each part of which begins with a byte that isn't a point is its own normal form, and so is one of parts ..
-- with such parts behind them.
use Rattle.std.proofs.Common.{◌≡◌, ℕ, Bool, true, false, cond, not, ◌||◌, ◌&&◌, List, [], ◌∷◌, ◌++◌, length, take, drop, ◌-◌, refl, ap, sym, subst, ◌∙◌, append-nil, append_assoc, length-append, arith, bytes_eq, codes, eqb-true}
use Rattle.std.specs.Prelude.{◌==◌, slice_get, Some}
use Rattle.std.specs.List.{onto_first}
use Rattle.outside.specs.Paths.{with_part, kept_parts, between_slashes, joined, is_absolute, is_kept, is_other, path_of_parts, normal}
use Rattle.outside.specs.Plain.{are_plain, behind_slash, adds_all}

-- a part that begins with a byte that isn't a point
abbrev pub IsPlainPart : List ℕ → Type 0
IsPlainPart [] = ⊥
IsPlainPart (b ∷ bs) = (b == 46) ≡ false

abbrev ArePlain : List (List ℕ) → Type 0
ArePlain [] = Unit {0}
ArePlain (p ∷ ps) = IsPlainPart p × ArePlain ps

-- all but the first of these parts
abbrev RestPlain : List (List ℕ) → Type 0
RestPlain [] = Unit {0}
RestPlain (p ∷ ps) = ArePlain ps

abbrev FirstPlain : List (List ℕ) → Type 0
FirstPlain [] = ⊥
FirstPlain (p ∷ ps) = IsPlainPart p

both_plain : (ps : List (List ℕ)) → FirstPlain ps → RestPlain ps → ArePlain ps
both_plain [] first rest = tt
both_plain (p ∷ ps) first rest = (first, rest)

-- such a part stays
pub part_stays : (absolute : Bool) (before : List (List ℕ)) (part : List ℕ) → IsPlainPart part → with_part absolute before part ≡ before ++ part ∷ []
part_stays absolute before [] plain = absurd plain
part_stays absolute before (b ∷ bs) plain =
    let other = cond (is_kept before) (take (length before - 1) before) (cond (not absolute) (before ++ codes ".." ∷ []) before) in
    ap (λ r. cond (r && bytes_eq bs []) before (cond (not (r && bytes_eq bs (46 ∷ []))) (before ++ (b ∷ bs) ∷ []) other)) plain

parts_stay : (absolute : Bool) (before ps : List (List ℕ)) → ArePlain ps → kept_parts absolute before ps ≡ before ++ ps
parts_stay absolute before [] plain = sym (append-nil before)
parts_stay absolute before (p ∷ ps) plain =
    ap (λ (x : List (List ℕ)). kept_parts absolute x ps) (part_stays absolute before p plain.0)
    ∙ parts_stay absolute (before ++ p ∷ []) ps plain.1
    ∙ append_assoc before (p ∷ []) ps

-- the parts between slashes, joined again
joined_onto : (b : ℕ) (ps : List (List ℕ)) (t : List ℕ) → joined ps ≡ 47 ∷ t → joined (onto_first b ps) ≡ 47 ∷ b ∷ t
joined_onto b [] t e = absurd cc
joined_onto b (p ∷ ps) t e = ap (λ x. 47 ∷ b ∷ drop 1 x) e

joined_case : (b : ℕ) (ps : List (List ℕ)) (t : List ℕ) (r : Bool) → (b == 47) ≡ r → joined ps ≡ 47 ∷ t → joined (cond r ([] ∷ ps) (onto_first b ps)) ≡ 47 ∷ b ∷ t
joined_case b ps t true slash e = ap (λ x. 47 ∷ x) (e ∙ ap (λ c. c ∷ t) (sym (eqb-true b 47 slash)))
joined_case b ps t false slash e = joined_onto b ps t e

joined_pieces : (text : List ℕ) → joined (between_slashes text) ≡ 47 ∷ text
joined_pieces [] = refl
joined_pieces (b ∷ bs) = joined_case b (between_slashes bs) bs (b == 47) refl (joined_pieces bs)

spelled_relative : (ps : List (List ℕ)) (t : List ℕ) → joined ps ≡ 47 ∷ t → path_of_parts false ps ≡ t
spelled_relative [] t e = absurd cc
spelled_relative (p ∷ ps) t e = ap (drop 1) e

spelled_absolute : (ps : List (List ℕ)) (t : List ℕ) → joined ps ≡ 47 ∷ t → path_of_parts true ps ≡ 47 ∷ t
spelled_absolute [] t e = absurd cc
spelled_absolute (p ∷ ps) t e = e

-- the parts of a text that the test passes
and_both : (a b : Bool) → (a && b) ≡ true → (a ≡ true) × (b ≡ true)
and_both true true h = (refl, refl)
and_both true false h = absurd cc
and_both false b h = absurd cc

-- the first of the parts, where it begins here
record Passed (first : Bool) (ps : List (List ℕ)) : Type 0 where
  pub front : first ≡ true → FirstPlain ps
  pub rest : RestPlain ps

no_point : (c : ℕ) (first : Bool) (slash point : Bool) → (c == 46) ≡ point → not (first && (slash || point)) ≡ true → first ≡ true → (c == 46) ≡ false
no_point c true true point e h f = absurd cc
no_point c true false true e h f = absurd cc
no_point c true false false e h f = e
no_point c false slash point e h f = absurd cc

no_slash : (first : Bool) (point : Bool) → not (first && (true || point)) ≡ true → first ≡ true → ⊥
no_slash true point h f = cc
no_slash false point h f = cc

onto_passed : (c : ℕ) (first : Bool) (ps : List (List ℕ)) → (first ≡ true → (c == 46) ≡ false) → RestPlain ps → Passed first (onto_first c ps)
onto_passed c first [] front rest = record { front = front; rest = tt }
onto_passed c first (p ∷ ps) front rest = record { front = front; rest = rest }

passed_case : (c : ℕ) (first : Bool) (ps : List (List ℕ)) (slash : Bool) → not (first && (slash || (c == 46))) ≡ true → Passed slash ps → Passed first (cond slash ([] ∷ ps) (onto_first c ps))
passed_case c first ps true h later = record { front = λ f. absurd (no_slash first (c == 46) h f); rest = both_plain ps (later.front refl) later.rest }
passed_case c first ps false h later = onto_passed c first ps (no_point c first false (c == 46) refl h) later.rest

none_passed : (first : Bool) → not first ≡ true → Passed first ([] ∷ [])
none_passed true h = absurd cc
none_passed false h = record { front = λ f. absurd cc; rest = tt }

passed : (first : Bool) (text : List ℕ) → are_plain first text ≡ true → Passed first (between_slashes text)
passed first [] h = none_passed first h
passed first (c ∷ cs) h =
    let both = and_both (not (first && ((c == 47) || (c == 46)))) (are_plain (c == 47) cs) h in
    passed_case c first (between_slashes cs) (c == 47) both.0 (passed (c == 47) cs both.1)

all_plain : (text : List ℕ) → are_plain true text ≡ true → ArePlain (between_slashes text)
all_plain text h = let p = passed true text h in both_plain (between_slashes text) (p.front refl) p.rest

-- a path with no slash in front, and one with a slash there
relative : (text : List ℕ) → is_absolute text ≡ false → are_plain true text ≡ true → normal text ≡ text
unfolding normal
relative text is h =
    ap (λ r. path_of_parts r (kept_parts r [] (between_slashes text))) is
    ∙ ap (path_of_parts false) (parts_stay false [] (between_slashes text) (all_plain text h))
    ∙ spelled_relative (between_slashes text) text (joined_pieces text)

absolute : (text : List ℕ) → are_plain true text ≡ true → normal (47 ∷ text) ≡ 47 ∷ text
unfolding normal
absolute text h =
    ap (path_of_parts true) (parts_stay true [] (between_slashes text) (all_plain text h))
    ∙ spelled_absolute (between_slashes text) text (joined_pieces text)

by_slash : (c : ℕ) (cs : List ℕ) (slash : Bool) → (c == 47) ≡ slash → are_plain true (cond slash cs (c ∷ cs)) ≡ true → normal (c ∷ cs) ≡ c ∷ cs
by_slash c cs true e h = subst (λ b. normal (b ∷ cs) ≡ b ∷ cs) (sym (eqb-true c 47 e)) (absolute cs h)
by_slash c cs false e h = relative (c ∷ cs) e h

pub plain_normal : (text : List ℕ) → are_plain true (behind_slash text) ≡ true → normal text ≡ text
plain_normal [] h = absurd cc
plain_normal (c ∷ cs) h = by_slash c cs (c == 47) refl h

-- a part .. stays behind others of which it removes none, and so does the next one
abbrev pub parent : List ℕ
parent = 46 ∷ 46 ∷ []

parent_stays : (before : List (List ℕ)) → is_kept before ≡ false → with_part false before parent ≡ before ++ parent ∷ []
parent_stays before last = ap (λ r. cond r (take (length before - 1) before) (before ++ parent ∷ [])) last

pub last_of : (before : List (List ℕ)) (part : List ℕ) → slice_get (before ++ part ∷ []) (length before) ≡ Some part
last_of [] part = refl
last_of (p ∷ ps) part = last_of ps part

ends_parent : (before : List (List ℕ)) → is_kept (before ++ parent ∷ []) ≡ false
ends_parent before =
    let last : length (before ++ parent ∷ []) - 1 ≡ length before = omega (arith, length-append before (parent ∷ [])) in
    ap (λ n. is_other (slice_get (before ++ parent ∷ []) n)) last ∙ ap is_other (last_of before parent)

pub parent_added : (text rest : List ℕ) → text ≡ 46 ∷ 46 ∷ 47 ∷ rest → adds_all rest → adds_all text
parent_added text rest is kept before last =
    ap (λ (t : List ℕ). kept_parts false before (between_slashes t)) is
    ∙ ap (λ (ps : List (List ℕ)). kept_parts false ps (between_slashes rest)) (parent_stays before last)
    ∙ kept (before ++ parent ∷ []) (ends_parent before)
    ∙ append_assoc before (parent ∷ []) (between_slashes rest)
    ∙ ap (λ (t : List ℕ). before ++ between_slashes t) (sym is)

plain_added : (text : List ℕ) → are_plain true text ≡ true → adds_all text
plain_added text h before last = parts_stay false before (between_slashes text) (all_plain text h)

pub parents_normal : (text rest : List ℕ) → is_absolute text ≡ false → (adds_all rest → adds_all text) → are_plain true rest ≡ true → normal text ≡ text
unfolding normal
parents_normal text rest is added h =
    ap (λ r. path_of_parts r (kept_parts r [] (between_slashes text))) is
    ∙ ap (path_of_parts false) (added (plain_added rest h) [] refl)
    ∙ spelled_relative (between_slashes text) text (joined_pieces text)
