-- The first slash of a text, and what stands behind it.
use Rattle.std.proofs.Common.{◌≡◌, ◌≤◌, ◌<◌, ◌∙◌, ℕ, suc, Bool, true, false, not, List, [], ◌∷◌, length, take, drop, Option, Some, None, get_or, refl, sym, ap, arith, cond, ◌==◌, ◌+◌, ◌-◌, subst}
use Rattle.std.specs.Option.{unwrap_or}
use Rattle.std.specs.List.{prefix_len}
use Rattle.std.proofs.lemmas.List.Sums.{prefix_len_is}
use Rattle.std.proofs.lemmas.List.{take_all}
use Rattle.memchr.specs.Find.{IsFirstByte, is_byte}
use Rattle.outside.specs.Plain.{are_plain, is_in_part}

other_byte : (c : ℕ) → (is_byte 47 c ≡ true → ⊥) → is_in_part c ≡ true
other_byte c other = by_case (is_byte 47 c) refl
  where
    by_case : (t : Bool) → is_byte 47 c ≡ t → is_in_part c ≡ true
    by_case true e = absurd (other e)
    by_case false e = ap not e

pub first_slash : (text : List ℕ) (place : Option ℕ) → IsFirstByte (is_byte 47) text place → unwrap_or place (length text) ≡ prefix_len is_in_part text
first_slash text None h = sym (prefix_len_is is_in_part text (length text) 0 (omega arith) (λ k below. other_byte (get_or text k 0) (h k (omega arith) below)) (λ past. absurd (omega (arith, past))))
first_slash text (Some i) h = sym (prefix_len_is is_in_part text i 0 (omega (arith, h.0.high)) (λ k below. other_byte (get_or text k 0) (h.0.before k (omega arith) below)) (λ past. ap not h.1))

pub slash_within : (text : List ℕ) (place : Option ℕ) → IsFirstByte (is_byte 47) text place → unwrap_or place (length text) ≤ length text
slash_within text None h = omega arith
slash_within text (Some i) h = omega (arith, h.0.high)

drop_more : (n c : ℕ) (cs : List ℕ) → drop (1 + n) (c ∷ cs) ≡ drop n cs
drop_more n c cs = (let e : 1 + n ≡ suc n = omega arith in ap (λ k. drop k (c ∷ cs)) e)

-- what is left of a text from its first slash on: nothing, or the slash and what stands behind it
none_case : (c : ℕ) (cs : List ℕ) (slash : Bool) → (c == 47) ≡ slash → (drop (prefix_len is_in_part cs) cs ≡ [] → are_plain false cs ≡ true) → drop (prefix_len is_in_part (c ∷ cs)) (c ∷ cs) ≡ [] → are_plain slash cs ≡ true
none_case c cs true s later e = (let all : c ∷ cs ≡ [] = subst (λ (b : Bool). drop (cond (not b) (1 + prefix_len is_in_part cs) 0) (c ∷ cs) ≡ []) s e in absurd cc)
none_case c cs false s later e = (let h : drop (1 + prefix_len is_in_part cs) (c ∷ cs) ≡ [] = subst (λ (b : Bool). drop (cond (not b) (1 + prefix_len is_in_part cs) 0) (c ∷ cs) ≡ []) s e in later (sym (drop_more (prefix_len is_in_part cs) c cs) ∙ h))

none_left : (text : List ℕ) → drop (prefix_len is_in_part text) text ≡ [] → are_plain false text ≡ true
none_left [] e = refl
none_left (c ∷ cs) e = none_case c cs (c == 47) refl (λ h. none_left cs h) e

some_case : (c : ℕ) (cs : List ℕ) (d : ℕ) (rest : List ℕ) (slash : Bool) → (c == 47) ≡ slash → (drop (prefix_len is_in_part cs) cs ≡ d ∷ rest → are_plain false cs ≡ are_plain true rest) → drop (prefix_len is_in_part (c ∷ cs)) (c ∷ cs) ≡ d ∷ rest → are_plain slash cs ≡ are_plain true rest
some_case c cs d rest true s later e = ap (λ (l : List ℕ). are_plain true (drop 1 l)) (subst (λ (b : Bool). drop (cond (not b) (1 + prefix_len is_in_part cs) 0) (c ∷ cs) ≡ d ∷ rest) s e)
some_case c cs d rest false s later e = (let h : drop (1 + prefix_len is_in_part cs) (c ∷ cs) ≡ d ∷ rest = subst (λ (b : Bool). drop (cond (not b) (1 + prefix_len is_in_part cs) 0) (c ∷ cs) ≡ d ∷ rest) s e in later (sym (drop_more (prefix_len is_in_part cs) c cs) ∙ h))

some_left : (text : List ℕ) (d : ℕ) (rest : List ℕ) → drop (prefix_len is_in_part text) text ≡ d ∷ rest → are_plain false text ≡ are_plain true rest
some_left [] d rest e = absurd cc
some_left (c ∷ cs) d rest e = some_case c cs d rest (c == 47) refl (λ h. some_left cs d rest h) e

-- the same by the length of what is left
pub end_left : (text rest : List ℕ) → rest ≡ drop (prefix_len is_in_part text) text → length rest < 1 → are_plain false text ≡ true
end_left text [] e short = none_left text (sym e)
end_left text (d ∷ rest) e short = absurd (omega (arith, short))

pub more_left : (text rest : List ℕ) → rest ≡ drop (prefix_len is_in_part text) text → 0 < length rest → are_plain false text ≡ are_plain true (take (length rest - 1) (drop 1 rest))
more_left text [] e some = absurd (omega (arith, some))
more_left text (d ∷ rest) e some = some_left text d rest (sym e) ∙ ap (are_plain true) (sym (take_all (length (d ∷ rest) - 1) rest (omega arith)))
