-- Plain text: how far it goes behind a byte, and what it reads as behind an entity.
use Rattle.std.proofs.Common.{◌≡◌, ℕ, zero, suc, ◌+◌, Bool, true, false, cond, not, ◌||◌, ◌&&◌, List, [], ◌∷◌, ◌++◌, drop, take, Some, None, refl, sym, ap, ◌∙◌, ◌==◌, arith}
use Rattle.std.specs.List.{prefix_len}
use Rattle.std.proofs.lemmas.List.{append_assoc}
use Rattle.vrt_markup.specs.Items.{entity_at, is_some, option_case, plain_len}
use Rattle.vrt_markup.specs.Keys.{is_literal}
use Rattle.vrt_markup.specs.Forest.{decoded, decoded_from}

pub entity_next : (cs : List ℕ) (e : ℕ × ℕ) → Some e ≡ entity_at cs → plain_len 60 (38 ∷ cs) ≡ suc (plain_len 60 cs)
entity_next cs e h = ap (λ o. cond (not (is_some o)) 0 (suc (plain_len 60 cs))) (sym h)

pub entity_none : (cs : List ℕ) → None ≡ entity_at cs → plain_len 60 (38 ∷ cs) ≡ 0
entity_none cs h = ap (λ o. cond (not (is_some o)) 0 (suc (plain_len 60 cs))) (sym h)

pub byte_next : (c : ℕ) (cs : List ℕ) → (c == 60) ≡ false → (c == 38) ≡ false → plain_len 60 (c ∷ cs) ≡ suc (plain_len 60 cs)
byte_next c cs tag entity =
    ap (λ a. cond (a || (a || ((c == 38) && not (is_some (entity_at cs))))) 0 (suc (plain_len 60 cs))) tag
    ∙ ap (λ a. cond (a && not (is_some (entity_at cs))) 0 (suc (plain_len 60 cs))) entity

-- what belongs to an entity is not read
pub skips : (k : ℕ) (t : List ℕ) → decoded_from k t ≡ decoded_from 0 (drop k t)
skips zero t = refl
skips (suc k) [] = refl
skips (suc k) (c ∷ cs) = skips k cs

-- what stands in front of the first `&` is read as it is
pub literal_front : (t : List ℕ) → decoded t ≡ take (prefix_len is_literal t) t ++ decoded (drop (prefix_len is_literal t) t)
literal_front [] = refl
literal_front (c ∷ cs) = by_case (c == 38) refl (literal_front cs)
  where
    by_case : (b : Bool) → (c == 38) ≡ b → decoded cs ≡ take (prefix_len is_literal cs) cs ++ decoded (drop (prefix_len is_literal cs) cs) → decoded (c ∷ cs) ≡ take (cond (not b) (1 + prefix_len is_literal cs) 0) (c ∷ cs) ++ decoded (drop (cond (not b) (1 + prefix_len is_literal cs) 0) (c ∷ cs))
    by_case true e more = refl
    by_case false e more =
        let one : suc (prefix_len is_literal cs) ≡ 1 + prefix_len is_literal cs = omega arith in
        ap (λ b. (cond b (option_case (entity_at cs) (c, 0) (λ x. x)) (c, 0)).0 ∷ decoded_from (cond b (option_case (entity_at cs) (c, 0) (λ x. x)) (c, 0)).1 cs) e
        ∙ ap (λ x. c ∷ x) more
        ∙ ap (λ k. take k (c ∷ cs) ++ decoded (drop k (c ∷ cs))) one

-- after the front is added, what is left reads as the rest
pub literal_added : (old new t front back : List ℕ) (n : ℕ) → n ≡ prefix_len is_literal t → front ≡ take n t → back ≡ drop n t → new ≡ old ++ front → new ++ decoded back ≡ old ++ decoded t
literal_added old new t front back n count taken dropped added =
    ap (λ x. x ++ decoded back) (added ∙ ap (λ x. old ++ x) taken)
    ∙ append_assoc old (take n t) (decoded back)
    ∙ ap (λ x. old ++ (take n t ++ decoded x)) dropped
    ∙ ap (λ k. old ++ (take k t ++ decoded (drop k t))) count
    ∙ ap (λ x. old ++ x) (sym (literal_front t))
