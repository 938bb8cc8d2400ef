-- A part, and the part .. that removes it.
use Rattle.std.proofs.Common.{◌≡◌, ◌≤◌, ◌-◌, ◌+◌, ℕ, suc, Bool, true, false, cond, not, ◌&&◌, List, [], ◌∷◌, ◌++◌, length, get_or, take, drop, refl, ap, sym, subst, ◌∙◌, arith, bytes_eq, length-append, length-drop, take-append-drop, append_assoc}
use Rattle.std.specs.Prelude.{◌==◌, slice_get, slice_index}
use Rattle.std.specs.List.{prefix_len}
use Rattle.std.proofs.lemmas.List.{take_all, take-append-le, drop-drop, get_or_at, length-take-le}
use Rattle.outside.specs.Paths.{with_part, kept_parts, between_slashes, is_kept, is_other}
use Rattle.outside.specs.Plain.{add_the_same, begins_part, is_in_part}
use Rattle.outside.proofs.Normal.{Free, between_slashes-one, between_slashes-append}
use Rattle.outside.proofs.Plain.{IsPlainPart, part_stays, parent, last_of}

-- a part .. removes one that isn't
removed : (absolute : Bool) (before : List (List ℕ)) (part : List ℕ) → not (bytes_eq part parent) ≡ true → with_part absolute (before ++ part ∷ []) parent ≡ before
removed absolute before part other =
    let parts = before ++ part ∷ [] in
    let last : length parts - 1 ≡ length before = omega (arith, length-append before (part ∷ [])) in
    let kept : is_kept parts ≡ true = ap (λ n. is_other (slice_get parts n)) last ∙ ap is_other (last_of before part) ∙ other in
    ap (λ r. cond r (take (length parts - 1) parts) (cond (not absolute) (parts ++ parent ∷ []) parts)) kept
    ∙ ap (λ n. take n parts) last
    ∙ take-append-le (length before) before (part ∷ []) (omega arith)
    ∙ take_all (length before) before (omega arith)

no_parent : (part : List ℕ) → IsPlainPart part → not (bytes_eq part parent) ≡ true
no_parent [] plain = absurd plain
no_parent (b ∷ bs) plain = ap (λ r. not (r && bytes_eq bs (46 ∷ []))) plain

-- so both leave what stood before them
turn : (absolute : Bool) (before : List (List ℕ)) (part : List ℕ) → IsPlainPart part → with_part absolute (with_part absolute before part) parent ≡ before
turn absolute before part plain =
    ap (λ (ps : List (List ℕ)). with_part absolute ps parent) (part_stays absolute before part plain)
    ∙ removed absolute before part (no_parent part plain)

turned : (part rest : List ℕ) → IsPlainPart part → Free 47 part → add_the_same (part ++ 47 ∷ 46 ∷ 46 ∷ 47 ∷ rest) rest
turned part rest plain free absolute before =
    ap (kept_parts absolute before) (between_slashes-append part (46 ∷ 46 ∷ 47 ∷ rest) ∙ ap (λ (ps : List (List ℕ)). ps ++ between_slashes (46 ∷ 46 ∷ 47 ∷ rest)) (between_slashes-one part free))
    ∙ ap (λ (ps : List (List ℕ)). kept_parts absolute ps (between_slashes rest)) (turn absolute before part plain)

-- the part in front of a text
free_case : (c : ℕ) (cs : List ℕ) (slash : Bool) → (c == 47) ≡ slash → Free 47 (take (prefix_len is_in_part cs) cs) → Free 47 (take (cond (not slash) (1 + prefix_len is_in_part cs) 0) (c ∷ cs))
free_case c cs true e later = tt
free_case c cs false e later = subst (λ n. Free 47 (take n (c ∷ cs))) {x = suc (prefix_len is_in_part cs)} {y = 1 + prefix_len is_in_part cs} (omega arith) (e, later)

free_front : (text : List ℕ) → Free 47 (take (prefix_len is_in_part text) text)
free_front [] = tt
free_front (c ∷ cs) = free_case c cs (c == 47) refl (free_front cs)

plain_case : (c : ℕ) (cs : List ℕ) (slash point : Bool) → (c == 46) ≡ point → (not slash && not point) ≡ true → IsPlainPart (take (cond (not slash) (1 + prefix_len is_in_part cs) 0) (c ∷ cs))
plain_case c cs true point e h = absurd cc
plain_case c cs false true e h = absurd cc
plain_case c cs false false e h = subst (λ n. IsPlainPart (take n (c ∷ cs))) {x = suc (prefix_len is_in_part cs)} {y = 1 + prefix_len is_in_part cs} (omega arith) e

plain_front : (text : List ℕ) → begins_part text ≡ true → IsPlainPart (take (prefix_len is_in_part text) text)
plain_front [] h = absurd cc
plain_front (c ∷ cs) h = plain_case c cs (c == 47) (c == 46) refl h

-- so many bytes in front of a text add nothing, and the last of them is a slash
pub record Falls (text : List ℕ) (n : ℕ) : Type 0 where
  pub parts : add_the_same text (drop n text)
  pub bound : n ≤ length text
  pub slash : slice_index text (n - 1) ≡ 47

pub turn_falls : (text rest more : List ℕ) (n : ℕ) → begins_part text ≡ true → n ≡ prefix_len is_in_part text → n ≤ length text → rest ≡ drop n text → rest ≡ 47 ∷ 46 ∷ 46 ∷ 47 ∷ more → Falls text (n + 4)
turn_falls text rest more n begins is within behind up =
    let part = take n text in
    let left : drop n text ≡ 47 ∷ 46 ∷ 46 ∷ 47 ∷ more = sym behind ∙ up in
    let whole : text ≡ part ++ 47 ∷ 46 ∷ 46 ∷ 47 ∷ more = sym (take-append-drop n text) ∙ ap (λ t. part ++ t) left in
    let next : drop (n + 4) text ≡ more = sym (drop-drop 4 n text) ∙ ap (drop 4) left in
    let plain : IsPlainPart part = subst (λ k. IsPlainPart (take k text)) (sym is) (plain_front text begins) in
    let free : Free 47 part = subst (λ k. Free 47 (take k text)) (sym is) (free_front text) in
    let flat : text ≡ (part ++ 47 ∷ 46 ∷ 46 ∷ []) ++ 47 ∷ more = whole ∙ sym (append_assoc part (47 ∷ 46 ∷ 46 ∷ []) (47 ∷ more)) in
    let long : length (part ++ 47 ∷ 46 ∷ 46 ∷ []) ≡ n + 4 - 1 = omega (arith, length-append part (47 ∷ 46 ∷ 46 ∷ []), length-take-le n text within) in
    record {
      parts = subst (λ t. add_the_same t (drop (n + 4) text)) (sym whole) (subst (add_the_same (part ++ 47 ∷ 46 ∷ 46 ∷ 47 ∷ more)) (sym next) (turned part more plain free));
      bound = omega (arith, length-drop n text, ap length left, within);
      slash = ap (λ (t : List ℕ). get_or t (n + 4 - 1) 0) flat ∙ get_or_at (part ++ 47 ∷ 46 ∷ 46 ∷ []) 47 more 0 (n + 4 - 1) long;
    }
