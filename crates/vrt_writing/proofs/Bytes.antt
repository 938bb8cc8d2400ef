-- Where a text that is UTF-8 may be cut: at its ASCII bytes, and at its end.
use Rattle.std.proofs.Common.{◌≡◌, ℕ, zero, suc, ◌+◌, ◌<◌, ◌≤◌, Bool, true, false, cond, List, [], ◌∷◌, length, get_or, refl, subst, arith, ◌==◌, IsUtf8, nat_le}
use Rattle.std.specs.List.{prefix_len, slice_index}
use Rattle.std.specs.Str.{IsCharBoundary}
use Rattle.std.proofs.lemmas.Str.{IsUtf8-drop, IsCharBoundary-before_ascii, IsCharBoundary-after_ascii, IsCharBoundary-end, IsUtf8-from_ascii, IsUtf8-append}
use Rattle.std.proofs.lemmas.Bool.Decides.{nat_tests}

pub tail_utf8 : (c : ℕ) (cs : List ℕ) → IsUtf8 (c ∷ cs) → c < 128 → IsUtf8 cs
tail_utf8 c cs h less = IsUtf8-drop (c ∷ cs) 1 h (IsCharBoundary-after_ascii (c ∷ cs) 0 h (omega arith) less)

one_ascii : (c : ℕ) → c < 128 → (i : ℕ) → slice_index (c ∷ []) i < 128
one_ascii c less zero = less
one_ascii c less (suc i) = omega arith

pub cons_utf8 : (c : ℕ) (cs : List ℕ) → c < 128 → IsUtf8 cs → IsUtf8 (c ∷ cs)
cons_utf8 c cs less h = IsUtf8-append (c ∷ []) cs (IsUtf8-from_ascii (c ∷ []) (one_ascii c less)) h

-- a place at which an ASCII byte stands, or the end
abbrev pub IsEnd : List ℕ → ℕ → Type 0
IsEnd t n = (n < length t → get_or t n 0 < 128) × (n ≤ length t)

pub end_boundary : (t : List ℕ) (n : ℕ) (b : Bool) → (n == length t) ≡ b → IsEnd t n → IsCharBoundary t n
end_boundary t n true e h = subst (IsCharBoundary t) (grind (arith, nat_tests, e)) (IsCharBoundary-end t)
end_boundary t n false e h = let l : n < length t = grind (arith, nat_tests, e, h.1) in IsCharBoundary-before_ascii t n l (h.0 l)

-- a byte of a character that isn't ASCII
abbrev pub is_high : ℕ → Bool
is_high c = nat_le 128 c

high_end_case : (c : ℕ) (cs : List ℕ) (b : Bool) → is_high c ≡ b → IsEnd cs (prefix_len is_high cs) → IsEnd (c ∷ cs) (cond b (1 + prefix_len is_high cs) 0)
high_end_case c cs true e ih =
    let one : suc (prefix_len is_high cs) ≡ 1 + prefix_len is_high cs = omega arith in
    subst (IsEnd (c ∷ cs)) one (λ l. ih.0 (omega (arith, l)), omega (arith, ih.1))
high_end_case c cs false e ih = (λ _. grind (arith, nat_tests, e), omega arith)

high_end : (t : List ℕ) → IsEnd t (prefix_len is_high t)
high_end [] = (λ l. absurd (omega (arith, l)), omega arith)
high_end (c ∷ cs) = high_end_case c cs (is_high c) refl (high_end cs)

pub high_boundary : (t : List ℕ) → IsCharBoundary t (prefix_len is_high t)
high_boundary t = end_boundary t (prefix_len is_high t) (prefix_len is_high t == length t) refl (high_end t)
