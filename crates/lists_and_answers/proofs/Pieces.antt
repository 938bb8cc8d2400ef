-- Pieces that are appended one after another, and what stays in front where memory is refused.
use Rattle.std.proofs.Common.{◌≡◌, ◌∙◌, ap, sym, ℕ, ◌+◌, ◌<◌, ◌≤◌, List, [], ◌∷◌, ◌++◌, length, take, get_or, append_assoc, length-append, arith}
use Rattle.std.specs.Prelude.{flat_map}
use Rattle.std.proofs.lemmas.List.{append-nil, take_more, take-take}
use Rattle.std.proofs.lemmas.Grind.{flat_map-append}
use Rattle.std.proofs.Math.Seq.{take-append_seam, take-length}
use Rattle.std.specs.Prelude.{OnErr, Result, Ok, Err}
use Rattle.lists_and_answers.specs.Growth.{KeepsFront}

-- nothing was appended
pub keeps_itself : (a : List ℕ) → KeepsFront a a
keeps_itself a = record { front = take-length a }

-- a piece was appended
pub keeps_append : (a b e : List ℕ) → b ≡ a ++ e → KeepsFront a b
keeps_append a b e p = record { front = ap (take (length a)) p ∙ take-append_seam a e }

-- a piece was appended, and then memory was refused
pub keeps_then : (a b c e : List ℕ) → b ≡ a ++ e → KeepsFront b c → KeepsFront a c
keeps_then a b c e p h =
    let less : length a ≤ length b = omega (arith, ap length p, length-append a e) in
    record { front = sym (take-take (length a) (length b) c less) ∙ ap (take (length a)) h.front ∙ (keeps_append a b e p).front }

pub keeps_pushed : (a b c e : List ℕ) → b ≡ a ++ e → c ≡ b → KeepsFront a c
keeps_pushed a b c e p q = keeps_append a c e (q ∙ p)

-- one item's piece more
pub one_more : {T : Type 0} (f : T → List ℕ) (xs : List T) (i : ℕ) (d : T) (o x y : List ℕ) → i < length xs → x ≡ o ++ flat_map f (take i xs) → y ≡ x ++ f (get_or xs i d) → y ≡ o ++ flat_map f (take (i + 1) xs)
one_more f xs i d o x y less so_far one =
    let more : flat_map f (take (i + 1) xs) ≡ flat_map f (take i xs) ++ f (get_or xs i d) =
    ap (flat_map f) (take_more xs i d less) ∙ flat_map-append f (take i xs) (get_or xs i d ∷ []) ∙ ap (λ (t : List ℕ). flat_map f (take i xs) ++ t) (append-nil (f (get_or xs i d))) in
    one ∙ ap (λ (t : List ℕ). t ++ f (get_or xs i d)) so_far ∙ append_assoc o (flat_map f (take i xs)) (f (get_or xs i d)) ∙ ap (λ (t : List ℕ). o ++ t) (sym more)

-- a fact holds behind a failed call where it holds anyway
pub on_err : {T E : Type 0} {P : Type 0} (r : Result T E) → P → OnErr r P
on_err (Ok x) p = tt
on_err (Err e) p = p
