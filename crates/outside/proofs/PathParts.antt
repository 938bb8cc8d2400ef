use Rattle.std.proofs.Common.{◌≡◌, ℕ, zero, suc, ◌-◌, ◌<◌, Bool, List, [], ◌∷◌, ◌++◌, length, take, get_or, ap, refl, sym, ◌∙◌, Bor, subst, arith, lit<}
use Rattle.std.specs.Prelude.{slice_get, option_map, Option, ◌==◌, false}
use Rattle.outside.specs.Paths.{is_kept, is_other, with_part, kept_parts, joined}
use Rattle.outside.specs.Plain.{dereferenced}
use Rattle.std.proofs.lemmas.Str.{IsCharBoundary-after_ascii}
use Rattle.std.specs.Str.{IsUtf8, IsCharBoundary}

pub kept_parts-push : (absolute : Bool) (before parts : List (List ℕ)) (part : List ℕ) → kept_parts absolute before (parts ++ part ∷ []) ≡ with_part absolute (kept_parts absolute before parts) part
kept_parts-push absolute before [] part = refl
kept_parts-push absolute before (p ∷ parts) part = kept_parts-push absolute (with_part absolute before p) parts part

pub get-dereferenced : (parts : List (Bor (List ℕ))) (i : ℕ) → slice_get (dereferenced parts) i ≡ option_map (λ p. p.now) (slice_get parts i)
get-dereferenced [] i = refl
get-dereferenced (p ∷ parts) zero = refl
get-dereferenced (p ∷ parts) (suc i) = get-dereferenced parts i

pub length-dereferenced : (parts : List (Bor (List ℕ))) → length (dereferenced parts) ≡ length parts
length-dereferenced [] = refl
length-dereferenced (p ∷ parts) = ap suc (length-dereferenced parts)

pub dereferenced-append : (xs ys : List (Bor (List ℕ))) → dereferenced (xs ++ ys) ≡ dereferenced xs ++ dereferenced ys
dereferenced-append [] ys = refl
dereferenced-append (x ∷ xs) ys = ap (λ t. x.now ∷ t) (dereferenced-append xs ys)

pub dereferenced-take : (n : ℕ) (xs : List (Bor (List ℕ))) → dereferenced (take n xs) ≡ take n (dereferenced xs)
dereferenced-take zero xs = refl
dereferenced-take (suc n) [] = refl
dereferenced-take (suc n) (x ∷ xs) = ap (λ t. x.now ∷ t) (dereferenced-take n xs)

pub kept-dereferenced : (parts : List (Bor (List ℕ))) (last : Option (Bor (List ℕ))) → option_map (λ p. p.now) last ≡ option_map (λ p. p.now) (slice_get parts (length parts - 1)) → is_other (option_map (λ p. p.now) last) ≡ is_kept (dereferenced parts)
kept-dereferenced parts last e = ap is_other (e ∙ sym (get-dereferenced parts (length parts - 1)) ∙ ap (λ n. slice_get (dereferenced parts) (n - 1)) (sym (length-dereferenced parts)))

pub ruleset parts = (dereferenced-append, dereferenced-take, length-dereferenced)

-- behind the slash that stands first
pub after_slash : (text : List ℕ) (parts : List (Bor (List ℕ))) (n : ℕ) → IsUtf8 text → text ≡ joined (dereferenced parts) → length parts ≡ n → false ≡ (n == 0) → IsCharBoundary text 1
after_slash text [] n u is len e = cc
after_slash text (p ∷ parts) n u is len e =
    let some : 0 < length text = subst (λ (t : List ℕ). 0 < length t) (sym is) (omega arith) in
    let slash : get_or text 0 0 < 128 = subst (λ (t : List ℕ). get_or t 0 0 < 128) (sym is) (lit< tt) in
    IsCharBoundary-after_ascii text 0 u some slash
