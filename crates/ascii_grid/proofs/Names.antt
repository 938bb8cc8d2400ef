-- Names of two letters, and of another length.
use Rattle.std.proofs.Common.{◌≡◌, ◌≢◌, ℕ, Bool, true, false, List, [], ◌∷◌, refl, ap, ◌∙◌, length, ◌<◌, arith, suc, zero, get_or, take}
use Rattle.std.specs.Prelude.{◌&&◌, nat_eq, codes, Some, None, if◌then◌else◌}
use Rattle.std.specs.Char.{to_ascii_lowercase}
use Rattle.std.proofs.lemmas.Bool.Decides.{nat_tests}
use Rattle.lists_and_answers.specs.Texts.{same_letters, is_white}
use Rattle.ascii_grid.specs.Values.{is_body_start}
use Rattle.ascii_grid.specs.declared.head_parts.Key.TheVariants.{Dx, Dy}
use Rattle.ascii_grid.specs.Keys.{key_of}

and_false : (b : Bool) → (b && false) ≡ false
and_false true = refl
and_false false = refl

pub other_length : (a b : List ℕ) → length a ≢ length b → same_letters a b ≡ false
other_length [] [] other = absurd (other refl)
other_length [] (y ∷ ys) other = refl
other_length (x ∷ xs) [] other = refl
other_length (x ∷ xs) (y ∷ ys) other =
    ap (λ (b : Bool). nat_eq (to_ascii_lowercase x) (to_ascii_lowercase y) && b) (other_length xs ys (λ e. other (omega (arith, e))))
    ∙ and_false (nat_eq (to_ascii_lowercase x) (to_ascii_lowercase y))

-- a text of two letters is no name of this length
far : (text name : List ℕ) (n : ℕ) → length text ≡ 2 → length name ≡ n → 2 < n → same_letters text name ≡ false
far text name n two long more = other_length text name (λ e. omega (arith, e))

-- the keys of two letters
pub short_names : (text : List ℕ) → length text ≡ 2 → key_of text ≡ (if same_letters text (codes "dx") then Some Dx else (if same_letters text (codes "dy") then Some Dy else None))
short_names text two =
    let a = far text (codes "ncols") 5 two refl (omega arith) in
    let b = far text (codes "nrows") 5 two refl (omega arith) in
    let c = far text (codes "xllcorner") 9 two refl (omega arith) in
    let d = far text (codes "xllcenter") 9 two refl (omega arith) in
    let e = far text (codes "yllcorner") 9 two refl (omega arith) in
    let f = far text (codes "yllcenter") 9 two refl (omega arith) in
    let g = far text (codes "cellsize") 8 two refl (omega arith) in
    let h = far text (codes "NODATA_value") 12 two refl (omega arith) in
    rw (a, b, c, d, e, f, g, h) refl

-- a text of another length is none of them
pub not_dx : (text : List ℕ) → length text ≢ 2 → same_letters text (codes "dx") ≡ false
not_dx text other = other_length text (codes "dx") other

pub not_dy : (text : List ℕ) → length text ≢ 2 → same_letters text (codes "dy") ≡ false
not_dy text other = other_length text (codes "dy") other

high_dark : (c : ℕ) → 32 < c → is_white c ≡ false
high_dark c high = grind (arith, nat_tests)

high_head : (c : ℕ) (cs : List ℕ) → 64 < c → is_body_start (c ∷ cs) ≡ false
high_head c cs high = grind (arith, nat_tests)

-- two bytes of which neither is white
pub two_dark : (bytes : List ℕ) (k : ℕ) → 64 < get_or bytes 0 0 → 32 < get_or bytes 1 0 → k < 2 → is_white (get_or bytes k 0) ≡ false
two_dark bytes zero first second less = high_dark (get_or bytes 0 0) (omega (arith, first))
two_dark bytes (suc zero) first second less = high_dark (get_or bytes 1 0) second
two_dark bytes (suc (suc k)) first second less = absurd (omega arith)

-- and of which the first is a letter
pub two_head : (bytes : List ℕ) → 64 < get_or bytes 0 0 → is_body_start (take 2 bytes) ≡ false
two_head [] first = refl
two_head (c ∷ cs) first = high_head c (take 1 cs) first
