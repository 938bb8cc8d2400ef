-- A name that is that of a tile's corner, in upper or lower case, is read as the corner.
use Rattle.std.proofs.Common.{◌≡◌, ℕ, ℤ, ◌+◌, ◌-◌, ◌*◌, ◌/◌, ◌%◌, ◌<◌, ◌≤◌, Bool, true, false, cond, List, [], ◌∷◌, ◌++◌, length, map, take, drop, get_or, refl, sym, ap, ◌∙◌, arith, pos, negsuc, Option, Some, None, codes, bytes_eq, length-append}
use Rattle.std.specs.Prelude.{unsigned_abs, nat_lt}
use Rattle.std.specs.Char.{to_ascii_lowercase, to_ascii_uppercase}
use Rattle.std.proofs.lemmas.Bool.Decides.{nat_tests}
use Rattle.std.proofs.lemmas.Slice.Eq.{bytes_eq-Decides}
use Rattle.std.proofs.lemmas.List.{length-map}
use Rattle.lists_and_answers.specs.Options.{◌>>=◌}
use Rattle.lists_and_answers.specs.Texts.{same_letters}
use Rattle.geotransform.specs.Print.{letter_of, two_digits, three_digits}
use Rattle.hgt_tiles.specs.Names.{Place, IsPlace, hemisphere_of, degrees_in, corner_of, name_of}
use Rattle.hgt_tiles.proofs.Named.{name_again}

-- a character that differs from a digit at most by its case is the digit
digit_same : (c d : ℕ) → to_ascii_lowercase c ≡ to_ascii_lowercase (48 + d % 10) → c ≡ 48 + d % 10
digit_same c d e = grind (arith, nat_tests)

-- one that differs from a letter at most by its case tells the same side
north_same : (c : ℕ) (degrees : ℤ) → to_ascii_lowercase c ≡ to_ascii_lowercase (letter_of 78 83 degrees) → hemisphere_of 78 83 c ≡ hemisphere_of 78 83 (letter_of 78 83 degrees)
north_same c (pos n) e = grind (arith, nat_tests)
north_same c (negsuc n) e = grind (arith, nat_tests)

east_same : (c : ℕ) (degrees : ℤ) → to_ascii_lowercase c ≡ to_ascii_lowercase (letter_of 69 87 degrees) → hemisphere_of 69 87 c ≡ hemisphere_of 69 87 (letter_of 69 87 degrees)
east_same c (pos n) e = grind (arith, nat_tests)
east_same c (negsuc n) e = grind (arith, nat_tests)

-- degrees by the side that a letter tells
degrees_same : (up down limit c d : ℕ) (digits : List ℕ) → hemisphere_of up down c ≡ hemisphere_of up down d → degrees_in up down limit (c ∷ digits) ≡ degrees_in up down limit (d ∷ digits)
unfolding degrees_in
degrees_same up down limit c d digits e = rw e refl

abbrev place : ℤ → ℤ → Place
place lat lon = record { lat = lat; lon = lon }

front_same : (p : Place) (a0 a1 a2 a3 a4 a5 a6 : ℕ) (rest : List ℕ) → (a1 ∷ a2 ∷ []) ≡ two_digits (unsigned_abs p.lat) → (a4 ∷ a5 ∷ a6 ∷ []) ≡ three_digits (unsigned_abs p.lon)
    → hemisphere_of 78 83 a0 ≡ hemisphere_of 78 83 (letter_of 78 83 p.lat) → hemisphere_of 69 87 a3 ≡ hemisphere_of 69 87 (letter_of 69 87 p.lon)
    → nat_lt (length (a0 ∷ a1 ∷ a2 ∷ a3 ∷ a4 ∷ a5 ∷ a6 ∷ rest)) 7 ≡ false
    → corner_of (a0 ∷ a1 ∷ a2 ∷ a3 ∷ a4 ∷ a5 ∷ a6 ∷ rest) ≡ corner_of (name_of p)
unfolding corner_of
front_same p a0 a1 a2 a3 a4 a5 a6 rest lat lon north east long =
    let read = λ (a b : Option ℤ). a >>= λ lat. (b >>= λ lon. Some (place lat lon)) in
    ap (λ (b : Bool). cond b None (read (degrees_in 78 83 90 (a0 ∷ a1 ∷ a2 ∷ [])) (degrees_in 69 87 180 (a3 ∷ a4 ∷ a5 ∷ a6 ∷ [])))) long
    ∙ ap (λ (l : List ℕ). read (degrees_in 78 83 90 (a0 ∷ l)) (degrees_in 69 87 180 (a3 ∷ a4 ∷ a5 ∷ a6 ∷ []))) lat
    ∙ ap (λ (l : List ℕ). read (degrees_in 78 83 90 (a0 ∷ two_digits (unsigned_abs p.lat))) (degrees_in 69 87 180 (a3 ∷ l))) lon
    ∙ ap (λ o. read o (degrees_in 69 87 180 (a3 ∷ three_digits (unsigned_abs p.lon)))) (degrees_same 78 83 90 a0 (letter_of 78 83 p.lat) (two_digits (unsigned_abs p.lat)) north)
    ∙ ap (λ o. read (degrees_in 78 83 90 (letter_of 78 83 p.lat ∷ two_digits (unsigned_abs p.lat))) o) (degrees_same 69 87 180 a3 (letter_of 69 87 p.lon) (three_digits (unsigned_abs p.lon)) east)

pub name_read : (name : List ℕ) (p : Place) → IsPlace p → same_letters name (name_of p ++ codes ".hgt") ≡ true → corner_of name ≡ Some p
name_read name p is same = by name size letters ∙ name_again p is
  where
    whole : List ℕ
    whole = name_of p ++ codes ".hgt"

    letters : map to_ascii_lowercase name ≡ map to_ascii_lowercase (name_of p ++ codes ".hgt")
    letters = (bytes_eq-Decides (map to_ascii_lowercase name) (map to_ascii_lowercase (name_of p ++ codes ".hgt"))).0 same

    size : length name ≡ 11
    size = sym (length-map name to_ascii_lowercase) ∙ ap length letters ∙ length-map (name_of p ++ codes ".hgt") to_ascii_lowercase

    by : (a : List ℕ) → length a ≡ 11 → map to_ascii_lowercase a ≡ map to_ascii_lowercase (name_of p ++ codes ".hgt") → corner_of a ≡ corner_of (name_of p)
    by (a0 ∷ a1 ∷ a2 ∷ a3 ∷ a4 ∷ a5 ∷ a6 ∷ rest) long e =
        let n = λ (xs : List ℕ) (i : ℕ). get_or xs i 0 in
        let d1 : a1 ≡ 48 + unsigned_abs p.lat / 10 % 10 = digit_same a1 (unsigned_abs p.lat / 10) (ap (λ xs. n xs 1) e) in
        let d2 : a2 ≡ 48 + unsigned_abs p.lat % 10 = digit_same a2 (unsigned_abs p.lat) (ap (λ xs. n xs 2) e) in
        let d4 : a4 ≡ 48 + unsigned_abs p.lon / 100 % 10 = digit_same a4 (unsigned_abs p.lon / 100) (ap (λ xs. n xs 4) e) in
        let d5 : a5 ≡ 48 + unsigned_abs p.lon / 10 % 10 = digit_same a5 (unsigned_abs p.lon / 10) (ap (λ xs. n xs 5) e) in
        let d6 : a6 ≡ 48 + unsigned_abs p.lon % 10 = digit_same a6 (unsigned_abs p.lon) (ap (λ xs. n xs 6) e) in
        front_same p a0 a1 a2 a3 a4 a5 a6 rest
        (rw (d1, d2) refl) (rw (d4, d5, d6) refl)
        (north_same a0 p.lat (ap (λ xs. n xs 0) e)) (east_same a3 p.lon (ap (λ xs. n xs 3) e))
        (ap (λ k. nat_lt k 7) long)
    by [] long e = absurd (omega (arith, long))
    by (a0 ∷ []) long e = absurd (omega (arith, long))
    by (a0 ∷ a1 ∷ []) long e = absurd (omega (arith, long))
    by (a0 ∷ a1 ∷ a2 ∷ []) long e = absurd (omega (arith, long))
    by (a0 ∷ a1 ∷ a2 ∷ a3 ∷ []) long e = absurd (omega (arith, long))
    by (a0 ∷ a1 ∷ a2 ∷ a3 ∷ a4 ∷ []) long e = absurd (omega (arith, long))
    by (a0 ∷ a1 ∷ a2 ∷ a3 ∷ a4 ∷ a5 ∷ []) long e = absurd (omega (arith, long))
