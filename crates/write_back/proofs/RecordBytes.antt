-- The bytes of a record.
use Rattle.std.proofs.Common.{◌≡◌, ℕ, zero, suc, ℤ, pos, negsuc, ◌+◌, ◌-◌, ◌*◌, ◌<◌, ◌≤◌, true, List, [], ◌∷◌, get_or, length, map, take, drop, replicate, ⊎_elim, sym, ap, ◌∙◌, refl, arith, zero-add, length-append}
use Rattle.std.specs.Prelude.{reverse}
use Rattle.std.specs.List.{All, flat_map, range_with_len, sum}
use Rattle.std.proofs.lemmas.Int.{ints}
use Rattle.std.proofs.lemmas.Bool.Decides.{nat_tests}
use Rattle.std.proofs.lemmas.List.{get_or-take, get_or-drop, get_or-replicate, length-replicate, length-reverse, take-replicate, drop-replicate}
use Rattle.std.proofs.lemmas.Bool.{cases_lt}
use Rattle.std.proofs.lemmas.List.FromFn.{fill_by_all, length-map-range_with_len, get_or-map-range_with_len}
use Rattle.byteorder.specs.Endian.{big_number, big_bytes}
use Rattle.byteorder.specs.Numbers.{length-bytes_high_first, big_from-lt}
use Rattle.dted_records.specs.Records.{elevation, elevation_in, point_place_of, two_at, dted_at, column_of}
use Rattle.dted_records.specs.Head.{Head, part}
use Rattle.dted_records.specs.Places.{record_len}
use Rattle.dted_records.specs.Written.{IsElevation, elevation_bytes, front_bytes, points_bytes, summed_bytes, record_bytes}
use Rattle.dted_records.proofs.Encoded.{elevation_bytes_len}
use Rattle.write_back.specs.Pieces.{AreBytes}
use Rattle.write_back.specs.Columns.{is_elevation}

-- what can be written
pub elevation_of : (n : ℤ) → is_elevation n ≡ true → IsElevation n
elevation_of (pos n) h = grind (arith, nat_tests, ints)
elevation_of (negsuc n) h = grind (arith, nat_tests, ints)

pub elevations_of : (ns : List ℤ) → All (λ n. is_elevation n ≡ true) ns → All IsElevation ns
elevations_of ns all k d less = elevation_of (get_or ns k d) (all k d less)

points_len : (ns : List ℤ) → length (flat_map elevation_bytes ns) ≡ 2 * length ns
points_len [] = refl
points_len (n ∷ ns) = let a = length-append (elevation_bytes n) (flat_map elevation_bytes ns) in let b = elevation_bytes_len n in let c = points_len ns in omega arith

pub record_size : (x : ℕ) (samples : List ℤ) → length (record_bytes x samples) ≡ 12 + 2 * length samples
record_size x samples =
    let a = length-append (summed_bytes x samples) (big_bytes 4 (sum (summed_bytes x samples))) in
    let b = length-append (front_bytes x) (points_bytes samples) in
    let c = points_len (reverse samples) in
    let d : length (reverse samples) ≡ length samples = length-reverse samples in
    let e = length-bytes_high_first 4 (sum (summed_bytes x samples)) in
    let f : length (front_bytes x) ≡ 8 = refl in
    omega arith

take_at_most : (n : ℕ) (xs : List ℕ) → length (take n xs) ≤ n
take_at_most zero xs = omega arith
take_at_most (suc n) [] = omega arith
take_at_most (suc n) (x ∷ xs) = let l = take_at_most n xs in omega arith

none_past : (xs : List ℕ) (i : ℕ) → length xs ≤ i → get_or xs i 0 ≡ 0
none_past [] i h = refl
none_past (x ∷ xs) zero h = absurd (omega arith)
none_past (x ∷ xs) (suc i) h = none_past xs i (omega arith)

part_small : (at : ℕ) (bytes : List ℕ) → AreBytes bytes → (i : ℕ) → get_or (part at 2 bytes) i 0 < 256
part_small at bytes small i = ⊎_elim
    (λ (low : i < 2). let e = get_or-take 2 (drop at bytes) i 0 low in let f = get_or-drop at bytes i 0 in let s = small (at + i) in omega arith)
    (λ (past : 2 ≤ i). let l = take_at_most 2 (drop at bytes) in let e = none_past (part at 2 bytes) i (omega arith) in omega arith)
    (cases_lt i 2)

elevation_in_range : (n : ℕ) → n < 65536 → is_elevation (elevation n) ≡ true
elevation_in_range n less = grind (arith, nat_tests, ints)

-- what a record of bytes holds is what sign and magnitude can write
pub elevations : (h : Head) (bytes : List ℕ) → AreBytes bytes → All (λ n. is_elevation n ≡ true) (map (elevation_in h bytes) (range_with_len 0 h.points))
elevations h bytes small = λ k d below.
    let n = length-map-range_with_len (elevation_in h bytes) 0 h.points in
    let less : k < h.points = omega arith in
    ap is_elevation (get_or-map-range_with_len (elevation_in h bytes) 0 h.points k k d less (zero-add k))
    ∙ elevation_in_range (two_at bytes (point_place_of h k)) (big_from-lt 0 2 (part (point_place_of h k) 2 bytes) (part_small (point_place_of h k) bytes small))
