-- Records that are put into a cell's file.
use Rattle.std.proofs.Common.{◌≡◌, ◌≢◌, ℕ, suc, ℤ, pos, ◌+◌, ◌*◌, ◌<◌, ◌≤◌, ◌⊎◌, inl, inr, ⊎_elim, List, [], ◌∷◌, length, take, get_or, Ok, sym, ap, ◌∙◌, refl, arith, zero-add, length-append}
use Rattle.std.specs.Prelude.{reverse}
use Rattle.std.specs.List.{flat_map, sum}
use Rattle.std.proofs.lemmas.List.{length-reverse}
use Rattle.std.proofs.lemmas.List.FromFn.{get_or-map-range_with_len}
use Rattle.std.proofs.lemmas.Bool.{cases_lt}
use Rattle.std.proofs.Math.Nat.{mul-le-mul_right}
use Rattle.byteorder.specs.Endian.{big_bytes, big_number}
use Rattle.byteorder.specs.Numbers.{length-bytes_high_first}
use Rattle.outside.specs.Outside.{put_at}
use Rattle.dted_records.specs.Head.{Head, dted_head}
use Rattle.dted_records.specs.Places.{record_len, record_of}
use Rattle.dted_records.specs.Records.{elevation, point_place_of, column_of, dted_at}
use Rattle.dted_records.specs.Written.{elevation_bytes, front_bytes, points_bytes, summed_bytes, record_bytes}
use Rattle.dted_records.proofs.Columns.{column_stands}
use Rattle.dted_records.proofs.Encoded.{elevation_bytes_len, record_again}
use Rattle.written_samples.specs.Put.{IsRecordFor}
use Rattle.written_samples.proofs.CellHeads.{head_stays}
use Rattle.written_samples.proofs.Put.{put_stands, part_beside}

points_len : (ns : List ℤ) → length (flat_map elevation_bytes ns) ≡ 2 * length ns
points_len [] = refl
points_len (n ∷ ns) = let a = length-append (elevation_bytes n) (flat_map elevation_bytes ns) in let b = elevation_bytes_len n in let c = points_len ns in omega arith

record_size : (x : ℕ) (samples : List ℤ) → length (record_bytes x samples) ≡ 12 + 2 * length samples
record_size x samples =
    let a = length-append (summed_bytes x samples) (big_bytes 4 (sum (summed_bytes x samples))) in
    let b = length-append (front_bytes x) (points_bytes samples) in
    let c = points_len (reverse samples) in
    let d : length (reverse samples) ≡ length samples = length-reverse samples in
    let e = length-bytes_high_first 4 (sum (summed_bytes x samples)) in
    let f : length (front_bytes x) ≡ 8 = refl in
    omega arith

-- a record ends before each later one
record_before : (h : Head) (v x : ℕ) → v < x → record_of h v + record_len h ≤ record_of h x
record_before h v x less =
    let big : suc v * record_len h ≤ x * record_len h = mul-le-mul_right (record_len h) less in
    let e : suc v * record_len h ≡ v * record_len h + record_len h = grind arith in
    omega arith

module _ (h : Head) (file : List ℕ) (x : ℕ) (samples : List ℤ) (put : IsRecordFor h file x samples) where
  size : length (record_bytes x samples) ≡ record_len h
  size = record_size x samples ∙ ap (λ n. 12 + 2 * n) put.points

  within : record_of h x + length (record_bytes x samples) ≤ length file
  within = let s = size in let w = put.in_file in omega arith

  pub record_column : column_of h (put_at (record_of h x) (record_bytes x samples) file) x ≡ samples
  record_column =
      sym (column_stands h (put_at (record_of h x) (record_bytes x samples) file) (record_bytes x samples) x size (put_stands file (record_bytes x samples) (record_of h x) within))
      ∙ record_again h samples x (big_bytes 4 (sum (summed_bytes x samples))) (sym put.points) put.range

  pub record_read : (y : ℕ) → y < h.points → dted_at h (put_at (record_of h x) (record_bytes x samples) file) x y ≡ get_or samples y (pos 0)
  record_read y less =
      sym (get_or-map-range_with_len (λ y. dted_at h (put_at (record_of h x) (record_bytes x samples) file) x y) 0 h.points y y (pos 0) less (zero-add y))
      ∙ ap (λ (l : List ℤ). get_or l y (pos 0)) record_column

  beside : (u p : ℕ) → u ≢ x → record_of h u ≤ p → p + 2 ≤ record_of h u + record_len h → (p + 2 ≤ record_of h x) ⊎ (record_of h x + length (record_bytes x samples) ≤ p)
  beside u p other low high =
      let s = size in
      ⊎_elim (λ (before : u < x). inl (let a = record_before h u x before in omega arith))
      (λ (from : x ≤ u). ⊎_elim (λ (behind : x < u). inr (let a = record_before h x u behind in omega arith))
      (λ (to : u ≤ x). absurd (other (omega arith)))
      (cases_lt x u))
      (cases_lt u x)

  pub record_others : (u v : ℕ) → u ≢ x → v < h.points → dted_at h (put_at (record_of h x) (record_bytes x samples) file) u v ≡ dted_at h file u v
  record_others u v other less = ap (λ (l : List ℕ). elevation (big_number 2 l)) (part_beside file (record_bytes x samples) (record_of h x) within (record_of h u + point_place_of h v) 2 (beside u (record_of h u + point_place_of h v) other (omega arith) (omega arith)))

  pub front_stays : take (record_of h 0) (put_at (record_of h x) (record_bytes x samples) file) ≡ take (record_of h 0) file
  front_stays = part_beside file (record_bytes x samples) (record_of h x) within 0 (record_of h 0) (inl (omega arith))

  pub head_again : dted_head file ≡ Ok h → dted_head (put_at (record_of h x) (record_bytes x samples) file) ≡ Ok h
  head_again is =
      let place : record_of h 0 ≡ h.skip + 3428 = omega arith in
      head_stays file (put_at (record_of h x) (record_bytes x samples) file) h
      (ap (λ n. take n (put_at (record_of h x) (record_bytes x samples) file)) (sym place) ∙ front_stays ∙ ap (λ n. take n file) place) is
