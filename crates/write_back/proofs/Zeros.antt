-- A draft of zeros holds samples that are 0.
use Rattle.std.proofs.Common.{◌≡◌, ℕ, zero, suc, get_or, pos, ◌+◌, ◌*◌, ◌≤◌, ◌-◌, ◌<◌, Bool, true, false, List, ◌++◌, length, length-append, drop, take, replicate, refl, sym, ⊎_elim, ap, ◌∙◌, arith}
use Rattle.std.proofs.lemmas.List.{take-replicate, drop-replicate, drop-drop, drop_at, take_at, length-replicate, get_or_append_left, get_or-append_right}
use Rattle.std.proofs.lemmas.Bool.{cases_lt}
use Rattle.dted_records.specs.Head as dted
use Rattle.dted_records.specs.Places.{record_of, record_len}
use Rattle.dted_records.specs.Places as cell
use Rattle.dted_records.specs.Records.{elevation, dted_at, point_place_of}
use Rattle.write_back.specs.Columns.{cell_with_front, IsBegun, IsCell}
use Rattle.write_back.specs.Pieces.{AreBytes}
use Rattle.write_back.proofs.CellBlocks.{record_before}
use Rattle.geotransform.specs.declared.types.PixelType.{PixelType}
use Rattle.geotransform.specs.declared.types.PixelType.TheVariants.{Byte, Int8, UInt16, Int16, UInt32, Int32, UInt64, Int64}
use Rattle.std.specs.Int.{w16, cast_signed}
use Rattle.std.proofs.Math.Nat.{mul-le-mul_right}
use Rattle.byteorder.specs.Endian.{big_number}
use Rattle.hgt_tiles.specs.Samples.{hgt_at}
use Rattle.esri_hdr.specs.Head.{Head, sample_len}
use Rattle.interleaved_raw.specs.Raw.{sample_at, value_of, number_in}

zero_value : (kind : PixelType) (big : Bool) → value_of kind (number_in big (sample_len kind) (replicate (sample_len kind) 0)) ≡ pos 0
zero_value Byte true = refl
zero_value Byte false = refl
zero_value Int8 true = refl
zero_value Int8 false = refl
zero_value UInt16 true = refl
zero_value UInt16 false = refl
zero_value Int16 true = refl
zero_value Int16 false = refl
zero_value UInt32 true = refl
zero_value UInt32 false = refl
zero_value Int32 true = refl
zero_value Int32 false = refl
zero_value UInt64 true = refl
zero_value UInt64 false = refl
zero_value Int64 true = refl
zero_value Int64 false = refl

pub zero_sample : (h : Head) (n at : ℕ) → at + sample_len h.kind ≤ n → sample_at h (drop at (replicate n 0)) ≡ pos 0
zero_sample h n at within =
    ap (λ (l : List ℕ). value_of h.kind (number_in h.big (sample_len h.kind) l))
    (ap (take (sample_len h.kind)) (drop-replicate at n 0) ∙ take-replicate (sample_len h.kind) (n - at) 0 (omega arith))
    ∙ zero_value h.kind h.big

-- zeros are bytes
pub zeros_small : (n i : ℕ) → get_or (replicate n 0) i 0 < 256
zeros_small zero i = omega arith
zeros_small (suc n) zero = omega arith
zeros_small (suc n) (suc i) = zeros_small n i

-- the samples of a tile of zeros
pub zero_tile : (side x y : ℕ) → x < side → y < side → hgt_at side (replicate (2 * (side * side)) 0) x y ≡ pos 0
zero_tile side x y p q =
    let big : suc y * side ≤ side * side = mul-le-mul_right side q in
    let e : suc y * side ≡ y * side + side = grind arith in
    ap (λ (l : List ℕ). cast_signed w16 (big_number 2 l))
    (ap (take 2) (drop-replicate (2 * (y * side + x)) (2 * (side * side)) 0) ∙ take-replicate 2 (2 * (side * side) - 2 * (y * side + x)) 0 (omega arith))

got_zero : (n k : ℕ) → ◌≡◌ {A = ℕ} (get_or (replicate n 0) k 0) 0
got_zero zero k = refl
got_zero (suc n) zero = refl
got_zero (suc n) (suc k) = got_zero n k

-- what stands behind the front of a new cell
behind : (front : List ℕ) (n p k : ℕ) → length front ≤ p → p + k ≤ length front + n → take k (drop p (front ++ replicate n 0)) ≡ replicate k 0
behind front n p k past within =
    let e : length front + (p - length front) ≡ p = omega arith in
    ap (λ m. take k (drop m (front ++ replicate n 0))) (sym e)
    ∙ ap (take k) (sym (drop-drop (p - length front) (length front) (front ++ replicate n 0)) ∙ ap (drop (p - length front)) (drop_at front (replicate n 0) (length front) refl))
    ∙ ap (take k) (drop-replicate (p - length front) n 0) ∙ take-replicate k (n - (p - length front)) 0 (omega arith)

-- a cell's draft that was made
module _ (h : dted.Head) (front : List ℕ) (len : length front ≡ record_of h 0) (small : AreBytes front) where
  zero_point : (x y : ℕ) → x < h.lines → y < h.points → dted_at h (front ++ replicate (cell.needed_of h - length front) 0) x y ≡ pos 0
  zero_point x y less row =
      let m = record_before h x h.lines less in
      ap (λ (l : List ℕ). elevation (big_number 2 l)) (behind front (cell.needed_of h - length front) (record_of h x + point_place_of h y) 2 (omega arith) (omega arith))

  none_begun : (x : ℕ) → x < h.lines → IsBegun h (front ++ replicate (cell.needed_of h - length front) 0) x → ⊥
  none_begun x less begun =
      let m = record_before h x h.lines less in
      let zero_byte : ◌≡◌ {A = ℕ} (get_or (front ++ replicate (cell.needed_of h - length front) 0) (record_of h x) 0) 0 =
      get_or-append_right front (replicate (cell.needed_of h - length front) 0) (length front) (record_of h x) 0 refl (omega arith) ∙ got_zero (cell.needed_of h - length front) (record_of h x - length front) in
      let clash : ◌≡◌ {A = ℕ} 0 170 = sym zero_byte ∙ begun in
      absurd (omega arith)

  all_small : AreBytes (front ++ replicate (cell.needed_of h - length front) 0)
  all_small i = ⊎_elim
      (λ (low : i < length front). let e = get_or_append_left front (replicate (cell.needed_of h - length front) 0) 0 i low in let s = small i in omega arith)
      (λ (past : length front ≤ i). let e = get_or-append_right front (replicate (cell.needed_of h - length front) 0) (length front) i 0 refl past in let s = zeros_small (cell.needed_of h - length front) (i - length front) in omega arith)
      (cases_lt i (length front))

  pub new_cell : IsCell (cell_with_front h front) (front ++ replicate (cell.needed_of h - length front) 0)
  new_cell = record {
    small = all_small;
    front = take_at front (replicate (cell.needed_of h - length front) 0) (record_of h 0) len;
    whole = λ x less begun. absurd (none_begun x less begun);
    zeros = λ x y less row none. zero_point x y less row;
  }

  pub new_long : length (front ++ replicate (cell.needed_of h - length front) 0) ≡ cell.needed_of h
  new_long = let a = length-append front (replicate (cell.needed_of h - length front) 0) in let b : length (replicate {A = ℕ} (cell.needed_of h - length front) 0) ≡ cell.needed_of h - length front = length-replicate (cell.needed_of h - length front) 0 in let m : record_of h 0 ≤ cell.needed_of h = omega arith in omega arith

  pub new_point : (x y : ℕ) → x < h.lines → y < h.points → dted_at h (front ++ replicate (cell.needed_of h - length front) 0) x y ≡ pos 0
  new_point x y less row = zero_point x y less row
