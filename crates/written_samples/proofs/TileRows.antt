-- Samples that are put into a tile's file.
use Rattle.std.proofs.Common.{◌≡◌, ℕ, suc, ℤ, pos, ◌+◌, ◌*◌, ◌<◌, ◌≤◌, ◌⊎◌, inl, inr, ⊎_elim, List, [], ◌∷◌, length, get_or, sym, ap, ◌∙◌, refl, arith, zero-add, length-append}
use Rattle.std.specs.Int.{w16, cast_signed}
use Rattle.std.proofs.lemmas.List.FromFn.{get_or-map-range_with_len}
use Rattle.std.proofs.lemmas.Bool.{cases_lt}
use Rattle.std.proofs.Math.Nat.{mul-le-mul_right}
use Rattle.byteorder.specs.Endian.{big_number}
use Rattle.outside.specs.Outside.{put_at}
use Rattle.hgt_tiles.specs.Samples.{hgt_at, line_of, sample_bytes, row_bytes}
use Rattle.hgt_tiles.proofs.Rows.{row_again, row_stands, sample_bytes_len}
use Rattle.written_samples.specs.Put.{IsInRow, IsRowFor}
use Rattle.written_samples.proofs.Put.{put_stands, part_beside}

bytes_len : (ns : List ℤ) → length (row_bytes ns) ≡ 2 * length ns
bytes_len [] = refl
bytes_len (n ∷ ns) = let a = length-append (sample_bytes n) (row_bytes ns) in let b = sample_bytes_len n in let c = bytes_len ns in omega arith

-- a line ends before each later one
line_before : (side v y : ℕ) → v < y → v * side + side ≤ y * side
line_before side v y less = let big : suc v * side ≤ y * side = mul-le-mul_right side less in let e : suc v * side ≡ v * side + side = grind arith in omega arith

module _ (side : ℕ) (file : List ℕ) (x y : ℕ) (samples : List ℤ) (row : IsRowFor side file x y samples) where
  within : 2 * (y * side + x) + length (row_bytes samples) ≤ length file
  within = let w = row.in_file in let n = bytes_len samples in omega arith

  pub row_line : line_of side (put_at (2 * (y * side + x)) (row_bytes samples) file) x y (length samples) ≡ samples
  row_line = sym (row_stands (put_at (2 * (y * side + x)) (row_bytes samples) file) (row_bytes samples) side x y (length samples) (bytes_len samples) (put_stands file (row_bytes samples) (2 * (y * side + x)) within)) ∙ row_again samples row.range

  pub row_read : (i : ℕ) → i < length samples → hgt_at side (put_at (2 * (y * side + x)) (row_bytes samples) file) (x + i) y ≡ get_or samples i (pos 0)
  row_read i less =
      sym (get_or-map-range_with_len (λ i. hgt_at side (put_at (2 * (y * side + x)) (row_bytes samples) file) (x + i) y) 0 (length samples) i i (pos 0) less (zero-add i))
      ∙ ap (λ (l : List ℤ). get_or l i (pos 0)) row_line

  beside : (u v : ℕ) → u < side → (IsInRow x y (length samples) u v → ⊥) → (2 * (v * side + u) + 2 ≤ 2 * (y * side + x)) ⊎ (2 * (y * side + x) + length (row_bytes samples) ≤ 2 * (v * side + u))
  beside u v column other =
      let n = bytes_len samples in
      let columns = row.in_columns in
      ⊎_elim (λ (above : v < y). inl (let a = line_before side v y above in omega arith))
      (λ (from : y ≤ v).
      ⊎_elim (λ (below : y < v). inr (let a = line_before side y v below in omega arith))
      (λ (to : v ≤ y).
      let line : v ≡ y = omega arith in
      let lines : v * side ≡ y * side = ap (λ m. m * side) line in
      ⊎_elim (λ (left : u < x). inl (omega arith))
      (λ (not_left : x ≤ u). ⊎_elim (λ (right : u < x + length samples). absurd (other (record { line = line; left = not_left; right = right }))) (λ (past : x + length samples ≤ u). inr (omega arith)) (cases_lt u (x + length samples)))
      (cases_lt u x))
      (cases_lt y v))
      (cases_lt v y)

  pub row_others : (u v : ℕ) → u < side → (IsInRow x y (length samples) u v → ⊥) → hgt_at side (put_at (2 * (y * side + x)) (row_bytes samples) file) u v ≡ hgt_at side file u v
  row_others u v column other = ap (λ (l : List ℕ). cast_signed w16 (big_number 2 l)) (part_beside file (row_bytes samples) (2 * (y * side + x)) within (2 * (v * side + u)) 2 (beside u v column other))
