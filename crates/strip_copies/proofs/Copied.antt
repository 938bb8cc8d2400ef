-- Samples of pieces, each of which is that of one pixel of the source.
use Rattle.std.proofs.Common.{◌≡◌, ℕ, ℤ, ◌+◌, ◌-◌, ◌*◌, ◌/◌, ◌%◌, ◌<◌, ◌≤◌, ◌+ℤ◌, List, length, ap, sym, ◌∙◌, subst, arith, pos, negsuc, true, Option, Some, None, get_or}
use Rattle.std.specs.Prelude.{nat_eq, slice_get, unsigned_abs, ◌&&◌}
use Rattle.std.specs.Option.{option_map}
use Rattle.std.specs.List.{All}
use Rattle.std.proofs.Math.Nat.{div-lt_iff_lt-mul, mod-lt, mul_comm}
use Rattle.std.proofs.lemmas.Bool.{and_parts, cond_below, eqb-true}
use Rattle.std.proofs.lemmas.Bool.Decides.{nat_tests}
use Rattle.std.proofs.lemmas.Int.{ints}
use Rattle.std.proofs.lemmas.Option.{slice_get-get_or}
use Rattle.geotransform.specs.declared.types.Rect.{Rect}
use Rattle.geotransform.specs.declared.types.Size.{Size}
use Rattle.geotransform.specs.Pixels.{within}
use Rattle.outside.specs.Outside.{Files}
use Rattle.band_blocks.proofs.Corners.{filled-row_by_row, get_or-row_by_row}
use Rattle.catalog.specs.Pixels.{pixel_of_name}
use Rattle.catalog.specs.Places.{row_by_row}
use Rattle.translate_plan.specs.declared.band.OutBand.{OutBand}
use Rattle.translate_plan.specs.Bands.{no_out_band}
use Rattle.translate_plan.specs.Plan.{Planned, IsPlan, out_pixel, shown, shown_column, shown_line}
use Rattle.strip_copies.specs.declared.holding.Holding.{Holding}
use Rattle.strip_copies.specs.declared.pieces.Piece.{Piece}
use Rattle.strip_copies.specs.Pieces.{is_copied, lies_on, piece_rect, source_rect, IsPiece}
use Rattle.strip_copies.specs.Rows.{nearest, IsHolding, IsSample, IsStrip}
use Rattle.strip_copies.specs.Copies.{IsHeldIn}
use Rattle.strip_copies.proofs.Samples.{held_sample}
use Rattle.strip_copies.proofs.Straight.{shown_own, wide_of}
use Rattle.strip_copies.proofs.Told.{any_default, held_of}

-- places from an offset on, so many of which lie on a side
lies_within : (side : ℕ) (a : ℤ) (n : ℕ) → lies_on side a n ≡ true → unsigned_abs a + n ≤ side
lies_within side (pos m) n lies = grind (arith, nat_tests, ints)
lies_within side (negsuc m) n lies = absurd (cc)

lies_at : (side : ℕ) (a : ℤ) (n k : ℕ) → lies_on side a n ≡ true → k < n → within side (a +ℤ pos k) ≡ Some (unsigned_abs a + k)
lies_at side (pos m) n k lies less =
    let fits : m + n ≤ side = lies_within side (pos m) n lies in
    sym (cond_below (m + k) side (Some (m + k)) None (omega arith))
lies_at side (negsuc m) n k lies less = absurd (cc)

module _ (p : Planned) (source : Size) (copied : is_copied p source ≡ true) where
  sides : (nat_eq p.window.w p.size.w && nat_eq p.window.h p.size.h) ≡ true
  sides = (and_parts (nat_eq p.window.w p.size.w && nat_eq p.window.h p.size.h) (lies_on source.w p.x p.size.w && lies_on source.h p.y p.size.h) copied).0

  places : (lies_on source.w p.x p.size.w && lies_on source.h p.y p.size.h) ≡ true
  places = (and_parts (nat_eq p.window.w p.size.w && nat_eq p.window.h p.size.h) (lies_on source.w p.x p.size.w && lies_on source.h p.y p.size.h) copied).1

  is_wide : p.window.w ≡ p.size.w
  is_wide = eqb-true p.window.w p.size.w (and_parts (nat_eq p.window.w p.size.w) (nat_eq p.window.h p.size.h) sides).0

  is_tall : p.window.h ≡ p.size.h
  is_tall = eqb-true p.window.h p.size.h (and_parts (nat_eq p.window.w p.size.w) (nat_eq p.window.h p.size.h) sides).1

  lies_across : lies_on source.w p.x p.size.w ≡ true
  lies_across = (and_parts (lies_on source.w p.x p.size.w) (lies_on source.h p.y p.size.h) places).0

  lies_down : lies_on source.h p.y p.size.h ≡ true
  lies_down = (and_parts (lies_on source.w p.x p.size.w) (lies_on source.h p.y p.size.h) places).1

  -- the column and the line of the source that one of the output shows
  pub column_shown : (i : ℕ) → i < p.size.w → within source.w (shown_column p i) ≡ Some (unsigned_abs p.x + i)
  column_shown i less =
      let own : shown p.window.w p.size.w i ≡ i = ap (λ n. shown n p.size.w i) is_wide ∙ shown_own p.size.w i (omega arith) in
      ap (λ n. within source.w (p.x +ℤ pos n)) own ∙ lies_at source.w p.x p.size.w i lies_across less

  pub line_shown : (j : ℕ) → j < p.size.h → within source.h (shown_line p j) ≡ Some (unsigned_abs p.y + j)
  line_shown j less =
      let own : shown p.window.h p.size.h j ≡ j = ap (λ n. shown n p.size.h j) is_tall ∙ shown_own p.size.h j (omega arith) in
      ap (λ n. within source.h (p.y +ℤ pos n)) own ∙ lies_at source.h p.y p.size.h j lies_down less

  -- a piece lies in the raster
  pub piece_across : (piece : Piece) → IsPiece p piece → (unsigned_abs p.x + piece.left) + (piece.right - piece.left) ≤ source.w
  piece_across piece is =
      let a = lies_within source.w p.x p.size.w lies_across in
      let b = is.columns in
      let c = is.width in
      omega arith

  pub piece_down : (piece : Piece) → IsPiece p piece → (unsigned_abs p.y + piece.first) + (piece.end - piece.first) ≤ source.h
  piece_down piece is =
      let a = lies_within source.h p.y p.size.h lies_down in
      let b = is.lines in
      let c = is.height in
      omega arith

-- the band of the source that a band of a plan shows
pub source_known : (bands : List OutBand) (k count n : ℕ) → k < length bands → All (λ (b : OutBand). b.source < count) bands → option_map (λ (b : OutBand). b.source) (slice_get bands k) ≡ Some n → n < count
source_known bands k count n less all is =
    let b = get_or bands k no_out_band in
    let found : slice_get bands k ≡ Some b = slice_get-get_or bands k no_out_band less in
    let same : Some b.source ≡ Some n = sym (ap (option_map (λ (b : OutBand). b.source)) found) ∙ is in
    let source : b.source ≡ n = cc in
    subst (λ m. m < count) source (all k no_out_band less)

abbrev rect_from : ℕ → ℕ → Piece → Rect
rect_from x y piece = record { x = x; y = y; w = piece.right - piece.left; h = piece.end - piece.first }

-- where a piece's pixels lie
pub placed : (p : Planned) (piece : Piece) (x y : ℕ) → x ≡ unsigned_abs p.x + piece.left → y ≡ unsigned_abs p.y + piece.first → rect_from x y piece ≡ source_rect p piece
placed p piece x y left top = ap (λ n. rect_from n y piece) left ∙ ap (λ n. rect_from (unsigned_abs p.x + piece.left) n piece) top

-- the first n samples of a piece, row by row
abbrev pub AreInPiece : Option Files → List ℕ → Planned → Size → Piece → ℕ → List ℤ → Type 0
AreInPiece told name p source piece n samples = (at : ℕ) → at < n →
    IsSample told name p source piece.band (piece.left + at % (piece.right - piece.left)) (piece.first + at / (piece.right - piece.left)) (get_or samples at (pos 0))

-- what a band makes of each pixel of a piece
pub piece_samples : (told : Option Files) (name : List ℕ) (p : Planned) (source : Size) → is_copied p source ≡ true → (piece : Piece) → IsPiece p piece → (h : Holding) → IsHolding p piece.band h
    → (raw out : List ℤ) → IsStrip told name p piece.band (source_rect p piece) raw → length raw ≡ (piece.right - piece.left) * (piece.end - piece.first)
    → ((i : ℕ) → i < length raw → get_or out i (pos 0) ≡ nearest h.least h.most (get_or raw i (pos 0))) → AreInPiece told name p source piece (length raw) out
piece_samples told name p source copied piece is h holding raw out strip long made at less =
    let w = piece.right - piece.left in
    let t = piece.end - piece.first in
    let inside : at < w * t = omega arith in
    let turned : w * t ≡ t * w = mul_comm w t in
    let some : 0 < w = wide_of at w t inside in
    let column : at % w < w = mod-lt at some in
    let line : at / w < t = (div-lt_iff_lt-mul some).1 (omega arith) in
    let i = piece.left + at % w in
    let j = piece.first + at / w in
    let left = is.width in
    let low = is.height in
    let x : within source.w (shown_column p i) ≡ Some (unsigned_abs p.x + i) = column_shown p source copied i (omega arith) in
    let y : within source.h (shown_line p j) ≡ Some (unsigned_abs p.y + j) = line_shown p source copied j (omega arith) in
    let across : (unsigned_abs p.x + piece.left) + at % w ≡ unsigned_abs p.x + i = omega arith in
    let down : (unsigned_abs p.y + piece.first) + at / w ≡ unsigned_abs p.y + j = omega arith in
    subst (IsSample told name p source piece.band i j) (sym (made at less))
    (held_sample told name p source piece.band i j (unsigned_abs p.x + i) (unsigned_abs p.y + j) h holding (get_or raw at (pos 0)) x y
    (λ m e.
    ap (λ l. get_or l at (pos 0)) (strip m holding.band e holding.at)
    ∙ get_or-row_by_row (pixel_of_name m name holding.band.source) (source_rect p piece) at (pos 0) inside
    ∙ ap (λ n. pixel_of_name m name holding.band.source n ((unsigned_abs p.y + piece.first) + at / w)) across
    ∙ ap (pixel_of_name m name holding.band.source (unsigned_abs p.x + i)) down))

-- over a folder that tells its files, the samples are those of the output
pub piece_told : (told : Option Files) (name : List ℕ) (p : Planned) (source : Size) (piece : Piece) (n : ℕ) (m : Files) (out : List ℤ) → told ≡ Some m → length out ≡ (piece.right - piece.left) * (piece.end - piece.first) → n ≡ length out
    → AreInPiece told name p source piece n out → out ≡ row_by_row (out_pixel p source (pixel_of_name m name) piece.band) (piece_rect piece)
piece_told told name p source piece n m out t size whole are =
    filled-row_by_row (out_pixel p source (pixel_of_name m name) piece.band) (piece_rect piece) out (pos 0) size
    (λ at less. (are at (omega (arith, less, size, whole))).named m t)

-- a band of the output can hold each sample
pub piece_held : (told : Option Files) (name : List ℕ) (p : Planned) (source : Size) (piece : Piece) (n : ℕ) (out : List ℤ) → IsPlan p → n ≡ length out → AreInPiece told name p source piece n out → All (IsHeldIn p piece.band) out
piece_held told name p source piece n out plan whole are at d less =
    let w = piece.right - piece.left in
    subst (IsHeldIn p piece.band) (any_default out at d less)
    (held_of told name p source piece.band (piece.left + at % w) (piece.first + at / w) (get_or out at (pos 0)) plan (are at (omega (arith, less, whole))))
