-- The first samples of a block, that were read.
use Rattle.std.proofs.Common.{◌≡◌, ◌∙◌, ap, sym, subst, ℕ, ℤ, pos, ◌+◌, ◌-◌, ◌*◌, ◌/◌, ◌<◌, ◌≤◌, arith, length, length-append, get_or, ◌++◌, take, drop, inl, inr, Bool, true, false, List, Option, Some}
use Rattle.std.specs.Prelude.{slice_get, slice_set}
use Rattle.std.specs.List.{All}
use Rattle.std.proofs.lemmas.Bool.{cases_lt}
use Rattle.std.proofs.lemmas.List.{length-drop, length-take-le, get_or_default, get_or-drop, get_or-set_other, get_or-set_same, get_or-take}
use Rattle.std.proofs.lemmas.List.Elements.{All-drop, All-take}
use Rattle.std.proofs.lemmas.Nat.{div-mul-add, mod-mul-add, mul-add-lt}
use Rattle.geotransform.specs.declared.types.Rect.{Rect}
use Rattle.outside.specs.Outside.{Files}
use Rattle.catalog.specs.Drivers.{Dataset}
use Rattle.band_blocks.specs.Blocks.{written}
use Rattle.band_blocks.proofs.Corners.{get_or-row_by_row}
use Rattle.translate_plan.specs.Plan.{Planned}
use Rattle.write_back.proofs.Lines.{written_below, written_here}
use Rattle.write_back.proofs.States.{row_fits}
use Rattle.strip_copies.specs.declared.reading.Lines.{Lines}
use Rattle.strip_copies.specs.declared.pieces.Piece.{Piece}
use Rattle.strip_copies.specs.Copies.{lines_rect, IsHeldIn}
use Rattle.strip_copies.specs.Pieces.{piece_rect}
use Rattle.output_copies.specs.Packed.{spot_pixel, HasRows, HoldsFront}
use Rattle.output_copies.specs.Parts.{AreRead, AreReadIn}
use Rattle.output_copies.specs.Steps.{raster_of}

-- lines that were read are a rectangle that was read
pub lines_read : (told : Option Files) (cat : List Dataset) (id : ℕ) (p : Planned) (lines : Lines) (samples : List ℤ) → AreRead told cat id p lines samples → AreReadIn told cat id p lines.band (lines_rect p.size lines.first lines.end) samples
lines_read told cat id p lines samples read = record { long = read.long; held = read.held; pixels = read.pixels }

-- a row among others of a width
module _ (samples : List ℤ) (wide high r : ℕ) (long : length samples ≡ wide * high) (below : r < high) where
  pub row_within : r * wide + wide ≤ length samples
  row_within = let f = row_fits r wide high below in omega (arith, f, long)

  pub row_long : length (take wide (drop (r * wide) samples)) ≡ wide
  row_long = let rest = length-drop (r * wide) samples in let f = row_within in length-take-le wide (drop (r * wide) samples) (omega (arith, rest, f))

  pub row_at : (k : ℕ) → k < wide → get_or (take wide (drop (r * wide) samples)) k (pos 0) ≡ get_or samples (r * wide + k) (pos 0)
  row_at k less = get_or-take wide (drop (r * wide) samples) k (pos 0) less ∙ get_or-drop (r * wide) samples k (pos 0)

-- the samples of a rectangle that was read
module _ (told : Option Files) (cat : List Dataset) (id : ℕ) (p : Planned) (band : ℕ) (rect : Rect) (samples : List ℤ) (read : AreReadIn told cat id p band rect samples) where
  pub place_fits : (x y : ℕ) → x < rect.w → y < rect.h → y * rect.w + x < length samples
  place_fits x y column line = let less = mul-add-lt y rect.w x rect.h line column in let long = read.long in omega (arith, less, long)

  pub held_at : (x y : ℕ) → x < rect.w → y < rect.h → IsHeldIn p band (get_or samples (y * rect.w + x) (pos 0))
  held_at x y column line = read.held (y * rect.w + x) (pos 0) (place_fits x y column line)

  pub pixel_at : (m : Files) (d : Dataset) → told ≡ Some m → slice_get cat id ≡ Some d → (x y : ℕ) → x < rect.w → y < rect.h → get_or samples (y * rect.w + x) (pos 0) ≡ raster_of m d p band (rect.x + x) (rect.y + y)
  pixel_at m d e f x y column line =
      let less = mul-add-lt y rect.w x rect.h line column in
      ap (λ l. get_or l (y * rect.w + x) (pos 0)) (read.pixels m d e f)
      ∙ get_or-row_by_row (raster_of m d p band) rect (y * rect.w + x) (pos 0) less
      ∙ ap (λ n. raster_of m d p band (rect.x + n) (rect.y + (y * rect.w + x) / rect.w)) (mod-mul-add y rect.w x column)
      ∙ ap (λ n. raster_of m d p band (rect.x + x) (rect.y + n)) (div-mul-add y rect.w x column)

  -- its row of a number
  pub row_held : (r : ℕ) → r < rect.h → All (IsHeldIn p band) (take rect.w (drop (r * rect.w) samples))
  row_held r below = All-take (IsHeldIn p band) rect.w (drop (r * rect.w) samples) (All-drop (IsHeldIn p band) (r * rect.w) samples read.held)

  pub row_held_at : (r : ℕ) → r < rect.h → (k : ℕ) → k < rect.w → IsHeldIn p band (get_or (take rect.w (drop (r * rect.w) samples)) k (pos 0))
  row_held_at r below k less = subst (IsHeldIn p band) (sym (row_at samples rect.w rect.h r read.long below k less)) (held_at k r less below)

  pub row_pixel_at : (r : ℕ) → r < rect.h → (m : Files) (d : Dataset) → told ≡ Some m → slice_get cat id ≡ Some d → (k : ℕ) → k < rect.w → get_or (take rect.w (drop (r * rect.w) samples)) k (pos 0) ≡ raster_of m d p band (rect.x + k) (rect.y + r)
  row_pixel_at r below m d e f k less = row_at samples rect.w rect.h r read.long below k less ∙ pixel_at m d e f k r less below

-- what holds of the first samples of a list, and of those that were put behind them
written_by : (P : ℕ → ℤ → Type 0) (at : ℕ) (xs old : List ℤ) → at + length xs ≤ length old → ((u : ℕ) → u < at → P u (get_or old u (pos 0))) → ((k : ℕ) → k < length xs → P (at + k) (get_or xs k (pos 0))) → (u : ℕ) → u < at + length xs → P u (get_or (written at xs old) u (pos 0))
written_by P at xs old fits low high u less = elim (cases_lt u at) [
  | inl a ↦ subst (P u) (sym (written_below at xs old u fits a)) (low u a)
  | inr b ↦ (
      let there : at + (u - at) ≡ u = omega arith in
      subst (P u) (sym (written_here at xs old u fits b less)) (subst (λ n. P n (get_or xs (u - at) (pos 0))) there (high (u - at) (omega arith)))
      )
]

module _ (told : Option Files) (cat : List Dataset) (id : ℕ) (p : Planned) (columns : Bool) (band block : ℕ) where
  -- nothing is asked of no samples
  pub front_none : (samples : List ℤ) → HoldsFront told cat id p columns band block 0 samples
  front_none samples = record { held = λ u less. absurd (omega arith); pixels = λ m d e f u less. absurd (omega arith) }

  -- more samples were put behind the first ones
  pub front_more : (at : ℕ) (xs old new : List ℤ) → new ≡ written at xs old → at + length xs ≤ length old → HoldsFront told cat id p columns band block at old
      → ((k : ℕ) → k < length xs → IsHeldIn p band (get_or xs k (pos 0)))
      → ((m : Files) (d : Dataset) → told ≡ Some m → slice_get cat id ≡ Some d → (k : ℕ) → k < length xs → get_or xs k (pos 0) ≡ spot_pixel columns (raster_of m d p band) block (at + k))
      → HoldsFront told cat id p columns band block (at + length xs) new
  front_more at xs old new is fits before held pixels = record {
    held = λ u less. subst (λ (l : List ℤ). IsHeldIn p band (get_or l u (pos 0))) (sym is) (written_by (λ u v. IsHeldIn p band v) at xs old fits before.held held u less);
    pixels = λ m d e f u less. ap (λ l. get_or l u (pos 0)) is ∙ written_by (λ u v. v ≡ spot_pixel columns (raster_of m d p band) block u) at xs old fits (before.pixels m d e f) (pixels m d e f) u less;
  }

-- one sample more of a column was taken
pub gather_more : (samples run : List ℤ) (row wide at : ℕ) (v : ℤ) → row < length run → v ≡ get_or samples (row * wide + at) (pos 0) → HasRows samples wide at row run → HasRows samples wide at (row + 1) (slice_set run row v)
gather_more samples run row wide at v within is so_far = λ r less. elim (cases_lt r row) [
  | inl before ↦ get_or-set_other run row r v (pos 0) (λ same. absurd (omega arith)) ∙ so_far r before
  | inr here ↦ (
      let last : row ≡ r = omega arith in
      subst (λ n. get_or (slice_set run row v) n (pos 0) ≡ get_or samples (n * wide + at) (pos 0)) last (get_or-set_same run row v (pos 0) within ∙ is)
      )
]

-- each sample of it can be held
pub column_held : (told : Option Files) (cat : List Dataset) (id : ℕ) (p : Planned) (piece : Piece) (samples : List ℤ) → AreReadIn told cat id p piece.band (piece_rect piece) samples → (at : ℕ) → at < piece.right - piece.left → (xs : List ℤ) → length xs ≡ piece.end - piece.first → HasRows samples (piece.right - piece.left) at (length xs) xs → All (IsHeldIn p piece.band) xs
column_held told cat id p piece samples read at column xs long rows = λ k d less. subst (IsHeldIn p piece.band) (get_or_default xs k (pos 0) d less) (subst (IsHeldIn p piece.band) (sym (rows k less)) (held_at told cat id p piece.band (piece_rect piece) samples read at k column (omega (arith, less, long))))

-- samples that are put into a list leave its length
pub long_written : (at : ℕ) (xs old : List ℤ) → at + length xs ≤ length old → length (written at xs old) ≡ length old
long_written at xs old fits =
    let a = length-append (take at old ++ xs) (drop (at + length xs) old) in
    let b = length-append (take at old) xs in
    let c = length-take-le at old (omega (arith, fits)) in
    let d = length-drop (at + length xs) old in
    omega (arith, a, b, c, d, fits)

-- a column of a piece that was read, put below the samples that stand above it
pub column_front : (told : Option Files) (cat : List Dataset) (id : ℕ) (p : Planned) (piece : Piece) (samples : List ℤ) → AreReadIn told cat id p piece.band (piece_rect piece) samples → piece.band ≡ 0 → (at : ℕ) → at < piece.right - piece.left → (xs old new : List ℤ) → length xs ≡ piece.end - piece.first → piece.first < piece.end → HasRows samples (piece.right - piece.left) at (length xs) xs
    → new ≡ written piece.first xs old → piece.end ≤ length old → HoldsFront told cat id p true 0 (piece.left + at) piece.first old → HoldsFront told cat id p true 0 (piece.left + at) piece.end new
column_front told cat id p piece samples read zero at column xs old new long some rows packed fits before =
    let end : piece.first + length xs ≡ piece.end = omega (arith, long, some) in
    subst (λ n. HoldsFront told cat id p true 0 (piece.left + at) n new) end
    (front_more told cat id p true 0 (piece.left + at) piece.first xs old new packed (omega (arith, end, fits)) before
    (λ k less. subst (λ b. IsHeldIn p b (get_or xs k (pos 0))) zero (subst (IsHeldIn p piece.band) (sym (rows k less)) (held_at told cat id p piece.band (piece_rect piece) samples read at k column (omega (arith, less, long)))))
    (λ m d e f k less.
    rows k less
    ∙ pixel_at told cat id p piece.band (piece_rect piece) samples read m d e f at k column (omega (arith, less, long))
    ∙ ap (λ b. raster_of m d p b (piece.left + at) (piece.first + k)) zero))

-- each sample of a whole block can be held
pub front_held : (told : Option Files) (cat : List Dataset) (id : ℕ) (p : Planned) (columns : Bool) (band block n : ℕ) (xs : List ℤ) → length xs ≡ n → HoldsFront told cat id p columns band block n xs → All (IsHeldIn p band) xs
front_held told cat id p columns band block n xs long front = λ i d less. subst (IsHeldIn p band) (get_or_default xs i (pos 0) d less) (front.held i (omega (arith, less, long)))

-- a line of lines that were read
pub line_front : (told : Option Files) (cat : List Dataset) (id : ℕ) (p : Planned) (lines : Lines) (samples : List ℤ) (y n : ℕ) (xs : List ℤ) → AreRead told cat id p lines samples → lines.first ≤ y → y < lines.end → n ≡ p.size.w → xs ≡ take p.size.w (drop ((y - lines.first) * p.size.w) samples) → HoldsFront told cat id p false lines.band y n xs
line_front told cat id p lines samples y n xs read top below wide is =
    let whole = lines_read told cat id p lines samples read in
    let row : y - lines.first < lines.end - lines.first = omega arith in
    record {
      held = λ u less. subst (λ (l : List ℤ). IsHeldIn p lines.band (get_or l u (pos 0))) (sym is) (row_held_at told cat id p lines.band (lines_rect p.size lines.first lines.end) samples whole (y - lines.first) row u (omega (arith, less, wide)));
      pixels = λ m d e f u less.
          let across : 0 + u ≡ u = omega arith in
          let down : lines.first + (y - lines.first) ≡ y = omega arith in
          ap (λ l. get_or l u (pos 0)) is
          ∙ row_pixel_at told cat id p lines.band (lines_rect p.size lines.first lines.end) samples whole (y - lines.first) row m d e f u (omega (arith, less, wide))
          ∙ ap (λ k. raster_of m d p lines.band k (lines.first + (y - lines.first))) across
          ∙ ap (λ k. raster_of m d p lines.band u k) down;
    }

-- a row of a piece that was read, put into its line behind the samples that stand left of it
module _ (told : Option Files) (cat : List Dataset) (id : ℕ) (p : Planned) (piece : Piece) (samples : List ℤ) (read : AreReadIn told cat id p piece.band (piece_rect piece) samples) (y : ℕ) (top : piece.first ≤ y) (below : y < piece.end) where
  piece_row : y - piece.first < piece.end - piece.first
  piece_row = omega arith

  pub piece_within : (y - piece.first) * (piece.right - piece.left) + (piece.right - piece.left) ≤ length samples
  piece_within = row_within samples (piece.right - piece.left) (piece.end - piece.first) (y - piece.first) read.long piece_row

  pub piece_long : length (take (piece.right - piece.left) (drop ((y - piece.first) * (piece.right - piece.left)) samples)) ≡ piece.right - piece.left
  piece_long = row_long samples (piece.right - piece.left) (piece.end - piece.first) (y - piece.first) read.long piece_row

  pub piece_held : All (IsHeldIn p piece.band) (take (piece.right - piece.left) (drop ((y - piece.first) * (piece.right - piece.left)) samples))
  piece_held = row_held told cat id p piece.band (piece_rect piece) samples read (y - piece.first) piece_row

  pub piece_front : (xs old new : List ℤ) → piece.left < piece.right → xs ≡ take (piece.right - piece.left) (drop ((y - piece.first) * (piece.right - piece.left)) samples) → new ≡ written piece.left xs old → piece.right ≤ length old → HoldsFront told cat id p false piece.band y piece.left old → HoldsFront told cat id p false piece.band y piece.right new
  piece_front xs old new some is packed fits before =
      let long : length xs ≡ piece.right - piece.left = ap length is ∙ piece_long in
      let end : piece.left + length xs ≡ piece.right = omega (arith, long, some) in
      subst (λ n. HoldsFront told cat id p false piece.band y n new) end
      (front_more told cat id p false piece.band y piece.left xs old new packed (omega (arith, end, fits)) before
      (λ k less. subst (λ (l : List ℤ). IsHeldIn p piece.band (get_or l k (pos 0))) (sym is) (row_held_at told cat id p piece.band (piece_rect piece) samples read (y - piece.first) piece_row k (omega (arith, less, long))))
      (λ m d e f k less.
      let down : piece.first + (y - piece.first) ≡ y = omega arith in
      ap (λ l. get_or l k (pos 0)) is
      ∙ row_pixel_at told cat id p piece.band (piece_rect piece) samples read (y - piece.first) piece_row m d e f k (omega (arith, less, long))
      ∙ ap (λ n. raster_of m d p piece.band (piece.left + k) n) down))
