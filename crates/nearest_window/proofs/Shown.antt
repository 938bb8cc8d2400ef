-- What a held block shows.
use Rattle.std.proofs.Common.{◌≡◌, ℕ, ◌+◌, ◌-◌, ◌*◌, ◌/◌, ◌%◌, ◌≤◌, ◌<◌, List, Option, Some, None, refl, sym, ap, ◌∙◌, inl, inr, length, arith, ℤ, pos, get_or}
use Rattle.std.specs.Prelude.{⊤}
use Rattle.std.specs.Option.{IsSomeAnd, option_or}
use Rattle.std.proofs.lemmas.Bool.{cases_lt}
use Rattle.std.proofs.lemmas.Nat.{div-mul-add, mod-mul-add, div_below, mul-add-lt}
use Rattle.std.proofs.lemmas.List.FromFn.{get_or-map-range_with_len, length-map-range_with_len, fill_by_all}
use Rattle.geotransform.specs.declared.types.Rect.{Rect}
use Rattle.outside.specs.Outside.{Files}
use Rattle.catalog.specs.Drivers.{Dataset}
use Rattle.catalog.specs.Blocks.{block_pixels, block_by}
use Rattle.catalog.specs.Pixels.{pixel_of}
use Rattle.catalog.specs.Places.{row_by_row, block_rect_of}
use Rattle.band_blocks.specs.declared.key.BlockKey.{BlockKey}
use Rattle.band_blocks.specs.Blocks.{BlockView}
use Rattle.block_cache.specs.declared.pool.Entry.{Entry}
use Rattle.block_cache.specs.Entries.{held_at}
use Rattle.nearest_window.specs.declared.picture.Picture.{Picture}
use Rattle.nearest_window.specs.declared.members.Piece.{Piece}
use Rattle.nearest_window.specs.Painted.{IsPainted, given_between, in_columns}
use Rattle.nearest_window.specs.Pictures.{from_block}
use Rattle.band_blocks.specs.Contents.{IsBlock}
use Rattle.nearest_window.specs.Lanes.{LaneView}
use Rattle.nearest_window.specs.HeldBlocks.{IsHeldWith, IsUsed}
use Rattle.nearest_window.specs.Right.{AreBlocks}
use Rattle.nearest_window.specs.Shown.{IsPartOf, IsShown, shown}
use Rattle.nearest_window.specs.Taken.{place_at, taken_by}
use Rattle.nearest_window.proofs.Keys.{is_block_held}
use Rattle.nearest_window.proofs.Painted.{painted_same, placed_in, placed_before, placed_after}

pub length_row_by_row : {X : Type 0} (f : ℕ → ℕ → X) (rect : Rect) → length (row_by_row f rect) ≡ rect.w * rect.h
unfolding row_by_row
length_row_by_row f rect = length-map-range_with_len (λ i. f (rect.x + i % rect.w) (rect.y + i / rect.w)) 0 (rect.w * rect.h)

pub get_row_by_row : {X : Type 0} (f : ℕ → ℕ → X) (rect : Rect) (i : ℕ) (d : X) → i < rect.w * rect.h → get_or (row_by_row f rect) i d ≡ f (rect.x + i % rect.w) (rect.y + i / rect.w)
unfolding row_by_row
get_row_by_row f rect i d p = get_or-map-range_with_len (λ i. f (rect.x + i % rect.w) (rect.y + i / rect.w)) 0 (rect.w * rect.h) i i d p (omega arith)

pub filled_row_by_row : {X : Type 0} (f : ℕ → ℕ → X) (rect : Rect) (xs : List X) (d : X) → length xs ≡ rect.w * rect.h → ((k : ℕ) → k < rect.w * rect.h → get_or xs k d ≡ f (rect.x + k % rect.w) (rect.y + k / rect.w)) → xs ≡ row_by_row f rect
unfolding row_by_row
filled_row_by_row f rect xs d e p = fill_by_all (λ i. f (rect.x + i % rect.w) (rect.y + i / rect.w)) xs (rect.w * rect.h) d e p

-- the same in the columns and rows that there are
pub columns_same : (w a n rows : ℕ) (f g : ℕ → ℕ → Option ℤ) (old new : List ℤ) → 0 < w → length old ≤ rows * w → ((c r : ℕ) → c < n → r < rows → f c r ≡ g c r) → IsPainted (in_columns w a (a + n) f) old new → IsPainted (in_columns w a (a + n) g) old new
columns_same w a n rows f g old new some size same h =
    painted_same (in_columns w a (a + n) f) (in_columns w a (a + n) g) old new h
    (λ k p. each (k % w) (k / w) (div_below k w rows some (omega arith)))
  where
    each : (j r : ℕ) → r < rows → given_between a (a + n) (λ c. f c r) j ≡ given_between a (a + n) (λ c. g c r) j
    each j r p = elim (cases_lt j a) [
      | inl b ↦ placed_before a (a + n) (λ c. f c r) j b ∙ sym (placed_before a (a + n) (λ c. g c r) j b)
      | inr b ↦ elim (cases_lt j (a + n)) [
        | inl e ↦ placed_in a (a + n) (λ c. f c r) j b e ∙ same (j - a) r (omega arith) p ∙ sym (placed_in a (a + n) (λ c. g c r) j b e)
        | inr e ↦ placed_after a (a + n) (λ c. f c r) j e ∙ sym (placed_after a (a + n) (λ c. g c r) j e)
      ]
    ]

-- the pixel's place in a block's list
pub place_in_rect : (f : ℕ → ℕ → ℤ) (rect : Rect) (x y : ℕ) → rect.x ≤ x → x < rect.x + rect.w → rect.y ≤ y → y < rect.y + rect.h → get_or (row_by_row f rect) ((y - rect.y) * rect.w + (x - rect.x)) (pos 0) ≡ f x y
place_in_rect f rect x y left right top bottom =
    let inside : x - rect.x < rect.w = omega arith in
    get_row_by_row f rect ((y - rect.y) * rect.w + (x - rect.x)) (pos 0) (mul-add-lt (y - rect.y) rect.w (x - rect.x) rect.h (omega arith) inside)
    ∙ ap (λ m. f (rect.x + m) (rect.y + ((y - rect.y) * rect.w + (x - rect.x)) / rect.w)) (mod-mul-add (y - rect.y) rect.w (x - rect.x) inside)
    ∙ ap (λ m. f (rect.x + (x - rect.x)) (rect.y + m)) (div-mul-add (y - rect.y) rect.w (x - rect.x) inside)
    ∙ ap (λ m. f m (rect.y + (y - rect.y))) (let e : rect.x + (x - rect.x) ≡ x = omega arith in e)
    ∙ ap (f x) (let e : rect.y + (y - rect.y) ≡ y = omega arith in e)

-- what a picture takes from the samples of a rectangle in which it lies
pub rect_shown : (m : Files) (cat : List Dataset) (id band : ℕ) (rect : Rect) (p : Picture) (column columns line lines : ℕ) (block : BlockView) (old new : List ℤ) → p.dataset ≡ id → p.band ≡ band
    → ((k : ℕ) → column ≤ k → k < column + columns → (rect.x ≤ place_at p.columns k) × (place_at p.columns k < rect.x + rect.w))
    → ((k : ℕ) → line ≤ k → k < line + lines → (rect.y ≤ place_at p.lines k) × (place_at p.lines k < rect.y + rect.h))
    → block.samples ≡ row_by_row (pixel_of m cat id band) rect → 0 < p.stride → length old ≤ lines * p.stride
    → IsPainted (in_columns p.stride (p.to + column) (p.to + column + columns) (from_block block rect p column line)) old new
    → IsPainted (in_columns p.stride (p.to + column) (p.to + column + columns) (shown m cat p column line)) old new
rect_shown m cat id band rect p column columns line lines block old new dataset_is band_is across down content grid size =
    columns_same p.stride (p.to + column) columns lines (from_block block rect p column line) (shown m cat p column line) old new grid size
    (λ c r i j.
    let a = across (column + c) (omega arith) (omega arith) in
    let b = down (line + r) (omega arith) (omega arith) in
    ap (taken_by p.taking)
    (ap (λ l. get_or l ((place_at p.lines (line + r) - rect.y) * rect.w + (place_at p.columns (column + c) - rect.x)) (pos 0)) content
    ∙ place_in_rect (pixel_of m cat id band) rect (place_at p.columns (column + c)) (place_at p.lines (line + r)) a.0 a.1 b.0 b.1
    ∙ ap (λ n. pixel_of m cat n band (place_at p.columns (column + c)) (place_at p.lines (line + r))) (sym dataset_is)
    ∙ ap (λ n. pixel_of m cat p.dataset n (place_at p.columns (column + c)) (place_at p.lines (line + r))) (sym band_is)))

module _ (told : Option Files) (cat : List Dataset) (p : Picture) (piece : Piece) (part : IsPartOf cat p piece) where
  abbrev key : BlockKey
  key = piece.key

  abbrev rect : Rect
  rect = piece.rect

  abbrev column : ℕ
  column = piece.area.column

  abbrev columns : ℕ
  columns = piece.area.columns

  abbrev line : ℕ
  line = piece.area.line

  abbrev lines : ℕ
  lines = piece.area.lines

  same_dataset : (b : BlockView) (h : IsBlock told cat key b) → h.dataset ≡ part.dataset
  same_dataset b h = let i = h.in_range.at in let j = part.in_range.at in cc

  size_of_block : (b : BlockView) → IsBlock told cat key b → length b.samples ≡ rect.w * rect.h
  size_of_block b h = h.shape.count ∙ ap (λ (d : Dataset). (block_rect_of d.head key.block).w * (block_rect_of d.head key.block).h) (same_dataset b h) ∙ sym (ap (λ (r : Rect). r.w * r.h) part.rect_is)

  -- a block that is held, in the pool or beside it, has the rectangle's size
  pub held_sized : {File : Type 0} (lane : LaneView File) → AreBlocks told cat lane.pool.entries → AreBlocks told cat lane.made.entries → IsHeldWith key lane (λ _. ⊤) → IsHeldWith key lane (λ e. length e.block.samples ≡ rect.w * rect.h)
  held_sized lane pool made held = on (held_at key lane.pool.entries) (held_at key lane.made.entries) refl refl held
    where
      on : (o p : Option Entry) → held_at key lane.pool.entries ≡ o → held_at key lane.made.entries ≡ p → IsSomeAnd (option_or o p) (λ _. ⊤) → IsSomeAnd (option_or o p) (λ e. length e.block.samples ≡ rect.w * rect.h)
      on None None g h s = absurd s
      on None (Some e) g h s = size_of_block e.block (is_block_held told cat key e lane.made.entries h made)
      on (Some e) p g h s = size_of_block e.block (is_block_held told cat key e lane.pool.entries g pool)

  pixels_are : (m : Files) → block_pixels m cat key.dataset key.band key.block ≡ row_by_row (pixel_of m cat key.dataset key.band) rect
  pixels_are m = ap (block_by m cat key.dataset key.band key.block) part.in_range.at ∙ ap (row_by_row (pixel_of m cat key.dataset key.band)) (sym part.rect_is)

  block_shown : (es : List (BlockKey × Entry)) (old new : List ℤ) → AreBlocks told cat es → 0 < p.stride → length old ≤ lines * p.stride
      → IsSomeAnd (held_at key es) (λ e. IsPainted (in_columns p.stride (p.to + column) (p.to + column + columns) (from_block e.block rect p column line)) old new)
      → IsShown told cat p column columns line old new
  block_shown es old new all grid size painted m e = on (held_at key es) refl painted
    where
      on : (o : Option Entry) → held_at key es ≡ o
          → IsSomeAnd o (λ e. IsPainted (in_columns p.stride (p.to + column) (p.to + column + columns) (from_block e.block rect p column line)) old new)
          → IsPainted (in_columns p.stride (p.to + column) (p.to + column + columns) (shown m cat p column line)) old new
      on None h q = absurd q
      on (Some entry) h q =
          let block = is_block_held told cat key entry es h all in
          rect_shown m cat key.dataset key.band rect p column columns line lines entry.block old new part.dataset_is part.band part.across part.down (block.content m e ∙ pixels_are m) grid size q

  -- what is painted from a block that is held, in the pool or beside it
  pub used_shown : {File : Type 0} (lane lane' : LaneView File) (old new : List ℤ) → AreBlocks told cat lane.pool.entries → AreBlocks told cat lane.made.entries → 0 < p.stride → length old ≤ lines * p.stride
      → IsUsed key (λ e. IsPainted (in_columns p.stride (p.to + column) (p.to + column + columns) (from_block e.block rect p column line)) old new) lane lane'
      → IsShown told cat p column columns line old new
  used_shown lane lane' old new pool made grid size used = elim used [
    | inl u ↦ block_shown lane.pool.entries old new pool grid size u.0
    | inr u ↦ block_shown lane.made.entries old new made grid size u.0
  ]
