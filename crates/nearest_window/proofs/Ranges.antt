-- The samples of a window are in its band's type.
use Rattle.std.proofs.Common.{◌≡◌, ◌∙◌, ap, sym, subst, refl, ◌+◌, ◌-◌, ◌*◌, ◌<◌, ◌≤◌, ℕ, zero, suc, ℤ, pos, List, [], ◌∷◌, length, get_or, Option, Some, None, true, inl, inr, arith}
use Rattle.std.specs.Prelude.{slice_get, option_map}
use Rattle.std.specs.List.{All}
use Rattle.std.proofs.lemmas.Bool.{cases_lt}
use Rattle.std.proofs.lemmas.Nat.{mod_below}
use borrow.Rule.Slice.PartMut.{put_mid, mid_of}
use Rattle.geotransform.specs.Types.{is_in}
use Rattle.geotransform.proofs.Ranges.{zero_in}
use Rattle.geotransform.specs.declared.types.Rect.{Rect}
use Rattle.outside.specs.Outside.{Files}
use Rattle.catalog.specs.Drivers.{Dataset}
use Rattle.catalog.specs.Places.{block_rect_of}
use Rattle.band_blocks.specs.declared.key.BlockKey.{BlockKey}
use Rattle.band_blocks.specs.Blocks.{BlockView, AreIn}
use Rattle.band_blocks.specs.Contents.{IsOfBand}
use Rattle.band_blocks.specs.Keys.{IsKeyOf}
use Rattle.block_cache.specs.declared.pool.Entry.{Entry}
use Rattle.block_cache.specs.Entries.{held_at}
use Rattle.std.specs.Option.{IsSomeAnd}
use Rattle.nearest_window.specs.declared.picture.Picture.{Picture}
use Rattle.nearest_window.specs.declared.members.Piece.{Piece}
use Rattle.nearest_window.specs.declared.taking.Taking.TheVariants as takings
use Rattle.nearest_window.specs.declared.window.Window.{Window}
use Rattle.nearest_window.specs.Painted.{IsPainted, IsFilled, in_columns}
use Rattle.nearest_window.specs.Pictures.{from_block}
use Rattle.nearest_window.specs.Lanes.{LaneView}
use Rattle.nearest_window.specs.HeldBlocks.{IsUsed}
use Rattle.nearest_window.specs.Right.{AreBlocks}
use Rattle.vrt_profile.specs.Values.{SourceValue}
use Rattle.mosaic_sources.specs.Pixels.{IsPixelOf}
use Rattle.mosaic_sources.proofs.Following.{is_pixel_of}
use Rattle.nearest_window.specs.Shown.{IsPictureOf, IsPartOf, IsTyped, AreTyped, ShowsWindow, TakesBand}
use Rattle.nearest_window.specs.Windows.{IsInBand}
use Rattle.nearest_window.specs.Taken.{place_at, taken_by}
use Rattle.nearest_window.proofs.Filled.{filled_by, filled_none, filled_columns, filled_rows, all_of}
use Rattle.nearest_window.proofs.Keys.{is_block_held}

past_end : (xs : List ℤ) (i : ℕ) → length xs ≤ i → get_or xs i (pos 0) ≡ pos 0
past_end [] i p = refl
past_end (x ∷ xs) zero p = absurd (omega arith)
past_end (x ∷ xs) (suc i) p = past_end xs i (omega arith)

-- a sample of a block, or 0, is in the block's type
sample_in : (b : BlockView) (i : ℕ) → AreIn b.kind b.samples → is_in b.kind (get_or b.samples i (pos 0)) ≡ true
sample_in b i range = elim (cases_lt i (length b.samples)) [
  | inl p ↦ range i (pos 0) p
  | inr p ↦ subst (λ v. is_in b.kind v ≡ true) (sym (past_end b.samples i p)) (zero_in b.kind)
]

some_same : {X : Type 0} (a b : X) → Some a ≡ Some b → a ≡ b
some_same a b is = cc

in_band : (cat : List Dataset) (key : BlockKey) (d : Dataset) (rect : Rect) (b : BlockView) (id band i : ℕ) → id ≡ key.dataset → band ≡ key.band → IsKeyOf cat key d → IsOfBand d key.band rect b → IsInBand cat id band (get_or b.samples i (pos 0))
in_band cat key d rect b id band i dataset_is band_is key_of shape e kind at is =
    let same : e ≡ d = some_same e d (sym at ∙ ap (slice_get cat) dataset_is ∙ key_of.at) in
    let here : kind ≡ b.kind = some_same kind b.kind (sym is ∙ ap (λ (d : Dataset). option_map (λ band. band.kind) (slice_get d.head.bands band)) same ∙ ap (λ n. option_map (λ band. band.kind) (slice_get d.head.bands n)) band_is ∙ shape.kind) in
    subst (λ k. is_in k (get_or b.samples i (pos 0)) ≡ true) (sym here) (sample_in b i shape.range)

-- what is painted from samples of its band
pub rect_typed : (cat : List Dataset) (p : Picture) (piece : Piece) (rect : Rect) (d : Dataset) (b : BlockView) (old new : List ℤ) → p.dataset ≡ piece.key.dataset → p.band ≡ piece.key.band → IsKeyOf cat piece.key d → IsOfBand d piece.key.band rect b
    → IsPainted (in_columns p.stride (p.to + piece.area.column) (p.to + piece.area.column + piece.area.columns) (from_block b rect p piece.area.column piece.area.line)) old new → IsTyped cat p piece.area.column piece.area.columns old new
rect_typed cat p piece rect d b old new dataset_is band_is key_of shape painted all =
    filled_by (IsInBand cat p.dataset p.band) p.stride (p.to + piece.area.column) (p.to + piece.area.column + piece.area.columns) (from_block b rect p piece.area.column piece.area.line) old new
    (λ c r.
    let i : ℕ = (place_at p.lines (piece.area.line + r) - rect.y) * rect.w + (place_at p.columns (piece.area.column + c) - rect.x) in (
      get_or b.samples ((place_at p.lines (piece.area.line + r) - rect.y) * rect.w + (place_at p.columns (piece.area.column + c) - rect.x)) (pos 0),
      ap (λ t. taken_by t (get_or b.samples ((place_at p.lines (piece.area.line + r) - rect.y) * rect.w + (place_at p.columns (piece.area.column + c) - rect.x)) (pos 0))) all,
      in_band cat piece.key d rect b p.dataset p.band ((place_at p.lines (piece.area.line + r) - rect.y) * rect.w + (place_at p.columns (piece.area.column + c) - rect.x)) dataset_is band_is key_of shape,
    ))
    painted

module _ (told : Option Files) (cat : List Dataset) (p : Picture) (piece : Piece) (part : IsPartOf cat p piece) where
  block_typed : (es : List (BlockKey × Entry)) (old new : List ℤ) → AreBlocks told cat es
      → IsSomeAnd (held_at piece.key es) (λ e. IsPainted (in_columns p.stride (p.to + piece.area.column) (p.to + piece.area.column + piece.area.columns) (from_block e.block piece.rect p piece.area.column piece.area.line)) old new)
      → IsTyped cat p piece.area.column piece.area.columns old new
  block_typed es old new all painted = on (held_at piece.key es) refl painted
    where
      on : (o : Option Entry) → held_at piece.key es ≡ o
          → IsSomeAnd o (λ e. IsPainted (in_columns p.stride (p.to + piece.area.column) (p.to + piece.area.column + piece.area.columns) (from_block e.block piece.rect p piece.area.column piece.area.line)) old new)
          → IsTyped cat p piece.area.column piece.area.columns old new
      on None h q = absurd q
      on (Some entry) h q =
          let block = is_block_held told cat piece.key entry es h all in
          let same : block.dataset ≡ part.dataset = some_same block.dataset part.dataset (sym block.in_range.at ∙ part.in_range.at) in
          let place : piece.rect ≡ block_rect_of block.dataset.head piece.key.block = part.rect_is ∙ ap (λ (d : Dataset). block_rect_of d.head piece.key.block) (sym same) in
          let shape : IsOfBand block.dataset piece.key.band piece.rect entry.block = subst (λ r. IsOfBand block.dataset piece.key.band r entry.block) (sym place) block.shape in
          rect_typed cat p piece piece.rect block.dataset entry.block old new part.dataset_is part.band block.in_range shape q

  -- what is painted from a block that is held, in the pool or beside it
  pub used_typed : {File : Type 0} (lane lane' : LaneView File) (old new : List ℤ) → AreBlocks told cat lane.pool.entries → AreBlocks told cat lane.made.entries
      → IsUsed piece.key (λ e. IsPainted (in_columns p.stride (p.to + piece.area.column) (p.to + piece.area.column + piece.area.columns) (from_block e.block piece.rect p piece.area.column piece.area.line)) old new) lane lane'
      → IsTyped cat p piece.area.column piece.area.columns old new
  used_typed lane lane' old new pool made used = elim used [
    | inl u ↦ block_typed lane.pool.entries old new pool u.0
    | inr u ↦ block_typed lane.made.entries old new made u.0
  ]

-- no column is painted
pub typed_begin : (cat : List Dataset) (p : Picture) (xs : List ℤ) → IsTyped cat p 0 0 xs xs
typed_begin cat p xs all = subst (λ z. IsFilled (IsInBand cat p.dataset p.band) p.stride (p.to + 0) z xs xs) (let z : p.to + 0 ≡ p.to + 0 + 0 = omega arith in z) (filled_none (IsInBand cat p.dataset p.band) p.stride (p.to + 0) xs)

-- some columns more
pub typed_more : (cat : List Dataset) (p : Picture) (m n : ℕ) (old mid new : List ℤ) → IsTyped cat p 0 m old mid → IsTyped cat p m n mid new → IsTyped cat p 0 (m + n) old new
typed_more cat p m n old mid new before here all =
    subst (λ z. IsFilled (IsInBand cat p.dataset p.band) p.stride (p.to + 0) z old new) (let z : p.to + m + n ≡ p.to + 0 + (m + n) = omega arith in z)
    (filled_columns (IsInBand cat p.dataset p.band) p.stride (p.to + 0) (p.to + m) (p.to + m + n) old mid new (omega arith) (omega arith)
    (subst (λ z. IsFilled (IsInBand cat p.dataset p.band) p.stride (p.to + 0) z old mid) (let z : p.to + 0 + m ≡ p.to + m = omega arith in z) (before all)) (here all))

-- a row of blocks more
pub rows_typed : (cat : List Dataset) (p : Picture) (r n a b : ℕ) (mid ys : List ℤ) → a ≡ r * p.stride → b ≡ (r + n) * p.stride → 0 < p.stride → (r + n) * p.stride ≤ length mid → length (mid_of a (b - a) mid) ≡ n * p.stride
    → AreTyped cat p (r * p.stride) mid → IsTyped cat p 0 p.width (mid_of a (b - a) mid) ys → AreTyped cat p ((r + n) * p.stride) (put_mid a (b - a) mid ys)
rows_typed cat p r n a b mid ys ae be some fits size before here all =
    let f = here all in
    filled_rows (IsInBand cat p.dataset p.band) p.stride (p.to + 0) (p.to + 0 + p.width) r n a b mid ys some ae be fits (f.size ∙ size) (before all) (λ k s. f.inside k (subst (λ m. k < m) (sym size) s))

-- each sample of a whole window
pub window_typed : (cat : List Dataset) (window : Window) (p : Picture) (xs : List ℤ) (n : ℕ) → ShowsWindow window p → 0 < window.rect.w → length xs ≡ n → AreTyped cat p n xs → All (IsInBand cat window.dataset window.band) xs
window_typed cat window p xs n whole some size typed =
    let stride = whole.stride in let to = whole.to in let width = whole.width in
    subst (λ id. All (IsInBand cat id window.band) xs) whole.dataset_is
    (subst (λ band. All (IsInBand cat p.dataset band) xs) whole.band_is
    (all_of (IsInBand cat p.dataset p.band) xs
    (λ k q. let below = mod_below k p.stride (omega arith) in typed whole.taking k (omega arith) (omega arith) (omega arith))))

pub no_sample : (P : ℤ → Type 0) (rect : Rect) (xs : List ℤ) → rect.w ≡ 0 → length xs ≡ rect.w * rect.h → All P xs
no_sample P rect xs none size = all_of P xs (λ k q. let z : rect.w * rect.h ≡ 0 = ap (λ n. n * rect.h) none ∙ (let e : 0 * rect.h ≡ 0 = omega arith in e) in absurd (omega arith))

there : {X : Type 0} (xs : List X) (i : ℕ) → i < length xs → (x : X) × (slice_get xs i ≡ Some x)
there [] i p = absurd (omega arith)
there (x ∷ xs) zero p = (x, refl)
there (x ∷ xs) (suc i) p = there xs i (omega arith)

-- each sample of a picture that is all of its rows is a pixel of a source that takes its band
pub pixels_near : (cat : List Dataset) (s : SourceValue) (p : Picture) (xs : List ℤ) (n : ℕ) → IsPictureOf cat p → TakesBand cat s p → p.taking ≡ takings.All → p.to ≡ 0 → p.stride ≡ p.width → length xs ≡ n → AreTyped cat p n xs → All (IsPixelOf s) xs
pixels_near cat s p xs n of takes all to stride size typed =
    all_of (IsPixelOf s) xs
    (λ k q.
    let some = of.picture.some in
    let below = mod_below k p.stride some in
    let b = there of.dataset.head.bands p.band of.band in
    is_pixel_of s b.0.kind (get_or xs k (pos 0)) (takes of.dataset b.0 of.at b.1) (typed all k (omega arith) (omega arith) (omega arith) of.dataset b.0.kind of.at (ap (λ o. option_map (λ band. band.kind) o) b.1)))
