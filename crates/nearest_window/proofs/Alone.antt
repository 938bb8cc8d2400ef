-- Pixels that are read by themselves.
use Rattle.std.proofs.Common.{◌≡◌, ◌⊎◌, inl, inr, ◌∙◌, ap, sym, subst, refl, Contains, ℕ, ℤ, pos, ◌+◌, ◌*◌, ◌/◌, ◌%◌, ◌<◌, ◌≤◌, List, [], ◌∷◌, get_or, Option, Some, true, arith}
use Rattle.std.specs.Prelude.{slice_get, slice_index_or, option_map}
use Rattle.std.specs.List.{All}
use Rattle.std.proofs.lemmas.Nat.{mod_below, div-add-mod'}
use Rattle.geotransform.specs.Types.{is_in}
use Rattle.geotransform.specs.declared.types.PixelType.{PixelType}
use Rattle.geotransform.specs.declared.types.Rect.{Rect}
use Rattle.outside.specs.Outside.{Files}
use Rattle.catalog.specs.Drivers.{Dataset}
use Rattle.catalog.specs.Pixels.{pixel_of}
use Rattle.catalog.specs.Places.{row_by_row, IsWithin}
use Rattle.band_blocks.specs.declared.key.BlockKey.{BlockKey}
use Rattle.band_blocks.specs.declared.key.PixelKey.{PixelKey}
use Rattle.band_blocks.specs.Blocks.{BlockView, block_view}
use Rattle.band_blocks.specs.Keys.{IsKeyOf}
use Rattle.nearest_window.specs.declared.picture.Picture.{Picture}
use Rattle.nearest_window.specs.declared.picture_places.Places.{Places}
use Rattle.nearest_window.specs.declared.members.Piece.{Piece}
use Rattle.nearest_window.specs.BlockKeys.{first_pixel_of, IsPartBlock}
use Rattle.nearest_window.specs.Right.{AreRecalled, IsRecalled}
use Rattle.nearest_window.specs.Shown.{IsAreaOf, IsPartOf, IsPictureOf}
use Rattle.nearest_window.specs.Taken.{place_at}
use Rattle.nearest_window.proofs.Blocks.{same_item}
use Rattle.nearest_window.proofs.Shown.{filled_row_by_row}

-- the pixels of a rectangle that has one
one_row : (f : ℕ → ℕ → ℤ) (rect : Rect) (v : ℤ) → rect.w ≡ 1 → rect.h ≡ 1 → v ≡ f rect.x rect.y → v ∷ [] ≡ row_by_row f rect
one_row f rect v narrow low is =
    let product : rect.w * rect.h ≡ 1 * rect.h = ap (λ n. n * rect.h) narrow in
    let count : rect.w * rect.h ≡ 1 = omega arith in
    filled_row_by_row f rect (v ∷ []) (pos 0) (sym count)
    (λ k less.
    let zero : 0 ≡ k = omega arith in
    let m = mod_below 0 1 (omega arith) in
    let d = div-add-mod' 0 1 in
    let column : rect.x ≡ rect.x + 0 % rect.w = (let e : 0 % rect.w ≡ 0 % 1 = ap (λ n. 0 % n) narrow in omega arith) in
    let line : rect.y ≡ rect.y + 0 / rect.w = (let e : 0 / rect.w ≡ 0 / 1 = ap (λ n. 0 / n) narrow in omega arith) in
    subst (λ i. get_or (v ∷ []) i (pos 0) ≡ f (rect.x + i % rect.w) (rect.y + i / rect.w)) zero (is ∙ ap (λ x. f x rect.y) column ∙ ap (f (rect.x + 0 % rect.w)) line))

-- a list of one sample of a type
pub one_in : (kind : PixelType) (v : ℤ) → is_in kind v ≡ true → All (λ n. is_in kind n ≡ true) (v ∷ [])
one_in kind v is = λ k d less. subst (λ i. is_in kind (get_or (v ∷ []) i d) ≡ true) (let zero : 0 ≡ k = omega arith in zero) is

-- the block of a pixel that is read by itself
pub pixel_block : (told : Option Files) (cat : List Dataset) (key : BlockKey) (d : Dataset) (rect : Rect) (kind : PixelType) (v : ℤ) (block : BlockView) → IsKeyOf cat key d → rect.w ≡ 1 → rect.h ≡ 1
    → option_map (λ b. b.kind) (slice_get d.head.bands key.band) ≡ Some kind → is_in kind v ≡ true → ((m : Files) → told ≡ Some m → v ≡ pixel_of m cat key.dataset key.band rect.x rect.y)
    → block ≡ block_view kind (v ∷ []) → IsPartBlock told cat key rect block
pixel_block told cat key d rect kind v block key_of narrow low kind_is range content is =
    let product : rect.w * rect.h ≡ 1 * rect.h = ap (λ n. n * rect.h) narrow in
    let count : 1 ≡ rect.w * rect.h = omega arith in
    subst (IsPartBlock told cat key rect) (sym is) (record {
      dataset = d;
      in_range = key_of;
      shape = record { kind = kind_is; count = count; range = one_in kind v range };
      content = λ m e. one_row (pixel_of m cat key.dataset key.band) rect v narrow low (content m e);
    })

-- a remembered sample is of its band's type
pub recalled_in : (told : Option Files) (cat : List Dataset) (key : PixelKey) (d : Dataset) (kind : PixelType) (v : ℤ) → slice_get cat key.dataset ≡ Some d
    → option_map (λ b. b.kind) (slice_get d.head.bands key.band) ≡ Some kind → IsRecalled told cat key v → is_in kind v ≡ true
recalled_in told cat key d kind v at kind_is is =
    let same : is.dataset ≡ d = same_item cat key.dataset is.dataset d is.at at in
    let there : option_map (λ b. b.kind) (slice_get d.head.bands key.band) ≡ Some is.kind = subst (λ (x : Dataset). option_map (λ b. b.kind) (slice_get x.head.bands key.band) ≡ Some is.kind) same is.kind_is in
    let kinds : is.kind ≡ kind = same_some is.kind kind (sym there ∙ kind_is) in
    subst (λ k. is_in k v ≡ true) kinds is.range
  where
    same_some : (a b : PixelType) → Some a ≡ Some b → a ≡ b
    same_some a b e = cc

-- the block of a pixel whose sample is remembered
pub recalled_block : (told : Option Files) (cat : List Dataset) (key : BlockKey) (d : Dataset) (rect : Rect) (kind : PixelType) (v : ℤ) (block : BlockView) → IsKeyOf cat key d → rect.w ≡ 1 → rect.h ≡ 1
    → option_map (λ b. b.kind) (slice_get d.head.bands key.band) ≡ Some kind → IsRecalled told cat (first_pixel_of key rect) v → block ≡ block_view kind (v ∷ []) → IsPartBlock told cat key rect block
recalled_block told cat key d rect kind v block key_of narrow low kind_is is made =
    pixel_block told cat key d rect kind v block key_of narrow low kind_is (recalled_in told cat (first_pixel_of key rect) d kind v key_of.at kind_is is) is.content made

-- the sample of a block of one pixel may be remembered
pub part_recalled : (told : Option Files) (cat : List Dataset) (key : BlockKey) (rect : Rect) (block : BlockView) → rect.w ≡ 1 → rect.h ≡ 1 → IsPartBlock told cat key rect block → IsRecalled told cat (first_pixel_of key rect) (slice_index_or block.samples 0 (pos 0))
part_recalled told cat key rect block narrow low is =
    let product : rect.w * rect.h ≡ 1 * rect.h = ap (λ n. n * rect.h) narrow in
    let count = is.shape.count in
    record {
      dataset = is.dataset;
      at = is.in_range.at;
      kind = block.kind;
      kind_is = is.shape.kind;
      range = is.shape.range 0 (pos 0) (omega arith);
      content = λ m e. ap (λ l. slice_index_or l 0 (pos 0)) (is.content m e ∙ sym (one_row (pixel_of m cat key.dataset key.band) rect (pixel_of m cat key.dataset key.band rect.x rect.y) narrow low refl));
    }

-- samples stay right where that of such a block is put in
pub are_recalled_put : (told : Option Files) (cat : List Dataset) (key : BlockKey) (rect : Rect) (block : BlockView) (old new : List (PixelKey × ℤ)) → rect.w ≡ 1 → rect.h ≡ 1 → IsPartBlock told cat key rect block
    → ((k : PixelKey) → (v : ℤ) → Contains new (k, v) → Contains old (k, v) ⊎ ((k ≡ first_pixel_of key rect) × (v ≡ slice_index_or block.samples 0 (pos 0))))
    → AreRecalled told cat old → AreRecalled told cat new
are_recalled_put told cat key rect block old new narrow low is kept right k v there = elim (kept k v there) [
  | inl was ↦ right k v was
  | inr put ↦ subst (λ s. IsRecalled told cat k s) (sym put.1) (subst (λ j. IsRecalled told cat j (slice_index_or block.samples 0 (pos 0))) (sym put.0) (part_recalled told cat key rect block narrow low is))
]

-- the only column of a picture, or its only line, in the rectangle of its pixel
pub alone_in : (places : Places) (n w width first count : ℕ) → n ≡ place_at places first → w ≡ 1 → width ≡ 1 → first + count ≤ width → (k : ℕ) → first ≤ k → k < first + count → (n ≤ place_at places k) × (place_at places k < n + w)
alone_in places n w width first count is narrow one within k low high =
    let same : k ≡ first = omega arith in
    let e : place_at places k ≡ n = ap (place_at places) same ∙ sym is in
    (omega arith, omega arith)

-- the rectangle of a pixel of a picture lies in its dataset
pub pixel_within : (cat : List Dataset) (p : Picture) (piece : Piece) (rect : Rect) → IsPictureOf cat p → IsPartOf cat p piece → IsAreaOf p piece.area → rect.x ≡ place_at p.columns piece.area.column → rect.y ≡ place_at p.lines piece.area.line → rect.w ≡ 1 → rect.h ≡ 1
    → (d : Dataset) → slice_get cat piece.key.dataset ≡ Some d → IsWithin rect d.head.size
pixel_within cat p piece rect picture part area column line narrow low d at =
    let same : picture.dataset ≡ d = same_item cat piece.key.dataset picture.dataset d (subst (λ n. slice_get cat n ≡ Some picture.dataset) part.dataset_is picture.at) at in
    let columns = area.columns in
    let some = area.some in
    let lines = area.lines in
    let some_lines = area.some_lines in
    let x : place_at p.columns piece.area.column < d.head.size.w = subst (λ (x : Dataset). place_at p.columns piece.area.column < x.head.size.w) same (picture.columns piece.area.column (omega arith)) in
    let y : place_at p.lines piece.area.line < d.head.size.h = subst (λ (x : Dataset). place_at p.lines piece.area.line < x.head.size.h) same (picture.lines piece.area.line (omega arith)) in
    record { columns = omega arith; lines = omega arith; right = omega arith; bottom = omega arith }
