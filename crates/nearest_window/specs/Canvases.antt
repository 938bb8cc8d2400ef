-- Samples that are filled from the last source of a band to the first.
use Rattle.std.specs.Prelude.{◌≡◌, ◌⊎◌, ℕ, ℤ, pos, ◌+◌, ◌-◌, ◌*◌, ◌^◌, ◌<◌, ◌≤◌, List, [], length, map, drop, Option}
use Rattle.std.specs.Prelude.{Some, None, true, is_some, option_map, unwrap_or, slice_get, slice_index_or}
use Rattle.std.specs.Prelude.{if◌then◌else◌}
use Rattle.std.specs.Option.{option_or}
use Rattle.std.specs.Ordering.{int_eq}
use Rattle.geotransform.specs.Types.{clamp}
use Rattle.geotransform.specs.declared.types.PixelType.{PixelType}
use Rattle.geotransform.specs.declared.types.Rect.{Rect}
use Rattle.geotransform.specs.declared.types.Size.{Size}
use Rattle.geotransform.specs.Pixels.{IsInside}
use Rattle.outside.specs.Outside.{Files}
use Rattle.vrt_profile.specs.Values.{SourceValue}
use Rattle.vrt_profile.specs.Cover.{axis_at, columns_of, lines_of, cover_of}
use Rattle.vrt_profile.specs.Value.{given_of, last_given}
use Rattle.catalog.specs.Drivers.{Dataset}
use Rattle.catalog.specs.Pixels.{pixel_of, member_size, member_pixel}
use Rattle.band_blocks.specs.Blocks.{BlockView, block_view}
use Rattle.band_blocks.specs.declared.key.BlockKey.{BlockKey}
use Rattle.nearest_window.specs.declared.asking.Asked.{Asked}
use Rattle.nearest_window.specs.declared.canvas.Canvas.{Canvas}
use Rattle.nearest_window.specs.declared.merging.Place.{Place}
use Rattle.nearest_window.specs.declared.taking.Taking.{Taking}
use Rattle.nearest_window.specs.declared.taking.Taking.TheVariants.{All}
use Rattle.nearest_window.specs.Heights.{height_at}
use Rattle.nearest_window.specs.Shown.{IsPictureOf, TakesBand}
use Rattle.nearest_window.specs.Taken.{place_at, taken_by}

-- what marks a sample that is open: no sample of any type
abbrev pub blank : ℤ
blank = pos 1180591620717411303424

-- what a sample shows, or nothing where it is open
abbrev pub filled_with : ℤ → Option ℤ
filled_with v = if int_eq v blank then None else Some v

-- what stands at a place; nothing behind the end
abbrev pub stands : List ℤ → ℕ → Option ℤ
stands xs k = filled_with (slice_index_or xs k blank)

-- two values are the same once they are brought into the range of a type, or there is none of both
abbrev pub IsSame : PixelType → Option ℤ → Option ℤ → Type 0
IsSame kind a b = option_map (clamp kind) a ≡ option_map (clamp kind) b

-- a canvas has the samples of its rectangle, or none, and those that it counts as filled are
pub record IsCanvas (c : Canvas) : Type 0 where
  pub size : (c.samples.items ≡ []) ⊎ (length c.samples.items ≡ c.rect.w * c.rect.h)
  pub some : 0 < c.rect.w
  pub few : c.rect.w * c.rect.h < 2 ^ 32
  pub within : c.filled ≤ c.rect.w * c.rect.h
  pub filled : (k : ℕ) → k < c.filled → is_some (stands c.samples.items k) ≡ true

-- the rectangle holds the part, which has a column
pub record HoldsPart (rect part : Rect) : Type 0 where
  pub left : rect.x ≤ part.x
  pub right : part.x + part.w ≤ rect.x + rect.w
  pub top : rect.y ≤ part.y
  pub bottom : part.y + part.h ≤ rect.y + rect.h
  pub some : 0 < part.w

-- what is made of pixels from `base` on stands where the samples were open
pub record IsMergedFrom (taking : Taking) (kind : PixelType) (pixels : List ℤ) (base : ℕ) (old new : List ℤ)
    : Type 0 where
  pub size : length new ≡ length old
  pub each : (k : ℕ) → k < length old →
      IsSame kind (filled_with (slice_index_or new k (pos 0))) (option_or (filled_with (slice_index_or old k (pos 0)))
      (taken_by taking (slice_index_or pixels (base + k) (pos 0))))

-- the column and the line lie in the first so many rows of a place
pub record IsInPlace (place : Place) (rows x y : ℕ) : Type 0 where
  pub left : place.to ≤ x
  pub right : x < place.to + place.columns
  pub top : place.top ≤ y
  pub bottom : y < place.top + rows

-- what is made of the pixels of the first so many rows of a place stands where the samples were open
pub record IsMerged (taking : Taking) (kind : PixelType) (pixels : List ℤ) (place : Place) (rows : ℕ) (old new : List ℤ)
    : Type 0 where
  pub size : length new ≡ length old
  pub inside : (x y : ℕ) → IsInPlace place rows x y
      →
      IsSame kind (filled_with (slice_index_or new (y * place.stride + x) (pos 0)))
      (option_or (filled_with (slice_index_or old (y * place.stride + x) (pos 0)))
      (taken_by taking (slice_index_or pixels ((y - place.top) * place.columns + (x - place.to)) (pos 0))))
  pub outside : (x y : ℕ) → x < place.stride → y * place.stride + x < length old → (IsInPlace place rows x y → ⊥) →
      slice_index_or new (y * place.stride + x) (pos 0) ≡ slice_index_or old (y * place.stride + x) (pos 0)

-- what stands on a canvas at a column and a line of its mosaic
abbrev pub stands_at : Canvas → ℕ → ℕ → Option ℤ
stands_at c x y = stands c.samples.items ((y - c.rect.y) * c.rect.w + (x - c.rect.x))

-- what is made of the pixels of a part stands where the canvas was open
pub record IsTaken (taking : Taking) (pixels : List ℤ) (part : Rect) (old new : Canvas) : Type 0 where
  pub rect : new.rect ≡ old.rect
  pub kind : new.kind ≡ old.kind
  pub inside : (x y : ℕ) → IsInside part x y →
      IsSame old.kind (stands_at new x y) (option_or (stands_at old x y)
      (taken_by taking (slice_index_or pixels ((y - part.y) * part.w + (x - part.x)) (pos 0))))
  pub outside : (x y : ℕ) → IsInside old.rect x y → (IsInside part x y → ⊥) → stands_at new x y ≡ stands_at old x y

-- the block has the canvas's samples, with a value for those that are open
pub record IsPackedOf (c : Canvas) (value : ℤ) (block : BlockView) : Type 0 where
  pub samples : List ℤ
  pub size : length samples ≡ c.rect.w * c.rect.h
  pub each : (k : ℕ) → k < c.rect.w * c.rect.h →
      slice_index_or samples k (pos 0) ≡ unwrap_or (stands c.samples.items k) value
  pub packed : block ≡ block_view c.kind (map (clamp c.kind) samples)

-- at each pixel of a canvas something stands, or a source covers nothing
abbrev pub IsUnasked : SourceValue → Size → Size → Canvas → Type 0
IsUnasked s mosaic size c =
    (x y : ℕ) → IsInside c.rect x y → (is_some (stands_at c x y) ≡ true) ⊎ (cover_of s mosaic size x y ≡ None)

-- pixels of the dataset that a source of the mosaic that a key is of names: those of a part of a canvas, all of which
-- the source covers; beside the part something stands, or the source covers nothing
pub record IsAsked (cat : List Dataset) (key : BlockKey) (s : SourceValue) (c : Canvas) (a : Asked) : Type 0 where
  pub picture : IsPictureOf cat a.picture
  pub falls : height_at cat a.picture.dataset < height_at cat key.dataset
  pub inside : HoldsPart c.rect a.part
  pub width : a.picture.width ≡ a.part.w
  pub height : a.picture.height ≡ a.part.h
  pub to : a.picture.to ≡ 0
  pub stride : a.picture.stride ≡ a.part.w
  pub taking : a.picture.taking ≡ All
  pub takes : TakesBand cat s a.picture
  pub size : length a.pixels.items ≡ a.part.w * a.part.h
  pub pixels : (m : Files) (d : Dataset) → slice_get cat key.dataset ≡ Some d → (x y : ℕ) →
      member_pixel m cat d s x y ≡ pixel_of m cat a.picture.dataset a.picture.band x y
  pub across : (d : Dataset) → slice_get cat key.dataset ≡ Some d → (k : ℕ) → k < a.part.w →
      axis_at (columns_of s d.head.size (member_size cat d s)) (member_size cat d s).w (a.part.x + k) ≡ Some
      (place_at a.picture.columns k)
  pub down : (d : Dataset) → slice_get cat key.dataset ≡ Some d → (k : ℕ) → k < a.part.h →
      axis_at (lines_of s d.head.size (member_size cat d s)) (member_size cat d s).h (a.part.y + k) ≡ Some
      (place_at a.picture.lines k)
  pub outside : (d : Dataset) → slice_get cat key.dataset ≡ Some d → (x y : ℕ) → IsInside c.rect x y →
      (IsInside a.part x y → ⊥) → (is_some (stands_at c x y) ≡ true)
      ⊎ (cover_of s d.head.size (member_size cat d s) x y ≡ None)

-- what a source of a dataset gives at a pixel, of the dataset of the catalog that it names
abbrev pub source_given : Files → List Dataset → Dataset → SourceValue → ℕ → ℕ → Option ℤ
source_given m cat d s x y = given_of s d.head.size (member_size cat d s) (member_pixel m cat d s) x y

-- what a source of a dataset gives stands where the canvas was open
pub record IsSourceTaken (told : Option Files) (cat : List Dataset) (d : Dataset) (s : SourceValue) (old new : Canvas)
    : Type 0 where
  pub rect : new.rect ≡ old.rect
  pub kind : new.kind ≡ old.kind
  pub given : (m : Files) → told ≡ Some m → (x y : ℕ) → IsInside old.rect x y →
      IsSame old.kind (stands_at new x y) (option_or (stands_at old x y) (source_given m cat d s x y))

-- on a canvas stands what the sources of a band of a dataset give from this number on
abbrev pub AreTaken : Option Files → List Dataset → Dataset → ℕ → List SourceValue → Canvas → Type 0
AreTaken told cat d number sources c = (m : Files) → told ≡ Some m → (x y : ℕ) → IsInside c.rect x y →
    IsSame c.kind (stands_at c x y) (last_given (λ s. source_given m cat d s x y) (drop number sources))
