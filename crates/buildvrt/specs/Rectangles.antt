-- Where the inputs lie in the mosaic.
use Rattle.std.specs.Prelude.{ℕ, ℤ, pos, ◌+ℤ◌, ◌-ℤ◌, ◌*ℤ◌, Bool, ◌&&◌, int_lt, nat_le, IfSome, unsigned_abs, List, []}
use Rattle.std.specs.Prelude.{◌∷◌, Option, None, Some, Result, Ok, Err, if◌then◌else◌}
use Rattle.lists_and_answers.specs.Answers.{◌>>=◌}
use Rattle.geotransform.specs.Places.{rounded_up}
use Rattle.geotransform.specs.declared.types.Size.{Size}
use Rattle.vrt_profile.specs.Values.{Rectangle, IsRectangle}
use Rattle.vrt_profile.specs.Built.{pixel_rectangle}
use Rattle.catalog.specs.Dataset.{DatasetHead, IsDatasetHead}
use Rattle.buildvrt.specs.Tiles.{TileValue}
use Rattle.buildvrt.specs.Grids.{GridValue, some_pixels, measure}
use Rattle.buildvrt.specs.declared.grid.Measure.TheVariants.{ColumnStep, LineStep}
use Rattle.buildvrt.specs.declared.patch.PixelRect.{PixelRect}
use Rattle.buildvrt.specs.declared.faults.BuildFault.{BuildFault}
use Rattle.buildvrt.specs.declared.faults.BuildFault.TheVariants.{Limit}
use Rattle.geotransform.specs.Limits.{farthest}

-- the pixels on which an input comes to lie
abbrev pub rectangle_of : GridValue → TileValue → PixelRect
rectangle_of g t = record {
  x = rounded_up (t.place.ox -ℤ g.left) g.dx;
  y = rounded_up (g.top -ℤ t.place.oy) g.dy;
  w = some_pixels (pos t.head.size.w *ℤ measure ColumnStep t) g.dx;
  h = some_pixels (pos t.head.size.h *ℤ measure LineStep t) g.dy;
}

-- whether a stretch from x on, which is w long, meets a raster's side
abbrev pub meets_side : ℤ → ℤ → ℕ → Bool
meets_side x w side = int_lt x (pos side) && int_lt (pos 0) (x +ℤ w)

-- whether a rectangle of pixels meets a raster
abbrev pub meets : Size → PixelRect → Bool
meets size r = meets_side r.x r.w size.w && meets_side r.y r.h size.h

-- the limits of a document's rectangles
abbrev pub is_offset : ℤ → Bool
is_offset v = nat_le (unsigned_abs v) farthest

-- whether a rectangle of pixels is within the limits of a document
abbrev pub is_within : PixelRect → Bool
is_within r = is_offset r.x && (is_offset r.y && (is_offset r.w && is_offset r.h))

-- in millionths of a pixel
abbrev pub in_millionths : PixelRect → Rectangle
in_millionths r = pixel_rectangle r.x r.y r.w r.h

-- The rectangle of an input, none where it meets no pixel of the mosaic.
abbrev pub shown_in : Size → PixelRect → Result (Option Rectangle) BuildFault
shown_in size r = if meets size r then (if is_within r then Ok (Some (in_millionths r)) else Err Limit) else Ok None

-- an input, and its rectangle in the mosaic
pub record PatchValue : Type 0 where
  pub head : DatasetHead
  pub shown : Option Rectangle

-- the patch of an input in a grid
unfoldable pub patch_of : GridValue → TileValue → Result PatchValue BuildFault
patch_of g t = do
  shown ← shown_in g.size (rectangle_of g t)
  Ok (record { head = t.head; shown = shown })

-- a patch before others
abbrev pub with_patch : PatchValue → List PatchValue → Result (List PatchValue) BuildFault
with_patch p ps = Ok (p ∷ ps)

-- the rectangles of all inputs, in order
abbrev pub patches_of : GridValue → List TileValue → Result (List PatchValue) BuildFault
patches_of g [] = Ok []
patches_of g (t ∷ ts) = patch_of g t >>= λ p. (patches_of g ts >>= with_patch p)

-- what a patch keeps
pub record IsPatch (p : PatchValue) : Type 0 where
  pub head : IsDatasetHead p.head
  pub shown : IfSome p.shown IsRectangle
