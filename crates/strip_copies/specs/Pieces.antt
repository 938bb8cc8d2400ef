-- Pieces of an output that are copied from its source: of some lines of a band the samples in some columns.
use Rattle.std.specs.Prelude.{◌≡◌, ◌<◌, ◌≤◌, ◌+◌, ◌-◌, ◌&&◌, ◌+ℤ◌, ℕ, ℤ, pos, Bool, true, List, length, Some, slice_get}
use Rattle.std.specs.Prelude.{nat_eq, int_le, unsigned_abs}
use Rattle.geotransform.specs.declared.types.Rect.{Rect}
use Rattle.geotransform.specs.declared.types.Size.{Size}
use Rattle.catalog.specs.Drivers.{Dataset}
use Rattle.translate_plan.specs.Plan.{Planned}
use Rattle.strip_copies.specs.declared.pieces.Piece.{Piece}

-- so many columns, or lines, from an offset on lie on a side
abbrev pub lies_on : ℕ → ℤ → ℕ → Bool
lies_on side offset count = int_le (pos 0) offset && int_le (offset +ℤ pos count) (pos side)

-- an output of the window's size shows it as it is, and all of it lies in the raster of a source of this size
abbrev pub copies : Size → Size → ℤ → ℤ → Size → Bool
copies window size x y source =
    (nat_eq window.w size.w && nat_eq window.h size.h) && (lies_on source.w x size.w && lies_on source.h y size.h)

-- so does a plan: each sample is that of one pixel
abbrev pub is_copied : Planned → Size → Bool
is_copied p source = copies p.window p.size p.x p.y source

-- so does the plan of the dataset of this number
abbrev pub IsCopied : List Dataset → ℕ → Planned → Type 0
IsCopied cat id p = (d : Dataset) → slice_get cat id ≡ Some d → is_copied p d.head.size ≡ true

-- columns and lines of a band of a plan
pub record IsPiece (p : Planned) (piece : Piece) : Type 0 where
  pub band : piece.band < length p.bands
  pub lines : piece.first < piece.end
  pub height : piece.end ≤ p.size.h
  pub columns : piece.left < piece.right
  pub width : piece.right ≤ p.size.w

-- where a piece lies in the output
abbrev pub piece_rect : Piece → Rect
piece_rect piece = record {
  x = piece.left;
  y = piece.first;
  w = piece.right - piece.left;
  h = piece.end - piece.first;
}

-- where its pixels lie in the source
abbrev pub source_rect : Planned → Piece → Rect
source_rect p piece = record {
  x = unsigned_abs p.x + piece.left;
  y = unsigned_abs p.y + piece.first;
  w = piece.right - piece.left;
  h = piece.end - piece.first;
}
