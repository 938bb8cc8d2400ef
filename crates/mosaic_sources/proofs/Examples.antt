-- Lists of lines that are worked out by computing alone.
use Rattle.std.proofs.Common.{◌≡◌, ℤ, pos, List, [], ◌∷◌, Some, None, true, false, refl}
use Rattle.geotransform.specs.declared.types.Size.{Size}
use Rattle.vrt_profile.specs.Values.{SourceValue}
use Rattle.mosaic_sources.specs.Rows.{covers_line, covering_lines}

abbrev size : Size
size = record { w = 2; h = 2 }

-- a source of one line's height from a line on, in millionths
abbrev from_line : ℤ → SourceValue
from_line top = record { complex = false; relative = true; file = []; band = 1; src = None; dst = Some (record { x = pos 0; y = top; w = pos 2000000; h = pos 1000000 }); nodata = None; offset = pos 0; ratio = pos 1000000000000; lut = None }

-- from the middle of the first line, and from the second line on
abbrev two : List SourceValue
two = from_line (pos 500000) ∷ from_line (pos 1000000) ∷ []

-- the middle of a line that stands on the first edge is covered
first_line : covering_lines two size 0 ≡ 0 ∷ []
unfolding covers_line
first_line = refl

-- and on the last edge it isn't
second_line : covering_lines two size 1 ≡ 1 ∷ []
unfolding covers_line
second_line = refl
