-- What a source makes of pixels: its NODATA, offset, ratio and table.
use Rattle.std.specs.Prelude.{ℤ, pos, Bool, not, is_some, ◌&&◌, List, Option, None}
use Rattle.std.specs.Ordering.{int_eq}
use Rattle.vrt_profile.specs.Values.{trillion}
use Rattle.vrt_profile.specs.declared.rectangle.LutPair.{LutPair}

-- the pixel that gives nothing, what is added to a scaled pixel, what a pixel is scaled by, and the table
pub record ScalingValue : Type 0 where
  pub nodata : Option ℤ
  pub offset : ℤ
  pub ratio : ℤ
  pub lut : Option (List LutPair)

-- the one that changes no pixel
abbrev pub no_scaling : ScalingValue
no_scaling = record { nodata = None; offset = pos 0; ratio = pos trillion; lut = None }

-- whether it neither scales a pixel nor has a table
abbrev pub keeps_pixels : ScalingValue → Bool
keeps_pixels s = int_eq s.ratio (pos trillion) && (int_eq s.offset (pos 0) && not (is_some s.lut))
