-- The scaling that is kept in one of several forms.
use Rattle.std.specs.Prelude.{Some, ◌<◌, IfSome, unsigned_abs, ℤ, pos, Bool, List, Option, None, if◌then◌else◌}
use Rattle.std.specs.Prelude.{unwrap_or}
use Rattle.geotransform.specs.Limits.{whole_limit}
use Rattle.vrt_profile.specs.Scaling.{ScalingValue, no_scaling}
use Rattle.vrt_profile.specs.declared.scaling.Kept.{Kept}
use Rattle.vrt_profile.specs.declared.scaling.Kept.TheVariants.{Plain, NoData, Table, Parts}
use Rattle.vrt_profile.specs.Values.{IsLut, scale_limit, trillion}
use Rattle.vrt_profile.specs.Means.{value_in}
use Rattle.vrt_profile.specs.declared.rectangle.LutPair.{LutPair}

abbrev pub kept_scaling : Kept → ScalingValue
kept_scaling Plain = no_scaling
kept_scaling (NoData n) = record no_scaling { nodata = Some n }
kept_scaling (Table lut) = record no_scaling { lut = Some lut.value }
kept_scaling (Parts parts) = parts.value

-- its limits
pub record IsScaling (s : ScalingValue) : Type 0 where
  pub nodata : IfSome s.nodata (λ n. unsigned_abs n < whole_limit)
  pub offset : unsigned_abs s.offset < scale_limit
  pub ratio : unsigned_abs s.ratio < scale_limit
  pub lut : IfSome s.lut IsLut

-- what is read of a source's scaling, which a source that isn't complex has not
abbrev pub scaling_of : Bool → Option (Option ℤ) → Option ℤ → Option ℤ → Option (List LutPair) → ScalingValue
scaling_of complex nodata offset ratio lut = record {
  nodata = if complex then value_in nodata else None;
  offset = if complex then unwrap_or offset (pos 0) else pos 0;
  ratio = if complex then unwrap_or ratio (pos trillion) else pos trillion;
  lut = if complex then lut else None;
}
