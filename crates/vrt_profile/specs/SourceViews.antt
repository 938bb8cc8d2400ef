-- What is read of a source so far, as definitions see it.
use Rattle.std.specs.Prelude.{Bool, None}
use Rattle.vrt_profile.specs.Means as means
use Rattle.vrt_profile.specs.declared.source.SourceParts.{SourceParts}

abbrev pub source_view : SourceParts → means.SourceParts
source_view p = record {
  file = p.file;
  band = p.band;
  src = p.src;
  dst = p.dst;
  nodata = p.nodata;
  offset = p.offset;
  ratio = p.ratio;
  lut = p.lut;
}

-- nothing so far
abbrev pub no_source : Bool → SourceParts
no_source complex = record {
  complex = complex;
  file = None;
  band = None;
  src = None;
  dst = None;
  nodata = None;
  offset = None;
  ratio = None;
  lut = None;
}
