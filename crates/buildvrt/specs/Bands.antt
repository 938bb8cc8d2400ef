-- The bands of a mosaic and their sources.
use Rattle.std.specs.Prelude.{ℕ, ℤ, Bool, ◌&&◌, nat_le, List, [], ◌∷◌, length, Option, None, Some, option_map, Result}
use Rattle.std.specs.Prelude.{Ok, Err, if◌then◌else◌}
use Rattle.std.specs.List.{filter_map}
use Rattle.geotransform.specs.Types.{when_in}
use Rattle.vrt_profile.specs.Values.{SourceValue, BandValue, Rectangle, source_count, most_sources}
use Rattle.vrt_profile.specs.Cover.{whole}
use Rattle.vrt_profile.specs.Built.{plain_source}
use Rattle.vrt_profile.specs.Resolve.{related}
use Rattle.catalog.specs.Dataset.{DatasetHead}
use Rattle.catalog.specs.declared.kind.BandHead.{BandHead}
use Rattle.buildvrt.specs.Options.{Options}
use Rattle.buildvrt.specs.Judging.{numbered_band, taken_bands}
use Rattle.buildvrt.specs.Rectangles.{PatchValue}
use Rattle.catalog.specs.declared.nodata.NodataWord.{NodataWord}
use Rattle.catalog.specs.declared.nodata.NodataWord.TheVariants.{Absent, Remove, Number}
use Rattle.buildvrt.specs.declared.faults.BuildFault.{BuildFault}
use Rattle.buildvrt.specs.declared.faults.BuildFault.TheVariants.{Limit}
use Rattle.geotransform.specs.Limits.{most_bands}

-- the NODATA of a source, from that of the input's band
abbrev pub source_nodata : NodataWord → Option ℤ → Option ℤ
source_nodata (Number n) own = Some n
source_nodata Remove own = None
source_nodata Absent own = own

-- the NODATA of the option for the sources, where it is a number, else that of the band
abbrev pub wanted_by_source : NodataWord → Option ℤ → Option ℤ
wanted_by_source (Number n) own = Some n
wanted_by_source Remove own = own
wanted_by_source Absent own = own

-- The NODATA that a band is to have, by the option for the mosaic, then by that for the sources, then from the band
-- that it is taken from. It has it where it is a number of its type.
abbrev pub wanted_nodata : NodataWord → NodataWord → Option ℤ → Option ℤ
wanted_nodata (Number n) src own = Some n
wanted_nodata Remove src own = None
wanted_nodata Absent src own = wanted_by_source src own

-- the NODATA of a dataset's band
abbrev pub band_nodata : Option BandHead → Option ℤ
band_nodata None = None
band_nodata (Some band) = band.nodata

-- the source that shows the whole of an input's band in a rectangle
abbrev pub source_of : Options → DatasetHead → ℕ → Rectangle → SourceValue
source_of o h number shown = plain_source (related o.out h.name) number (whole h.size) shown
    (source_nodata o.src_nodata (band_nodata (numbered_band h number)))

-- the source of an input that isn't left out
abbrev pub source_in : Options → ℕ → PatchValue → Option SourceValue
source_in o number p = option_map (source_of o p.head number) p.shown

-- a band of the mosaic, taken from this one, with these inputs
abbrev pub band_from : Options → BandHead → ℕ → List PatchValue → BandValue
band_from o band number patches = record {
  kind = band.kind;
  nodata = when_in band.kind (wanted_nodata o.vrt_nodata o.src_nodata band.nodata);
  sources = filter_map (source_in o number) patches;
}

-- the band of this number of a dataset, with these inputs
abbrev pub band_with : Options → DatasetHead → List PatchValue → ℕ → Option BandValue
band_with o h patches number = option_map (λ band. band_from o band number patches) (numbered_band h number)

-- one band for each chosen band of the reference, with all inputs
abbrev pub common_bands : Options → DatasetHead → List PatchValue → List BandValue
common_bands o reference patches = filter_map (band_with o reference patches) (taken_bands o reference)

-- the band of one input alone, from its first band
abbrev pub own_band : Options → PatchValue → Option BandValue
own_band o p = band_with o p.head (p ∷ []) 1

-- one band for each input, from its first band
abbrev pub separate_bands : Options → List PatchValue → List BandValue
separate_bands o patches = filter_map (own_band o) patches

-- the bands of a mosaic: one for each input, or those of the reference, as it is asked for
abbrev pub all_bands : Options → DatasetHead → List PatchValue → List BandValue
all_bands o reference patches = if o.separate then separate_bands o patches else common_bands o reference patches

-- the limits of a document: its bands, and the sources of all bands
abbrev pub is_few : ℕ → ℕ → Bool
is_few bands sources = nat_le bands most_bands && nat_le sources most_sources

-- the bands, where they and their sources are within the limits of a document
abbrev pub bands_within : List BandValue → Result (List BandValue) BuildFault
bands_within bands = if is_few (length bands) (source_count bands) then Ok bands else Err Limit

-- how many inputs aren't left out
abbrev pub shown_count : List PatchValue → ℕ
shown_count patches = length (filter_map (λ p. p.shown) patches)
