-- The bands of an output.
use Rattle.std.specs.Prelude.{ℕ, ℤ, ◌-◌, ◌==◌, slice_index, Bool, true, false, not, List, [], ◌∷◌, length, map, Option}
use Rattle.std.specs.Prelude.{Some, None, Result, Ok, Err, nat_lt, if◌then◌else◌}
use Rattle.std.specs.Option.{unwrap_or}
use Rattle.std.specs.List.{range_with_len, list_all}
use Rattle.geotransform.specs.Types.{when_in}
use Rattle.geotransform.specs.declared.types.PixelType.{PixelType}
use Rattle.geotransform.specs.declared.types.PixelType.TheVariants.{Byte, Int16}
use Rattle.geotransform.specs.declared.faults.PlanFault.{PlanFault}
use Rattle.geotransform.specs.declared.faults.PlanFault.TheVariants.{NoBand}
use Rattle.geotransform.specs.Places.{are_same}
use Rattle.catalog.specs.Dataset.{DatasetHead, band_at}
use Rattle.catalog.specs.declared.kind.BandHead.{BandHead}
use Rattle.catalog.specs.declared.nodata.NodataWord.{NodataWord}
use Rattle.catalog.specs.declared.nodata.NodataWord.TheVariants.{Absent, Remove, Number}
use Rattle.translate_plan.specs.declared.options.Driver.{Driver}
use Rattle.translate_plan.specs.declared.options.Driver.TheVariants.{EHdr, Dted, SrtmHgt, AaiGrid, Vrt}
use Rattle.translate_plan.specs.declared.band.OutBand.{OutBand}
use Rattle.translate_plan.specs.Options.{Options}
use Rattle.translate_plan.specs.Fits.{own_nodata}

-- each band, counted from 1, is one of the source, else the first that isn't is named
abbrev pub all_known : List ℕ → ℕ → Result (Unit {0}) PlanFault
all_known [] count = Ok tt
all_known (b ∷ bs) count = if nat_lt count b then Err (NoBand b) else all_known bs count

-- how many bands are asked for: all where no number is given
abbrev pub count_of : List ℕ → ℕ → ℕ
count_of bands count = if length bands == 0 then count else length bands

-- the number of the source's band, counted from 0, that is output band k
abbrev pub source_number_at : List ℕ → ℕ → ℕ
source_number_at bands k = if length bands == 0 then k else slice_index bands k - 1

-- the band that stands where a dataset has none of a number
abbrev pub no_band : BandHead
no_band = record { kind = Byte; nodata = None; block = record { w = 0; h = 0 } }

-- the source's band of this number, counted from 0
abbrev pub source_band : DatasetHead → ℕ → BandHead
source_band h b = unwrap_or (band_at h b) no_band

-- the type of an output's band, by the type that is asked for, that of the first chosen band and that of its own
abbrev pub band_type_by : Driver → PixelType → PixelType → PixelType
band_type_by EHdr first own = first
band_type_by (Dted level) first own = Int16
band_type_by SrtmHgt first own = Int16
band_type_by AaiGrid first own = first
band_type_by Vrt first own = own

-- the type of an output's band: the one that is asked for, or else that of the driver's rule
abbrev pub band_type_of : Driver → Option PixelType → PixelType → PixelType → PixelType
band_type_of driver (Some kind) first own = kind
band_type_of driver None first own = band_type_by driver first own

-- the NODATA that is asked for, or the source's where the type has it
abbrev pub nodata_by : NodataWord → PixelType → Option ℤ → Option ℤ
nodata_by Absent kind source = when_in kind source
nodata_by Remove kind source = None
nodata_by (Number n) kind source = Some n

-- the NODATA of an output's band: that of its format, or else what is asked for
abbrev pub nodata_of : Option ℤ → NodataWord → PixelType → Option ℤ → Option ℤ
nodata_of (Some own) word kind source = Some own
nodata_of None word kind source = nodata_by word kind source

-- the output's band of a source's band, by the first band's type
abbrev pub out_band : Options → PixelType → ℕ → BandHead → OutBand
out_band o first source own = record {
  source = source;
  kind = band_type_of o.driver o.kind first own.kind;
  nodata = nodata_of (own_nodata o.driver) o.nodata
      (band_type_of o.driver o.kind first own.kind) own.nodata;
}

-- output band k
abbrev pub out_band_at : Options → DatasetHead → ℕ → OutBand
out_band_at o h k =
    out_band o (source_band h (source_number_at o.bands 0)).kind (source_number_at o.bands k)
    (source_band h (source_number_at o.bands k))

-- a band without its NODATA, or with it
abbrev pub nodata_band_by : Bool → OutBand → OutBand
nodata_band_by true b = record { source = b.source; kind = b.kind; nodata = None }
nodata_band_by false b = b

-- the output's bands, all without their NODATA or all with it
abbrev pub bands_by : Bool → Options → DatasetHead → List OutBand
bands_by bare o h = map (λ k. nodata_band_by bare (out_band_at o h k))
    (range_with_len 0 (count_of o.bands (length h.bands)))

-- two bands have the same NODATA, or both have none
abbrev pub same_nodata : Option ℤ → Option ℤ → Bool
same_nodata None None = true
same_nodata None (Some b) = false
same_nodata (Some a) None = false
same_nodata (Some a) (Some b) = are_same a b

-- whether bands all have the same NODATA, or all have none
abbrev pub agree : List OutBand → Bool
agree [] = true
agree (b ∷ bs) = list_all (λ c. same_nodata b.nodata c.nodata) bs

-- an ESRI header has one NODATA for all bands, and none where they disagree
abbrev pub is_bare : Driver → List OutBand → Bool
is_bare EHdr bands = not (agree bands)
is_bare (Dted level) bands = false
is_bare SrtmHgt bands = false
is_bare AaiGrid bands = false
is_bare Vrt bands = false

-- the output's bands as they are asked for
abbrev pub asked_bands : Options → DatasetHead → List OutBand
asked_bands o h = bands_by false o h

-- the output's bands as they are
abbrev pub out_bands : Options → DatasetHead → List OutBand
out_bands o h = bands_by (is_bare o.driver (asked_bands o h)) o h

-- a band that stands for none
abbrev pub no_out_band : OutBand
no_out_band = record { source = 0; kind = Byte; nodata = None }
