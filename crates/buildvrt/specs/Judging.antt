-- Which inputs are skipped, and why.
use Rattle.std.specs.Prelude.{ℕ, suc, ◌+◌, ◌*◌, ◌-◌, ◌<◌, Bool, true, false, ◌&&◌, ◌||◌, ◌==◌, not, List, [], ◌∷◌, ◌++◌}
use Rattle.std.specs.Prelude.{length, nat_le, slice_get, Option, None, Some, Result, Ok, Err, ok_or, if◌then◌else◌}
use Rattle.std.specs.List.{list_all, range_with_len}
use Rattle.std.specs.Option.{option_and_then}
use Rattle.lists_and_answers.specs.Answers.{◌>>=◌}
use Rattle.geotransform.specs.Geo.{Transform, is_north_up}
use Rattle.geotransform.specs.Types.{byte_count, is_same, is_signed}
use Rattle.geotransform.specs.declared.types.PixelType.{PixelType}
use Rattle.catalog.specs.Dataset.{band_at, band_count, DatasetHead}
use Rattle.catalog.specs.declared.kind.BandHead.{BandHead}
use Rattle.buildvrt.specs.Options.{Options}
use Rattle.buildvrt.specs.Tiles.{TileValue}
use Rattle.buildvrt.specs.declared.faults.Reason.{Reason}
use Rattle.buildvrt.specs.declared.faults.Reason.TheVariants.{Geotransform, Srs, Bands, BandType}
use Rattle.buildvrt.specs.declared.faults.Skipped.{Skipped}
use Rattle.buildvrt.specs.declared.faults.BuildFault.{BuildFault}
use Rattle.buildvrt.specs.declared.faults.BuildFault.TheVariants.{Nothing, Strict}

-- what is asked, or the reason why an input is skipped
abbrev pub asked : Bool → Reason → Result (Unit {0}) Reason
asked holds reason = if holds then Ok tt else Err reason

-- a geotransform whose columns go east and whose lines go south
abbrev pub north_up : Transform → Option Transform
north_up g = if is_north_up g then Some g else None

-- the geotransform of a dataset, where its columns go east and its lines go south
abbrev pub north_up_of : DatasetHead → Option Transform
north_up_of h = option_and_then north_up h.geo

-- whether two texts, where they stand, are the same
abbrev pub same_text : Option (List ℕ) → Option (List ℕ) → Bool
same_text None None = true
same_text None (Some b) = false
same_text (Some a) None = false
same_text (Some a) (Some b) = is_same false a b

-- whether a dataset has each of these bands
abbrev pub has_bands : DatasetHead → List ℕ → Bool
has_bands h numbers = list_all (λ n. nat_le n (band_count h)) numbers

-- a band of a dataset by its number from 1
abbrev pub numbered_band : DatasetHead → ℕ → Option BandHead
numbered_band h n = band_at h (n - 1)

-- The bands that are taken of the reference: the chosen ones, or all.
abbrev pub numbers_or_all : List ℕ → ℕ → List ℕ
numbers_or_all [] count = range_with_len 1 count
numbers_or_all (n ∷ ns) count = n ∷ ns

-- the numbers of the bands that are taken of the reference
abbrev pub taken_bands : Options → DatasetHead → List ℕ
taken_bands o reference = numbers_or_all o.bands (band_count reference)

-- the types of samples, numbered from 2 on by their bytes and their sign, which tell them apart
abbrev pub type_number : PixelType → ℕ
type_number kind = if is_signed kind then 2 * byte_count kind + 1 else 2 * byte_count kind

-- the number of a band's type, 0 where there is no such band
abbrev pub band_type : Option BandHead → ℕ
band_type None = 0
band_type (Some band) = type_number band.kind

-- whether two datasets have the same type in the band of a number
abbrev pub same_type : DatasetHead → DatasetHead → ℕ → Bool
same_type a b n = band_type (numbered_band a n) == band_type (numbered_band b n)

-- whether two datasets have the same types in all these bands
abbrev pub same_types : DatasetHead → DatasetHead → List ℕ → Bool
same_types a b numbers = list_all (same_type a b) numbers

-- whether no bands are chosen
abbrev pub no_choice : List ℕ → Bool
no_choice [] = true
no_choice (n ∷ ns) = false

-- where neither bands are chosen nor each input gives a band, all have as many bands
abbrev pub same_count : Options → DatasetHead → DatasetHead → Bool
same_count o reference h = if no_choice o.bands && not o.separate then band_count h == band_count reference
    else true

-- An input before there is a reference: what it is in the mosaic, or the first reason to skip it.
unfoldable pub judged_alone : Options → DatasetHead → Result TileValue Reason
judged_alone o h = do
  place ← ok_or (north_up_of h) Geotransform
  bands ← asked (has_bands h o.bands) Bands
  Ok (record { head = h; place = place })

-- an input beside the reference
unfoldable pub judged_beside : Options → DatasetHead → DatasetHead → Result TileValue Reason
judged_beside o reference h = do
  place ← ok_or (north_up_of h) Geotransform
  srs ← asked (same_text h.srs reference.srs) Srs
  bands ← asked (has_bands h o.bands && same_count o reference h) Bands
  types ← asked (o.separate || same_types h reference (taken_bands o reference)) BandType
  Ok (record { head = h; place = place })

-- the inputs that stay and the inputs that are skipped, in order
pub record JudgedValue : Type 0 where
  pub tiles : List TileValue
  pub skipped : List Skipped

-- what is judged of no input
abbrev pub none_judged : JudgedValue
none_judged = record { tiles = []; skipped = [] }

-- the judged inputs of two lists, those of the first before those of the second
abbrev pub joined : JudgedValue → JudgedValue → JudgedValue
joined a b = record { tiles = a.tiles ++ b.tiles; skipped = a.skipped ++ b.skipped }

-- what is judged of one input, which has this number
abbrev pub one_judged : ℕ → Result TileValue Reason → JudgedValue
one_judged number (Ok tile) = record { tiles = tile ∷ []; skipped = [] }
one_judged number (Err reason) = record { tiles = []; skipped = record { input = number; reason = reason } ∷ [] }

-- the inputs behind the reference, the first of which has this number
abbrev pub judged_behind : Options → DatasetHead → ℕ → List DatasetHead → JudgedValue
judged_behind o reference number [] = none_judged
judged_behind o reference number (h ∷ hs) =
    joined (one_judged number (judged_beside o reference h)) (judged_behind o reference (suc number) hs)

-- The inputs from one on, before there is a reference: it is the first that isn't skipped.
abbrev pub first_judged : ℕ → Result TileValue Reason → JudgedValue → JudgedValue → JudgedValue
first_judged number (Ok tile) behind later = joined (one_judged number (Ok tile)) behind
first_judged number (Err reason) behind later = joined (one_judged number (Err reason)) later

-- the inputs from one on, which has this number, as long as there is no reference
abbrev pub judged_from : Options → ℕ → List DatasetHead → JudgedValue
judged_from o number [] = none_judged
judged_from o number (h ∷ hs) =
    first_judged number (judged_alone o h) (judged_behind o h (suc number) hs) (judged_from o (suc number) hs)

-- what is judged of all inputs
abbrev pub judged_of : Options → List DatasetHead → JudgedValue
judged_of o heads = judged_from o 0 heads

-- the name of a dataset, if there is one
abbrev pub name_of : Option DatasetHead → List ℕ
name_of None = []
name_of (Some h) = h.name

-- the refusal of the first skipped input, where one is skipped
abbrev pub first_refused : List DatasetHead → List Skipped → Result (Unit {0}) BuildFault
first_refused heads [] = Ok tt
first_refused heads (s ∷ ss) = Err (Strict (name_of (slice_get heads s.input)) s.reason)

-- where nothing may be skipped, the first skipped input is refused
abbrev pub strictly : Options → List DatasetHead → List Skipped → Result (Unit {0}) BuildFault
strictly o heads skipped = if o.strict then first_refused heads skipped else Ok tt

-- the first that isn't skipped
abbrev pub reference_of : List TileValue → Result TileValue BuildFault
reference_of [] = Err Nothing
reference_of (t ∷ ts) = Ok t

-- a skipped input is one of so many
pub record IsOneOf (count : ℕ) (s : Skipped) : Type 0 where
  pub below : s.input < count
