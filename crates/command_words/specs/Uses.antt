-- The uses of options and positional words, and what they say.
use Rattle.std.specs.Prelude.{ℕ, ℤ, ◌+◌, ◌++◌, ◌==◌, not, ◌||◌, Bool, false, List, [], ◌∷◌, take, Option, Some, None}
use Rattle.std.specs.Prelude.{is_some, option_map, Result, Ok, Err, ok_or, zero, suc, if◌then◌else◌}
use Rattle.std.specs.Option.{unwrap_or}
use Rattle.lists_and_answers.specs.Answers.{◌>>=◌}
use Rattle.geotransform.specs.Decimal.{is_decimal, ticks_of}
use Rattle.geotransform.specs.declared.types.PixelType.{PixelType}
use Rattle.esri_hdr.specs.declared.header_parts.Layout.{Layout}
use Rattle.catalog.specs.declared.nodata.NodataWord.{NodataWord}
use Rattle.catalog.specs.declared.nodata.NodataWord.TheVariants as nodata
use Rattle.translate_plan.specs.declared.options.View.{View}
use Rattle.translate_plan.specs.declared.options.OutSize.{OutSize}
use Rattle.buildvrt.specs.declared.options.Resolution.{Resolution}
use Rattle.buildvrt.specs.declared.options.Extent.{Extent}
use Rattle.command_words.specs.declared.options.Tool.{Tool}
use Rattle.command_words.specs.declared.options.Tool.TheVariants.{Info, Locate, Translate, Build, Synth}
use Rattle.command_words.specs.declared.options.OptionWord.{OptionWord}
use Rattle.command_words.specs.declared.spoken.MosaicSaid.TheVariants as mosaic
use Rattle.command_words.specs.declared.spoken.MosaicWanted.{MosaicWanted}
use Rattle.command_words.specs.declared.spoken.OutFormat.{OutFormat}
use Rattle.command_words.specs.declared.spoken.ResolutionWord.{ResolutionWord}
use Rattle.command_words.specs.declared.spoken.Said.{Said}
use Rattle.command_words.specs.declared.spoken.Said.TheVariants as said
use Rattle.command_words.specs.declared.spoken.Spoken.{Spoken}
use Rattle.command_words.specs.declared.spoken.Wanted.{Wanted}
use Rattle.command_words.specs.declared.spoken.WordFault.{WordFault}
use Rattle.command_words.specs.declared.spoken.WordFault.TheVariants.{Usage}
use Rattle.command_words.specs.Options.{option_of, value_count}
use Rattle.command_words.specs.Said.{option_said}
use Rattle.command_words.specs.Values.{begins_with_dash, name_of, tile_side_of}

-- a word that isn't the value of an option: its number, the option that it is, if it is one, and its values, which may
-- end early
pub record Use : Type 0 where
  pub at : ℕ
  pub word : List ℕ
  pub option : Option OptionWord
  pub values : List (List ℕ)

-- how many words behind a word are its values
abbrev pub values_behind : Option OptionWord → ℕ
values_behind None = 0
values_behind (Some option) = value_count option

-- the uses among words from this number on, where so many first ones are values of the option before
abbrev pub uses_from : Tool → ℕ → ℕ → List (List ℕ) → List Use
uses_from tool at taken [] = []
uses_from tool at zero (word ∷ words) = record {
  at = at;
  word = word;
  option = option_of tool word;
  values = take (values_behind (option_of tool word)) words;
} ∷ uses_from
    tool (at + 1) (values_behind (option_of tool word)) words
uses_from tool at (suc taken) (word ∷ words) = uses_from tool (at + 1) taken words

-- whether a word that begins with a dash may stand without an option
abbrev pub may_be_negative : Tool → List ℕ → Bool
may_be_negative Info word = false
may_be_negative Locate word = is_decimal word
may_be_negative Translate word = false
may_be_negative Build word = false
may_be_negative Synth word = false

-- whether a word that is no option is positional
abbrev pub is_positional : Tool → List ℕ → Bool
is_positional tool word = not (begins_with_dash word) || may_be_negative tool word

-- a positional word as the name of a dataset, as that of an output, as one of many inputs, as a number of a point, and
-- as the side of a tile
abbrev pub source_said : List ℕ → Option Said
source_said word = option_map (λ name. said.Source name) (name_of word)

abbrev pub output_said : List ℕ → Option Said
output_said word = option_map (λ name. said.Output name) (name_of word)

abbrev pub input_said : List ℕ → Option Said
input_said word = option_map (λ name. said.Input name) (name_of word)

abbrev pub x_said : List ℕ → Option Said
x_said word = option_map (λ x. said.X x) (ticks_of word)

abbrev pub y_said : List ℕ → Option Said
y_said word = option_map (λ y. said.Y y) (ticks_of word)

abbrev pub tile_said : List ℕ → Option Said
tile_said word = option_map (λ n. said.Tile n) (tile_side_of word)

-- a positional word behind so many others, where there is a place for it and it is of the form
abbrev pub positional_of : Tool → ℕ → List ℕ → Option Said
positional_of Info before word = if before == 0 then source_said word else None
positional_of Locate before word = if before == 0 then source_said word else if before == 1 then x_said word
    else if before == 2 then y_said word else None
positional_of Translate before word = if before == 0 then source_said word
    else if before == 1 then output_said word else None
positional_of Build before word = if before == 0 then output_said word else input_said word
positional_of Synth before word = if before == 0 then tile_said word else None

-- what a positional word behind so many others says
unfoldable pub placed_said : Tool → ℕ → ℕ → List ℕ → Result Said WordFault
placed_said tool before at word = if is_positional tool word then ok_or (positional_of tool before word) (Usage at)
    else Err (Usage at)

-- what a use says, of all words so many, behind so many positional words
abbrev pub said_by : Option OptionWord → Tool → ℕ → ℕ → Use → Result Said WordFault
said_by (Some option) tool count before u = option_said option (record { at = u.at; count = count }) u.values
said_by None tool count before u = placed_said tool before u.at u.word

-- how many positional words stand before the next use
abbrev pub behind_use : ℕ → Option OptionWord → ℕ
behind_use before None = before + 1
behind_use before (Some option) = before

-- what uses say, behind what others said, judged from left to right; the latest stands first, each with the number of
-- its word
abbrev pub judged : Tool → ℕ → ℕ → List (ℕ × Said) → List Use → Result (List (ℕ × Said)) WordFault
judged tool count before uses [] = Ok uses
judged tool count before uses (u ∷ us) = said_by u.option tool count before u
    >>= (λ s. judged tool count (behind_use before u.option) ((u.at, s) ∷ uses) us)

-- the first of two things, where it is there, else the second
abbrev pub later : {T : Type 0} → Option T → Option T → Option T
later (Some x) earlier = Some x
later None earlier = earlier

-- the last thing of a sort that uses say, of which the latest stands first
abbrev pub last : {T : Type 0} → (ℕ → Said → Option T) → List (ℕ × Said) → Option T
last sort [] = None
last sort (u ∷ us) = later (sort u.0 u.1) (last sort us)

-- Sorts of things that uses say: what is said, with the number of its word where that is looked at later.
abbrev pub verification : ℕ → Said → Option Bool
verification at (said.Verification on) = Some on
verification at other = None

abbrev pub block_count : ℕ → Said → Option ℕ
block_count at (said.Blocks blocks) = Some blocks
block_count at other = None

abbrev pub worker_count : ℕ → Said → Option ℕ
worker_count at (said.Workers workers) = Some workers
worker_count at other = None

-- the number of the word at which a band is chosen
abbrev pub band_place : ℕ → Said → Option ℕ
band_place at (said.Band band) = Some at
band_place at other = None

abbrev pub values_only : ℕ → Said → Option ℕ
values_only at said.ValuesOnly = Some at
values_only at other = None

abbrev pub files_only : ℕ → Said → Option ℕ
files_only at said.FilesOnly = Some at
files_only at other = None

abbrev pub geoloc : ℕ → Said → Option ℕ
geoloc at said.Geoloc = Some at
geoloc at other = None

abbrev pub format : ℕ → Said → Option OutFormat
format at (said.Format f) = Some f
format at other = None

-- a window in pixels, with the number of its word
abbrev pub window : ℕ → Said → Option (ℕ × View)
window at (said.Window v) = Some (at, v)
window at other = None

-- a window in coordinates, with the number of its word
abbrev pub places : ℕ → Said → Option (ℕ × View)
places at (said.Places v) = Some (at, v)
places at other = None

abbrev pub outsize : ℕ → Said → Option (OutSize × OutSize)
outsize at (said.OutSize w h) = Some (w, h)
outsize at other = None

abbrev pub nodata_word : ℕ → Said → Option NodataWord
nodata_word at (said.Nodata n) = Some n
nodata_word at other = None

abbrev pub kind : ℕ → Said → Option PixelType
kind at (said.Kind k) = Some k
kind at other = None

abbrev pub interleave : ℕ → Said → Option (ℕ × Layout)
interleave at (said.Interleave l) = Some (at, l)
interleave at other = None

abbrev pub quiet : ℕ → Said → Option ℕ
quiet at said.Quiet = Some at
quiet at other = None

-- the number of the word that refuses a window partly outside the source
abbrev pub inside : ℕ → Said → Option ℕ
inside at said.Inside = Some at
inside at other = None

-- the number of the word that refuses a window wholly outside the source
abbrev pub touching : ℕ → Said → Option ℕ
touching at said.Touching = Some at
touching at other = None

abbrev pub resolution : ℕ → Said → Option (ℕ × ResolutionWord)
resolution at (said.Mosaic (mosaic.Resolution word)) = Some (at, word)
resolution at other = None

abbrev pub pixel_size : ℕ → Said → Option (ℕ × Resolution)
pixel_size at (said.Mosaic (mosaic.PixelSize size)) = Some (at, size)
pixel_size at other = None

abbrev pub extent : ℕ → Said → Option Extent
extent at (said.Mosaic (mosaic.Extent e)) = Some e
extent at other = None

abbrev pub source_nodata : ℕ → Said → Option NodataWord
source_nodata at (said.Mosaic (mosaic.SourceNodata n)) = Some n
source_nodata at other = None

abbrev pub mosaic_nodata : ℕ → Said → Option NodataWord
mosaic_nodata at (said.Mosaic (mosaic.Nodata n)) = Some n
mosaic_nodata at other = None

abbrev pub separate : ℕ → Said → Option ℕ
separate at (said.Mosaic mosaic.Separate) = Some at
separate at other = None

abbrev pub strict : ℕ → Said → Option ℕ
strict at (said.Mosaic mosaic.Strict) = Some at
strict at other = None

abbrev pub list : ℕ → Said → Option (List ℕ)
list at (said.List name) = Some name
list at other = None

abbrev pub source : ℕ → Said → Option (List ℕ)
source at (said.Source name) = Some name
source at other = None

abbrev pub output : ℕ → Said → Option (ℕ × List ℕ)
output at (said.Output name) = Some (at, name)
output at other = None

abbrev pub x_place : ℕ → Said → Option ℤ
x_place at (said.X x) = Some x
x_place at other = None

abbrev pub y_place : ℕ → Said → Option ℤ
y_place at (said.Y y) = Some y
y_place at other = None

abbrev pub tile : ℕ → Said → Option ℕ
tile at (said.Tile n) = Some n
tile at other = None

-- these bands, and behind them the one that is said, if it is a band
abbrev pub with_band : List ℕ → Said → List ℕ
with_band bands (said.Band band) = bands ++ band ∷ []
with_band bands other = bands

-- all bands that uses choose, in the order in which they are said
abbrev pub bands_said : List (ℕ × Said) → List ℕ
bands_said [] = []
bands_said (u ∷ us) = with_band (bands_said us) u.1

-- these inputs, and behind them the one that is said, if it is an input
abbrev pub with_input : List (List ℕ) → Said → List (List ℕ)
with_input inputs (said.Input name) = inputs ++ name ∷ []
with_input inputs other = inputs

-- all inputs that uses name, in the order in which they are said
abbrev pub inputs_said : List (ℕ × Said) → List (List ℕ)
inputs_said [] = []
inputs_said (u ∷ us) = with_input (inputs_said us) u.1

-- what they want of a translation: the last of each option
abbrev pub wanted_of : List (ℕ × Said) → Wanted
wanted_of uses = record {
  format = last format uses;
  window = last window uses;
  places = last places uses;
  outsize = last outsize uses;
  nodata = unwrap_or (last nodata_word uses) nodata.Absent;
  kind = last kind uses;
  interleave = last interleave uses;
  inside = is_some (last inside uses);
  touching = is_some (last touching uses);
}

-- the same of a mosaic
abbrev pub mosaic_of : List (ℕ × Said) → MosaicWanted
mosaic_of uses = record {
  resolution = last resolution uses;
  pixel_size = last pixel_size uses;
  extent = last extent uses;
  src_nodata = unwrap_or (last source_nodata uses) nodata.Absent;
  vrt_nodata = unwrap_or (last mosaic_nodata uses) nodata.Absent;
  separate = last separate uses;
  strict = is_some (last strict uses);
}

-- How many blocks a pool holds where no use says it.
abbrev pub usual_blocks : ℕ
usual_blocks = 64

-- what uses say in all: the last of each option, all bands, and the positional words
unfoldable pub spoken_of : List (ℕ × Said) → Spoken
spoken_of uses = record {
  verify = unwrap_or (last verification uses) false;
  blocks = unwrap_or (last block_count uses) usual_blocks;
  workers = unwrap_or (last worker_count uses) 1;
  bands = bands_said uses;
  band_at = last band_place uses;
  values_only = last values_only uses;
  files_only = last files_only uses;
  geoloc = is_some (last geoloc uses);
  quiet = is_some (last quiet uses);
  wanted = wanted_of uses;
  mosaic = mosaic_of uses;
  list = last list uses;
  inputs = inputs_said uses;
  source = last source uses;
  output = last output uses;
  x = last x_place uses;
  y = last y_place uses;
  tile = last tile uses;
}

-- the same of the words behind the first, of all words so many
unfoldable pub spoken_in : Tool → ℕ → List (List ℕ) → Result Spoken WordFault
spoken_in tool count words = do
  uses ← judged tool count 0 [] (uses_from tool 1 0 words)
  Ok (spoken_of uses)
