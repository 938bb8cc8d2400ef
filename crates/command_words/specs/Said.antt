-- What options say by their values.
use Rattle.std.specs.Prelude.{ℕ, pos, ◌+◌, not, true, List, codes, bytes_eq, slice_get, Option, Some, Result, Ok, ok_or}
use Rattle.std.specs.Prelude.{if◌then◌else◌}
use Rattle.lists_and_answers.specs.Answers.{◌>>=◌}
use Rattle.geotransform.specs.Decimal.{ticks_of}
use Rattle.geotransform.specs.Types.{type_named}
use Rattle.translate_plan.specs.declared.options.View.TheVariants as view
use Rattle.buildvrt.specs.declared.options.Resolution.TheVariants.{User}
use Rattle.command_words.specs.declared.options.OptionWord.{OptionWord}
use Rattle.command_words.specs.declared.options.OptionWord.TheVariants as option
use Rattle.command_words.specs.declared.spoken.MosaicSaid.TheVariants as mosaic
use Rattle.command_words.specs.declared.spoken.Said.{Said}
use Rattle.command_words.specs.declared.spoken.Said.TheVariants as said
use Rattle.command_words.specs.declared.spoken.WordPlace.{WordPlace}
use Rattle.command_words.specs.declared.spoken.WordFault.{WordFault}
use Rattle.command_words.specs.declared.spoken.WordFault.TheVariants.{Usage}
use Rattle.command_words.specs.Values.{band_of, blocks_of, integer_of, side_of, name_of, is_no, format_of, layout_of}
use Rattle.command_words.specs.Values.{nodata_of, resolution_named, beyond, workers_of}

-- a value, counted from 0, by how it is read; one that is refused is named, and where the values end early the number
-- of all words is
abbrev pub value_said : {T : Type 0} → (List ℕ → Option T) → WordPlace → List (List ℕ) → ℕ → Result T WordFault
value_said read place values i = do
  word ← ok_or (slice_get values i) (Usage place.count)
  ok_or (read word) (Usage (place.at + 1 + i))

-- any text
abbrev pub any_text : List ℕ → Option (List ℕ)
any_text word = Some word

-- what a setting says: only that of DTED_VERIFY_CHECKSUM has an effect
abbrev pub setting_said : List ℕ → List ℕ → Said
setting_said key value = if bytes_eq key (codes "DTED_VERIFY_CHECKSUM") then said.Verification (not (is_no value))
    else said.Setting

-- what --config says, by a key and a value
unfoldable pub config_said : WordPlace → List (List ℕ) → Result Said WordFault
config_said place values = do
  key ← value_said any_text place values 0
  value ← value_said any_text place values 1
  Ok (setting_said key value)

-- what -srcwin says: the offset and the size of a window in pixels
unfoldable pub window_said : WordPlace → List (List ℕ) → Result Said WordFault
window_said place values = do
  x ← value_said integer_of place values 0
  y ← value_said integer_of place values 1
  w ← value_said integer_of place values 2
  h ← value_said integer_of place values 3
  Ok (said.Window (view.Pixels x y w h))

-- what -projwin says: two corners of a window in coordinates
unfoldable pub places_said : WordPlace → List (List ℕ) → Result Said WordFault
places_said place values = do
  ulx ← value_said ticks_of place values 0
  uly ← value_said ticks_of place values 1
  lrx ← value_said ticks_of place values 2
  lry ← value_said ticks_of place values 3
  Ok (said.Places (view.Places ulx uly lrx lry))

-- what -outsize says: the columns and the lines of the output
unfoldable pub outsize_said : WordPlace → List (List ℕ) → Result Said WordFault
outsize_said place values = do
  w ← value_said side_of place values 0
  h ← value_said side_of place values 1
  Ok (said.OutSize w h)

-- what -b says: the number of a band
unfoldable pub band_said : WordPlace → List (List ℕ) → Result Said WordFault
band_said place values = do
  band ← value_said band_of place values 0
  Ok (said.Band band)

-- what --blocks says: how many blocks a pool may hold
unfoldable pub blocks_said : WordPlace → List (List ℕ) → Result Said WordFault
blocks_said place values = do
  blocks ← value_said blocks_of place values 0
  Ok (said.Blocks blocks)

-- what --workers says: how many lanes read beside each other
unfoldable pub workers_said : WordPlace → List (List ℕ) → Result Said WordFault
workers_said place values = do
  workers ← value_said workers_of place values 0
  Ok (said.Workers workers)

-- what -of says: the format of the output
unfoldable pub format_said : WordPlace → List (List ℕ) → Result Said WordFault
format_said place values = do
  format ← value_said format_of place values 0
  Ok (said.Format format)

-- what -a_nodata says: the NODATA of the output, or that it has none
unfoldable pub nodata_said : WordPlace → List (List ℕ) → Result Said WordFault
nodata_said place values = do
  word ← value_said nodata_of place values 0
  Ok (said.Nodata word)

-- what -ot says: the type of the output
unfoldable pub kind_said : WordPlace → List (List ℕ) → Result Said WordFault
kind_said place values = do
  kind ← value_said (type_named true) place values 0
  Ok (said.Kind kind)

-- what -co says: the layout of raw data
unfoldable pub creation_said : WordPlace → List (List ℕ) → Result Said WordFault
creation_said place values = do
  layout ← value_said layout_of place values 0
  Ok (said.Interleave layout)

-- what -resolution says: by which rule the pixel sizes of a mosaic are found
unfoldable pub resolution_said : WordPlace → List (List ℕ) → Result Said WordFault
resolution_said place values = do
  word ← value_said resolution_named place values 0
  Ok (said.Mosaic (mosaic.Resolution word))

-- the sizes of a pixel, which are above 0
unfoldable pub pixel_size_said : WordPlace → List (List ℕ) → Result Said WordFault
pixel_size_said place values = do
  dx ← value_said (beyond (pos 0)) place values 0
  dy ← value_said (beyond (pos 0)) place values 1
  Ok (said.Mosaic (mosaic.PixelSize (User dx dy)))

-- the least places, then the greatest ones, each of which is judged by the least one
unfoldable pub extent_said : WordPlace → List (List ℕ) → Result Said WordFault
extent_said place values = do
  xmin ← value_said ticks_of place values 0
  ymin ← value_said ticks_of place values 1
  xmax ← value_said (beyond xmin) place values 2
  ymax ← value_said (beyond ymin) place values 3
  Ok (said.Mosaic (mosaic.Extent (record { xmin = xmin; ymin = ymin; xmax = xmax; ymax = ymax })))

-- what -srcnodata says: the NODATA of the sources of a mosaic
unfoldable pub source_nodata_said : WordPlace → List (List ℕ) → Result Said WordFault
source_nodata_said place values = do
  word ← value_said nodata_of place values 0
  Ok (said.Mosaic (mosaic.SourceNodata word))

-- what -vrtnodata says: the NODATA of a mosaic
unfoldable pub mosaic_nodata_said : WordPlace → List (List ℕ) → Result Said WordFault
mosaic_nodata_said place values = do
  word ← value_said nodata_of place values 0
  Ok (said.Mosaic (mosaic.Nodata word))

-- what -input_file_list says: the name of a file of names
unfoldable pub list_said : WordPlace → List (List ℕ) → Result Said WordFault
list_said place values = do
  name ← value_said name_of place values 0
  Ok (said.List name)

-- what an option says by its values
abbrev pub option_said : OptionWord → WordPlace → List (List ℕ) → Result Said WordFault
option_said option.Config place values = config_said place values
option_said option.Blocks place values = blocks_said place values
option_said option.Workers place values = workers_said place values
option_said option.Band place values = band_said place values
option_said option.ValuesOnly place values = Ok said.ValuesOnly
option_said option.FilesOnly place values = Ok said.FilesOnly
option_said option.Geoloc place values = Ok said.Geoloc
option_said option.Format place values = format_said place values
option_said option.Window place values = window_said place values
option_said option.Places place values = places_said place values
option_said option.OutSize place values = outsize_said place values
option_said option.Nodata place values = nodata_said place values
option_said option.Kind place values = kind_said place values
option_said option.Creation place values = creation_said place values
option_said option.Quiet place values = Ok said.Quiet
option_said option.Inside place values = Ok said.Inside
option_said option.Touching place values = Ok said.Touching
option_said option.Resolution place values = resolution_said place values
option_said option.PixelSize place values = pixel_size_said place values
option_said option.Extent place values = extent_said place values
option_said option.SourceNodata place values = source_nodata_said place values
option_said option.MosaicNodata place values = mosaic_nodata_said place values
option_said option.Separate place values = Ok (said.Mosaic mosaic.Separate)
option_said option.Strict place values = Ok (said.Mosaic mosaic.Strict)
option_said option.Overwrite place values = Ok said.Setting
option_said option.InputList place values = list_said place values
