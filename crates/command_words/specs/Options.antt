-- The commands and their options.
use Rattle.std.specs.Prelude.{ℕ, List, [], ◌∷◌, codes, bytes_eq, Option, Some, None, if◌then◌else◌}
use Rattle.command_words.specs.declared.options.Tool.{Tool}
use Rattle.command_words.specs.declared.options.Tool.TheVariants.{Info, Locate, Translate, Build, Synth}
use Rattle.command_words.specs.declared.options.OptionWord.{OptionWord}
use Rattle.command_words.specs.declared.options.OptionWord.TheVariants as option

-- the command that a word names
abbrev pub tool_of : List ℕ → Option Tool
tool_of word = if bytes_eq word (codes "gdalinfo") then Some Info else if bytes_eq word (codes "gdallocationinfo")
    then Some Locate else if bytes_eq word (codes "gdal_translate") then Some Translate
    else if bytes_eq word (codes "gdalbuildvrt") then Some Build else if bytes_eq word (codes "synth") then Some Synth
    else None

-- the options of all commands
abbrev pub shared_options : List (List ℕ × OptionWord)
shared_options = (codes "--config", option.Config)
    ∷ (codes "--blocks", option.Blocks)
    ∷ (codes "--workers", option.Workers)
    ∷ []

-- those of gdallocationinfo alone
abbrev pub locate_options : List (List ℕ × OptionWord)
locate_options = (codes "-b", option.Band)
    ∷ (codes "-valonly", option.ValuesOnly)
    ∷ (codes "-lifonly", option.FilesOnly)
    ∷ (codes "-geoloc", option.Geoloc)
    ∷ []

-- those of gdal_translate alone
abbrev pub translate_options : List (List ℕ × OptionWord)
translate_options = (codes "-of", option.Format)
    ∷ (codes "-b", option.Band)
    ∷ (codes "-srcwin", option.Window)
    ∷ (codes "-projwin", option.Places)
    ∷ (codes "-outsize", option.OutSize)
    ∷ (codes "-a_nodata", option.Nodata)
    ∷ (codes "-ot", option.Kind)
    ∷ (codes "-co", option.Creation)
    ∷ (codes "-q", option.Quiet)
    ∷ (codes "-epo", option.Inside)
    ∷ (codes "-eco", option.Touching)
    ∷ []

-- those of gdalbuildvrt alone
abbrev pub build_options : List (List ℕ × OptionWord)
build_options = (codes "-b", option.Band)
    ∷ (codes "-q", option.Quiet)
    ∷ (codes "-resolution", option.Resolution)
    ∷ (codes "-tr", option.PixelSize)
    ∷ (codes "-te", option.Extent)
    ∷ (codes "-srcnodata", option.SourceNodata)
    ∷ (codes "-vrtnodata", option.MosaicNodata)
    ∷ (codes "-separate", option.Separate)
    ∷ (codes "-strict", option.Strict)
    ∷ (codes "-overwrite", option.Overwrite)
    ∷ (codes "-input_file_list", option.InputList)
    ∷ []

-- the option that a table has for a word
abbrev pub option_in : List (List ℕ × OptionWord) → List ℕ → Option OptionWord
option_in [] word = None
option_in (o ∷ os) word = if bytes_eq word o.0 then Some o.1 else option_in os word

-- the option of a command alone
unfoldable pub own_option_of : Tool → List ℕ → Option OptionWord
own_option_of Info word = None
own_option_of Locate word = option_in locate_options word
own_option_of Translate word = option_in translate_options word
own_option_of Build word = option_in build_options word
own_option_of Synth word = None

-- the first of two options, where it is there, else the second
abbrev pub either_option : Option OptionWord → Option OptionWord → Option OptionWord
either_option (Some option) own = Some option
either_option None own = own

-- the option of all commands that a word names
unfoldable pub shared_option_of : List ℕ → Option OptionWord
shared_option_of word = option_in shared_options word

-- the option of a command that a word names
abbrev pub option_of : Tool → List ℕ → Option OptionWord
option_of tool word = either_option (shared_option_of word) (own_option_of tool word)

-- how many values an option takes
abbrev pub value_count : OptionWord → ℕ
value_count option.Config = 2
value_count option.Blocks = 1
value_count option.Workers = 1
value_count option.Band = 1
value_count option.ValuesOnly = 0
value_count option.FilesOnly = 0
value_count option.Geoloc = 0
value_count option.Format = 1
value_count option.Window = 4
value_count option.Places = 4
value_count option.OutSize = 2
value_count option.Nodata = 1
value_count option.Kind = 1
value_count option.Creation = 1
value_count option.Quiet = 0
value_count option.Inside = 0
value_count option.Touching = 0
value_count option.Resolution = 1
value_count option.PixelSize = 2
value_count option.Extent = 4
value_count option.SourceNodata = 1
value_count option.MosaicNodata = 1
value_count option.Separate = 0
value_count option.Strict = 0
value_count option.Overwrite = 0
value_count option.InputList = 1
