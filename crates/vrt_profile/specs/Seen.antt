-- What an element means, by what its attributes say and what stands in it, each of which may be a fault: the steps of
-- the definitions of `Means`, in their order.
use Rattle.std.specs.Prelude.{ℕ, ℤ, Bool, not, ◌&&◌, List, [], ◌∷◌, ◌++◌, Option, Result, Ok}
use Rattle.lists_and_answers.specs.Answers.{◌>>=◌, wants}
use Rattle.geotransform.specs.declared.types.PixelType.{PixelType}
use Rattle.vrt_profile.specs.Values.{Rectangle, SourceValue, BandValue, DocumentValue}
use Rattle.vrt_profile.specs.Means.{text_in, File, SourceParts, source_end, BandParts, band_end, DatasetParts}
use Rattle.vrt_profile.specs.Means.{dataset_end}
use Rattle.vrt_profile.specs.Document.{means}
use Rattle.vrt_markup.specs.declared.fault.VrtFault.{VrtFault}
use Rattle.vrt_markup.specs.declared.fault.VrtFault.TheVariants.{BadNumber, Unsupported}
use Rattle.vrt_markup.specs.Tree.{markup_of}

-- SourceFilename, by its flag, its text and a child of it
abbrev pub file_when : Result Bool VrtFault → Result (List ℕ) VrtFault → Result File VrtFault
file_when flag text = flag >>= λ relative. text >>= λ name. Ok (record { relative = relative; name = name })

abbrev pub file_by : Result Bool VrtFault → List ℕ → Option ℕ → Result File VrtFault
file_by flag text child = file_when flag (text_in text child)

-- SrcRect and DstRect, by their numbers, whether they are all white, and their children
abbrev pub rect_end : Bool → Result Bool VrtFault → Rectangle → Result Rectangle VrtFault
rect_end white children r = do
  plain ← wants white Unsupported
  bare ← children
  Ok r

unfoldable pub rect_by : Result ℤ VrtFault → Result ℤ VrtFault → Result ℤ VrtFault → Result ℤ VrtFault → Bool →
    Result Bool VrtFault → Result Rectangle VrtFault
rect_by x y w h white children = do
  x ← x
  y ← y
  w ← w
  h ← h
  rect_end white children (record { x = x; y = y; w = w; h = h })

-- a source, by whether its resampling is known, whether it is all white, and its parts
abbrev pub source_by : Bool → Bool → Bool → Result SourceParts VrtFault → Result SourceValue VrtFault
source_by complex near white parts = do
  plain ← wants (near && white) Unsupported
  all ← parts
  source_end complex all

-- the sources of a band with one more, if it is one
abbrev pub one_more : List SourceValue → Result SourceValue VrtFault → Result (List SourceValue) VrtFault
one_more sources source = source >>= λ x. Ok (sources ++ x ∷ [])

-- a band, by what its attributes say, whether it is all white, and its parts
abbrev pub band_by : Result PixelType VrtFault → Bool → Bool → Bool → Result BandParts VrtFault →
    Result BandValue VrtFault
band_by kind placed sourced white parts = do
  kind ← kind
  place ← wants placed BadNumber
  plain ← wants (sourced && white) Unsupported
  all ← parts
  band_end kind all

-- the dataset, in the same way
unfoldable pub dataset_by : Result ℕ VrtFault → Result ℕ VrtFault → Bool → Bool → Result DatasetParts VrtFault →
    Result DocumentValue VrtFault
dataset_by w h derived white parts = do
  w ← w
  h ← h
  plain ← wants (not derived && white) Unsupported
  all ← parts
  dataset_end w h all

-- the document of a text that is UTF-8
abbrev pub markup_means : List ℕ → Result DocumentValue VrtFault
markup_means bytes = markup_of bytes >>= means
