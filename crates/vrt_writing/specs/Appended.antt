-- What the parts of a text that is written append to it.
use Rattle.std.specs.Prelude.{◌≡◌, ℕ, List, ◌++◌, flat_map, Bool, [], ◌∷◌, codes, suc}
use Rattle.vrt_markup.specs.Items.{Pair, greater_than}
use Rattle.vrt_profile.specs.Values.{SourceValue, BandValue}
use Rattle.vrt_writing.specs.Spelled.{Markup, markup_text, pair_text, tag_text, pair, flag_text, source_markup, band_markup}

-- the new bytes are the old ones and this markup
pub record Appends (old new : List ℕ) (level : ℕ) (markup : Markup) : Type 0 where
  pub is : new ≡ old ++ markup_text level markup

-- the same of attributes
pub record AppendsPairs (old new : List ℕ) (pairs : List Pair) : Type 0 where
  pub is : new ≡ old ++ flat_map pair_text pairs

-- the same of what stands before a file's name
pub record FileOpens (old new : List ℕ) (relative : Bool) : Type 0 where
  pub is : new ≡ old ++ (tag_text 3 (codes "SourceFilename") (pair (codes "relativeToVRT") (flag_text relative) ∷ []) ++
      greater_than ∷ [])

-- the same of a start line
pub record AppendsTag (old new : List ℕ) (level : ℕ) (name : List ℕ) (pairs : List Pair) : Type 0 where
  pub is : new ≡ old ++ (tag_text level name pairs ++ codes ">\n")

-- the text of one source and of one band, where all are written one after another
unfoldable pub source_text : SourceValue → List ℕ
source_text s = markup_text 2 (source_markup s)

unfoldable pub band_text : ℕ → BandValue → List ℕ
band_text number b = markup_text 1 (band_markup number b)

abbrev pub bands_text : ℕ → List BandValue → List ℕ
bands_text number [] = []
bands_text number (b ∷ bs) = band_text number b ++ bands_text (suc number) bs
