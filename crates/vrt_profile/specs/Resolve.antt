-- Names of sources: from a document's folder to a file, and back.
use Rattle.std.specs.Prelude.{ℕ, Bool, true, false, ◌&&◌, not, List, [], ◌∷◌, ◌++◌, Option, Some, None, if◌then◌else◌}
use Rattle.lists_and_answers.specs.Bytes.{slash}
use Rattle.lists_and_answers.specs.Options.{◌>>=◌}
use Rattle.outside.specs.Names.{folder_part}
use Rattle.outside.specs.Paths.{is_absolute}
use Rattle.vrt_markup.specs.Items.{strip, byte_at}
use Rattle.vrt_profile.specs.Values.{SourceValue}

-- The folder that a source's text is taken from: that of the document, where the text is relative to it and doesn't
-- begin with a slash.
abbrev pub folder_for : List ℕ → SourceValue → Option (List ℕ)
folder_for base s = if s.relative && not (is_absolute s.file) then folder_part base else None

-- a text in a folder, or the text alone
abbrev pub in_folder : Option (List ℕ) → List ℕ → List ℕ
in_folder None text = text
in_folder (Some folder) text = folder ++ slash ∷ text

-- the text whose normal form is the name of a source
abbrev pub resolved_text : List ℕ → SourceValue → List ℕ
resolved_text base s = in_folder (folder_for base s) s.file

abbrev pub some_text : List ℕ → Option (List ℕ)
some_text [] = None
some_text (c ∷ cs) = Some (c ∷ cs)

-- what stands behind a folder and a slash, where the name begins with them and goes on
abbrev pub behind_folder : List ℕ → List ℕ → Option (List ℕ)
behind_folder folder name = strip folder name >>= byte_at slash >>= some_text

-- whether a text is relative, and the text
abbrev pub related_by : List ℕ → Option (List ℕ) → Bool × List ℕ
related_by name None = (false, name)
related_by name (Some rest) = (true, rest)

abbrev pub related_in : Option (List ℕ) → List ℕ → Bool × List ℕ
related_in None name = (not (is_absolute name), name)
related_in (Some folder) name = related_by name (behind_folder folder name)

-- how a document with this name names a source
abbrev pub related : List ℕ → List ℕ → Bool × List ℕ
related base name = related_in (folder_part base) name
