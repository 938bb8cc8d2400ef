-- Names of files, as bytes: their parts, the kinds of files, and the header beside raw data.
use Rattle.std.specs.Prelude.{ℕ, ◌-◌, ◌==◌, Bool, true, false, not, List, [], ◌∷◌, ◌++◌, length, take, codes, Option}
use Rattle.std.specs.Prelude.{Some, None, option_map, option_and_then, if◌then◌else◌}
use Rattle.std.specs.List.{list_all}
use Rattle.std.specs.Option.{unwrap_or}
use Rattle.std.specs.Char.{is_ascii_lowercase}
use Rattle.lists_and_answers.specs.Bytes.{point, slash}
use Rattle.lists_and_answers.specs.Texts.{same_letters}
use Rattle.outside.specs.declared.name.Ext.{Ext}
use Rattle.outside.specs.declared.name.Ext.TheVariants.{Bil, Bip, Bsq, Dt0, Dt1, Dt2, Hgt, Asc, Grd, Vrt}

-- the cut of b and bs, from that of bs
abbrev pub cut_behind : ℕ → ℕ → List ℕ → Option (List ℕ × List ℕ) → Option (List ℕ × List ℕ)
cut_behind c b bs (Some p) = Some (b ∷ p.0, p.1)
cut_behind c b bs None = if b == c then Some ([], bs) else None

-- what stands before the last byte c of a text, and what stands behind it
abbrev pub cut_last : ℕ → List ℕ → Option (List ℕ × List ℕ)
cut_last c [] = None
cut_last c (b ∷ bs) = cut_behind c b bs (cut_last c bs)

-- what stands behind the last byte c
abbrev pub behind_last : ℕ → List ℕ → Option (List ℕ)
behind_last c text = option_map (λ p. p.1) (cut_last c text)

-- what stands before the last slash of a name
unfoldable pub folder_part : List ℕ → Option (List ℕ)
folder_part name = option_map (λ p. p.0) (cut_last slash name)

-- what stands behind the last slash of a name, or all of it where there is none
unfoldable pub last_part : List ℕ → List ℕ
last_part name = unwrap_or (behind_last slash name) name

-- what follows the last point of the last part
unfoldable pub ending_of : List ℕ → Option (List ℕ)
ending_of name = behind_last point (last_part name)

-- the extensions that are known, each with the ending that tells it
abbrev pub extensions : List (List ℕ × Ext)
extensions = (codes "bil", Bil)
    ∷ (codes "bip", Bip)
    ∷ (codes "bsq", Bsq)
    ∷ (codes "dt0", Dt0)
    ∷ (codes "dt1", Dt1)
    ∷ (codes "dt2", Dt2)
    ∷ (codes "hgt", Hgt)
    ∷ (codes "asc", Asc)
    ∷ (codes "grd", Grd)
    ∷ (codes "vrt", Vrt)
    ∷ []

-- the extension that a table has for an ending
abbrev pub extension_in : List (List ℕ × Ext) → List ℕ → Option Ext
extension_in [] ending = None
extension_in (k ∷ ks) ending = if same_letters ending k.0 then Some k.1 else extension_in ks ending

-- the extension of an ending
unfoldable pub extension_of_ending : List ℕ → Option Ext
extension_of_ending ending = extension_in extensions ending

-- the kind that a name's ending tells
unfoldable pub extension_of : List ℕ → Option Ext
extension_of name = option_and_then extension_of_ending (ending_of name)

-- it is a kind of raw data, which has a header beside it
abbrev pub is_raw : Option Ext → Bool
is_raw None = false
is_raw (Some Bil) = true
is_raw (Some Bip) = true
is_raw (Some Bsq) = true
is_raw (Some Dt0) = false
is_raw (Some Dt1) = false
is_raw (Some Dt2) = false
is_raw (Some Hgt) = false
is_raw (Some Asc) = false
is_raw (Some Grd) = false
is_raw (Some Vrt) = false

-- no letter is in lower case
abbrev pub has_no_lower : List ℕ → Bool
has_no_lower text = list_all (λ b. not (is_ascii_lowercase b)) text

-- the header's ending, in upper case where all letters of the data's are
abbrev pub header_ending : List ℕ → List ℕ
header_ending ending = if has_no_lower ending then codes "HDR" else codes "hdr"

-- a name with the header's ending in place of its own
abbrev pub with_header_ending : List ℕ → List ℕ → List ℕ
with_header_ending name ending = take (length name - length ending) name ++ header_ending ending

-- the header beside raw data
unfoldable pub header_of : List ℕ → List ℕ
header_of name = with_header_ending name (unwrap_or (ending_of name) [])
