-- The values of options.
use Rattle.std.specs.Prelude.{ℕ, ℤ, pos, neg_ℤ, ◌-◌, ◌==◌, ◌&&◌, ◌||◌, Bool, false, nat_le, List, [], ◌∷◌, length}
use Rattle.std.specs.Prelude.{take, drop, codes, bytes_eq, Option, Some, None, option_map, option_and_then}
use Rattle.std.specs.Prelude.{if◌then◌else◌, int_le, int_lt}
use Rattle.lists_and_answers.specs.Bytes.{minus_sign}
use Rattle.lists_and_answers.specs.Texts.{same_letters}
use Rattle.geotransform.specs.Decimal.{number_of, whole_of, ticks_of}
use Rattle.geotransform.specs.Types.{lowest, highest}
use Rattle.geotransform.specs.declared.types.PixelType.TheVariants.{Int64, UInt64}
use Rattle.outside.specs.Paths.{normal, longest_name}
use Rattle.esri_hdr.specs.declared.header_parts.Layout.{Layout}
use Rattle.esri_hdr.specs.declared.header_parts.Layout.TheVariants.{Bil, Bip, Bsq}
use Rattle.catalog.specs.declared.nodata.NodataWord.{NodataWord}
use Rattle.catalog.specs.declared.nodata.NodataWord.TheVariants as nodata
use Rattle.translate_plan.specs.declared.options.OutSize.{OutSize}
use Rattle.translate_plan.specs.declared.options.OutSize.TheVariants as sizes
use Rattle.command_words.specs.declared.spoken.OutFormat.{OutFormat}
use Rattle.command_words.specs.declared.spoken.OutFormat.TheVariants.{EHdr, Dted, SrtmHgt, AaiGrid, Vrt}
use Rattle.command_words.specs.declared.spoken.ResolutionWord.{ResolutionWord}
use Rattle.command_words.specs.declared.spoken.ResolutionWord.TheVariants.{Highest, Lowest, Average, User}
use Rattle.geotransform.specs.Limits.{most_bands, most_short_digits}
use Rattle.band_blocks.specs.Blocks.{most_blocks}
use Rattle.lane_teams.specs.Workers.{most_workers}
use Rattle.synthetic_rasters.specs.Tiles.{most_tile_side}

abbrev pub begins_with_dash : List ℕ → Bool
begins_with_dash [] = false
begins_with_dash (b ∷ bs) = b == minus_sign

-- the number that one to nine digits write
abbrev pub short_of : List ℕ → Option ℕ
short_of word = if nat_le (length word) most_short_digits then number_of word else None

-- a number from 1 to a greatest one
abbrev pub number_within : ℕ → Option ℕ → Option ℕ
number_within most None = None
number_within most (Some n) = if nat_le 1 n && nat_le n most then Some n else None

abbrev pub band_of : List ℕ → Option ℕ
band_of word = number_within most_bands (short_of word)

-- a number of blocks that a pool may hold
abbrev pub blocks_of : List ℕ → Option ℕ
blocks_of word = number_within most_blocks (short_of word)

-- a number of lanes that read beside each other
abbrev pub workers_of : List ℕ → Option ℕ
workers_of word = number_within most_workers (short_of word)

-- the side of a tile that synth makes
abbrev pub tile_side_of : List ℕ → Option ℕ
tile_side_of word = number_within most_tile_side (short_of word)

-- one to nine digits, with a minus or without
abbrev pub integer_of : List ℕ → Option ℤ
integer_of [] = None
integer_of (b ∷ bs) = if b == minus_sign then option_map (λ n. neg_ℤ (pos n)) (short_of bs)
    else option_map (λ n. pos n) (short_of (b ∷ bs))

-- what stands before the last byte of a text, and that byte, if there is one
abbrev pub before_last : List ℕ → List ℕ × List ℕ
before_last word = (take (length word - 1) word, drop (length word - 1) word)

-- a number of pixels, or with a % behind it of parts of a hundred
abbrev pub side_of : List ℕ → Option OutSize
side_of word =
    let cut = before_last word in
    if bytes_eq cut.1 (codes "%") then option_map (λ n. sizes.Percent n) (short_of cut.0)
    else option_map (λ n. sizes.Count n) (short_of word)

-- the normal form of a word of 1 to 4,096 bytes
abbrev pub name_of : List ℕ → Option (List ℕ)
name_of word = if nat_le 1 (length word) && nat_le (length word) longest_name then Some (normal word) else None

-- the settings that mean no
abbrev pub is_no : List ℕ → Bool
is_no word = same_letters word (codes "NO") || (same_letters word (codes "FALSE") ||
    (same_letters word (codes "OFF") || same_letters word (codes "0")))

-- the format that -of names
unfoldable pub format_of : List ℕ → Option OutFormat
format_of word = if same_letters word (codes "EHdr") then Some EHdr else if same_letters word (codes "DTED")
    then Some Dted else if same_letters word (codes "SRTMHGT") then Some SrtmHgt
    else if same_letters word (codes "AAIGrid") then Some AaiGrid else if same_letters word (codes "VRT") then Some Vrt
    else None

-- the layout that -co asks for
unfoldable pub layout_of : List ℕ → Option Layout
layout_of word = if same_letters word (codes "INTERLEAVE=BIL") then Some Bil
    else if same_letters word (codes "INTERLEAVE=BIP") then Some Bip else if same_letters word (codes "INTERLEAVE=BSQ")
    then Some Bsq else None

-- a number of a type of 64 bits, with or without a sign
abbrev pub is_wide : ℤ → Bool
is_wide n = int_le (lowest Int64) n && int_le n (highest UInt64)

-- a number of a type of 64 bits as a NODATA
abbrev pub wide_number : ℤ → Option NodataWord
wide_number n = if is_wide n then Some (nodata.Number n) else None

-- no NODATA, or a whole number
unfoldable pub nodata_of : List ℕ → Option NodataWord
nodata_of word = if same_letters word (codes "none") then Some nodata.Remove
    else option_and_then wide_number (whole_of word)

-- the resolution that -resolution names, with case
unfoldable pub resolution_named : List ℕ → Option ResolutionWord
resolution_named word = if bytes_eq word (codes "highest") then Some Highest else if bytes_eq word (codes "lowest")
    then Some Lowest else if bytes_eq word (codes "average") then Some Average else if bytes_eq word (codes "user")
    then Some User else None

-- a number, where it is above another one
abbrev pub above : ℤ → ℤ → Option ℤ
above least n = if int_lt least n then Some n else None

-- the ticks of a decimal text, where they are above so many
abbrev pub beyond : ℤ → List ℕ → Option ℤ
beyond least word = option_and_then (above least) (ticks_of word)
