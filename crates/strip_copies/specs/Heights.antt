-- How many lines are copied at a time.
use Rattle.std.specs.Prelude.{ℕ, ◌*◌, ◌/◌, min, max, nat_lt, nat_le, not, ◌&&◌, ◌||◌, Bool, true, false, List, length}
use Rattle.std.specs.Prelude.{if◌then◌else◌}
use Rattle.std.specs.List.{list_any}
use Rattle.esri_hdr.specs.declared.header_parts.Layout.{Layout}
use Rattle.esri_hdr.specs.declared.header_parts.Layout.TheVariants.{Bil, Bip, Bsq}
use Rattle.catalog.specs.Dataset.{square_side}
use Rattle.catalog.specs.Drivers.{Dataset}
use Rattle.catalog.specs.declared.kind.Kind.{Kind}
use Rattle.catalog.specs.declared.kind.Kind.TheVariants as kinds
use Rattle.translate_plan.specs.declared.options.Driver.{Driver}
use Rattle.translate_plan.specs.declared.options.Driver.TheVariants.{EHdr, Dted, SrtmHgt, AaiGrid, Vrt}
use Rattle.geotransform.specs.Limits.{most_side}
use Rattle.translate_plan.specs.Plan.{Planned}
use Rattle.strip_copies.specs.declared.height.BlockShape.{BlockShape}
use Rattle.strip_copies.specs.declared.height.BlockShape.TheVariants.{Columns, Squares, Digits}

-- The most samples of a strip, but for a strip of one line.
abbrev pub most_samples : ℕ
most_samples = 4194304

-- datasets whose blocks are whole columns are cells, those whose blocks are squares are mosaics, and those of digits
-- are grids
abbrev pub is_cell : Kind → Bool
is_cell kinds.Raw = false
is_cell kinds.Dted = true
is_cell kinds.Hgt = false
is_cell kinds.Ascii = false
is_cell kinds.Vrt = false

abbrev pub is_mosaic : Kind → Bool
is_mosaic kinds.Raw = false
is_mosaic kinds.Dted = false
is_mosaic kinds.Hgt = false
is_mosaic kinds.Ascii = false
is_mosaic kinds.Vrt = true

abbrev pub is_grid : Kind → Bool
is_grid kinds.Raw = false
is_grid kinds.Dted = false
is_grid kinds.Hgt = false
is_grid kinds.Ascii = true
is_grid kinds.Vrt = false

-- whether a dataset of this kind is cut into blocks of a shape
abbrev pub is_cut_into : BlockShape → Kind → Bool
is_cut_into Columns kind = is_cell kind
is_cut_into Squares kind = is_mosaic kind
is_cut_into Digits kind = is_grid kind

-- some dataset is cut into such blocks
abbrev pub has_blocks : BlockShape → List Dataset → Bool
has_blocks shape cat = list_any (λ (d : Dataset). is_cut_into shape d.head.kind) cat

-- strips are as tall as they can be: the source is made of cells, or the output is one
abbrev pub is_tall : List Dataset → Driver → Bool
is_tall cat EHdr = has_blocks Columns cat
is_tall cat (Dted level) = true
is_tall cat SrtmHgt = has_blocks Columns cat
is_tall cat AaiGrid = has_blocks Columns cat
is_tall cat Vrt = has_blocks Columns cat

-- The lines of a file of lines that each of several workers reads, and the most that a single one reads at a time.
abbrev pub file_lines : ℕ
file_lines = 32

-- the lines of a strip that each of several workers reads: those of a square where the source is a mosaic, and 32 where
-- it is a file of lines
abbrev pub lines_each : List Dataset → ℕ
lines_each cat = if has_blocks Squares cat then square_side else file_lines

-- samples are made of others, or of digits: those of a file of bytes are copied
abbrev pub is_made : List Dataset → Bool
is_made cat = has_blocks Squares cat || has_blocks Digits cat

-- The fewest samples for which a worker gets a thread, where they are made of others, or of digits.
abbrev pub fewest_made : ℕ
fewest_made = 262144

-- The same where they are copied from a file of bytes.
abbrev pub fewest_copied : ℕ
fewest_copied = 1000000

-- the fewest samples for which a worker gets a thread
abbrev pub fewest_read : List Dataset → ℕ
fewest_read cat = if is_made cat then fewest_made else fewest_copied

-- several workers read a strip of a window so wide where each has enough samples for a thread
abbrev pub is_shared : ℕ → List Dataset → ℕ → Bool
is_shared workers cat width =
    nat_lt 1 workers && nat_le (fewest_read cat) (min (lines_each cat * width) (most_samples / workers))

-- So many samples stay in a processor's cache: 1 MiB.
abbrev pub samples_near : ℕ
samples_near = 65536

-- the lines of so many columns that stay in a processor's cache, at most so many
abbrev pub lines_near : ℕ → ℕ → ℕ
lines_near most width = min (max (samples_near / width) 1) most

-- the lines of a strip that one worker reads alone: but for those of digits, those that stay in the cache
abbrev pub lines_alone : List Dataset → ℕ → ℕ
lines_alone cat width = if has_blocks Digits cat then lines_each cat else lines_near (lines_each cat) width

-- the most lines of a strip: as many as it can have where strips are tall, else so many for each of the workers that
-- share it, or those that one worker reads alone
abbrev pub most_lines : ℕ → List Dataset → Planned → ℕ
most_lines workers cat p = if is_tall cat p.driver then most_side
    else (if is_shared workers cat p.window.w then lines_each cat * workers else lines_alone cat p.size.w)

-- the lines of a strip of so many columns, from 1 to 4,194,304: at most 4,194,304 samples
abbrev pub strip_height : ℕ → ℕ → ℕ
strip_height most width = min most (most_samples / width)

-- the most samples of lines of so many columns for which each of so many readers has room: its share of 4,194,304, or
-- those of one line
abbrev pub room_of_each : ℕ → ℕ → ℕ
room_of_each readers width = max width (most_samples / readers)

-- the lines of so many columns for which it has room
abbrev pub lines_beside : ℕ → ℕ → ℕ
lines_beside readers width = max (most_samples / readers / width) 1

-- the lines of raw data hold several bands, pixel by pixel
abbrev pub is_woven : Layout → ℕ → Bool
is_woven Bil bands = false
is_woven Bip bands = nat_lt 1 bands
is_woven Bsq bands = false

-- the most lines of which none leaves a pool of so many blocks before all of its bands are written; cells are read in
-- strips as tall as they can be all the same
abbrev pub lines_held : ℕ → List Dataset → Planned → ℕ
lines_held blocks cat p = if is_woven p.layout (length p.bands) && not (is_tall cat p.driver) then blocks else most_side

-- the lines of an output that so many workers copy at a time, where so many blocks are held of what is written
abbrev pub lines_copied : ℕ → ℕ → List Dataset → Planned → ℕ
lines_copied workers blocks cat p =
    min (min (strip_height (most_lines workers cat p) p.size.w) p.size.h) (lines_held blocks cat p)
