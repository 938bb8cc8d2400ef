-- How several workers share an output that they pack: its lines, or its columns.
use Rattle.std.specs.Prelude.{◌≡◌, ◌*◌, ◌/◌, ◌&&◌, ℕ, min, nat_lt, nat_le, Bool, true, false, List, length, Option}
use Rattle.std.specs.Prelude.{Some, None, if◌then◌else◌}
use Rattle.std.specs.Int.{div_ceil}
use Rattle.geotransform.specs.declared.types.Size.{Size}
use Rattle.catalog.specs.Drivers.{Dataset}
use Rattle.catalog.specs.declared.kind.Kind.{Kind}
use Rattle.translate_plan.specs.declared.options.Driver.{Driver}
use Rattle.translate_plan.specs.declared.options.Driver.TheVariants.{EHdr, Dted, SrtmHgt, AaiGrid, Vrt}
use Rattle.translate_plan.specs.Plan.{Planned}
use Rattle.strip_copies.specs.declared.height.BlockShape.TheVariants.{Columns}
use Rattle.strip_copies.specs.declared.portions.Form.{Form}
use Rattle.strip_copies.specs.declared.portions.Form.TheVariants.{Lines, Pieces, Records}
use Rattle.strip_copies.specs.declared.portions.Portions.{Portions}
use Rattle.strip_copies.specs.Heights.{has_blocks, is_cell, lines_alone, lines_near}
use Rattle.strip_copies.specs.Pieces.{is_copied, IsCopied}

-- The fewest samples of an output for each worker, where workers make and pack parts of it beside each other.
abbrev pub fewest_packed : ℕ
fewest_packed = 1000000

-- The most samples of lines that all workers pack before they are written.
abbrev pub most_round : ℕ
most_round = 2097152

-- The most samples of an output that all workers pack before they are written: so many of a cell, or made of one.
abbrev pub most_packed : ℕ
most_packed = 16777216

-- The most blocks, lines of a band or columns, that each worker packs at a time: each of them has room of its own.
abbrev pub blocks_each : ℕ
blocks_each = 4096

-- The columns of a cell that are read at once.
abbrev pub piece_columns : ℕ
piece_columns = 16

-- The most lines of which samples are put into columns at once.
abbrev pub record_lines : ℕ
record_lines = 64

-- the blocks of a driver's files are whole columns
abbrev pub has_columns : Driver → Bool
has_columns EHdr = false
has_columns (Dted level) = true
has_columns SrtmHgt = false
has_columns AaiGrid = false
has_columns Vrt = false

-- each worker makes columns of an output, else lines
abbrev pub makes_columns : Form → Bool
makes_columns Lines = false
makes_columns Pieces = false
makes_columns Records = true

-- each worker reads pieces, else whole lines
abbrev pub reads_pieces : Form → Bool
reads_pieces Lines = false
reads_pieces Pieces = true
reads_pieces Records = true

-- the form is one of columns where the output's blocks are columns, and pieces are read where they are copied
pub record TakesForm (form : Form) (cat : List Dataset) (id : ℕ) (p : Planned) : Type 0 where
  pub columns : makes_columns form ≡ has_columns p.driver
  pub copied : reads_pieces form ≡ true → IsCopied cat id p

-- The form of an output of columns, by whether some dataset is a cell, and whether samples are copied: lines of a file
-- or of a mosaic are put into columns.
abbrev pub form_of_columns : Bool → Bool → Option Form
form_of_columns cells copied = if cells then None else (if copied then Some Records else None)

-- The form of an output of lines, by the kind of the dataset besides. Of a cell pieces are copied; a mosaic of cells
-- has no form.
abbrev pub form_of_lines : Kind → Bool → Bool → Option Form
form_of_lines kind cells copied =
    if is_cell kind then (if copied then Some Pieces else None) else (if cells then None else Some Lines)

-- the form of a driver's output
abbrev pub form_by : Driver → Kind → Bool → Bool → Option Form
form_by driver kind cells copied =
    if has_columns driver then form_of_columns cells copied else form_of_lines kind cells copied

-- the form of the output of a dataset's plan
abbrev pub form_of : List Dataset → Dataset → Planned → Option Form
form_of cat d p = form_by p.driver d.head.kind (has_blocks Columns cat) (is_copied p d.head.size)

-- each of so many workers gets enough samples of the output
abbrev pub pays : ℕ → Planned → Bool
pays workers p =
    nat_lt 1 workers && nat_le fewest_packed (p.size.w * length p.bands * p.size.h / workers)

-- the most samples that all workers pack at a time
abbrev pub most_of : Form → ℕ
most_of Lines = most_round
most_of Pieces = most_packed
most_of Records = most_packed

-- how many lines, or columns, an output has
abbrev pub extent_of : Form → Size → ℕ
extent_of Lines size = size.h
extent_of Pieces size = size.h
extent_of Records size = size.w

-- the samples of each of them: those of a line of all bands, or those of a column
abbrev pub samples_in : Form → Planned → ℕ
samples_in Lines p = p.size.w * length p.bands
samples_in Pieces p = p.size.w * length p.bands
samples_in Records p = p.size.h

-- how many of them have no more samples than each of so many workers may make at a time
abbrev pub share_by_samples : Form → ℕ → Planned → ℕ
share_by_samples form workers p = most_of form / workers / samples_in form p

-- how many of them each of so many workers may make at a time
abbrev pub share_of_each : Form → ℕ → Planned → ℕ
share_of_each form workers p = min (share_by_samples form workers p) (blocks_each / length p.bands)

-- Of an extent each worker makes so many at a time, where it may make `most` of them: all are made in as few turns as
-- can be, and about as many in each.
abbrev pub rows_of : ℕ → ℕ → ℕ → ℕ
rows_of extent most workers = div_ceil extent (div_ceil extent (most * workers) * workers)

-- how many lines, or columns of a cell that is read, are read at once
abbrev pub step_of : Form → List Dataset → Planned → ℕ → ℕ
step_of Lines cat p rows = min (lines_alone cat p.size.w) rows
step_of Pieces cat p rows = piece_columns
step_of Records cat p rows = lines_near record_lines rows

-- the portions of a form, where each worker may make one line or column at least
abbrev pub portions_in : Form → ℕ → List Dataset → Planned → Option Portions
portions_in form workers cat p =
    if nat_lt 0 (share_of_each form workers p)
    then Some (record {
      form = form;
      rows = rows_of (extent_of form p.size) (share_of_each form workers p) workers;
      step = step_of form cat p (rows_of (extent_of form p.size) (share_of_each form workers p) workers);
    })
    else None

-- the same of a form, if there is one
abbrev pub portions_by : Option Form → ℕ → List Dataset → Planned → Option Portions
portions_by None workers cat p = None
portions_by (Some form) workers cat p = portions_in form workers cat p

-- how so many workers share the output of a dataset's plan, if they do
abbrev pub portions_of : ℕ → List Dataset → Dataset → Planned → Option Portions
portions_of workers cat d p = if pays workers p then portions_by (form_of cat d p) workers cat p else None
