-- What a plan writes.
use Rattle.std.specs.Prelude.{◌≡◌, ℕ, List, Option, Some, None, option_map}
use Rattle.dted_records.specs.Head as cells
use Rattle.dted_records.specs.Text.{head_text}
use Rattle.outside.specs.Names.{extension_of}
use Rattle.translate_plan.specs.declared.options.Driver.{Driver}
use Rattle.translate_plan.specs.declared.options.Driver.TheVariants.{EHdr, SrtmHgt, AaiGrid, Vrt}
use Rattle.translate_plan.specs.declared.options.Driver.TheVariants as drivers
use Rattle.translate_plan.specs.Options.{driver_for}
use Rattle.translate_plan.specs.Fits.{cell_in}
use Rattle.translate_plan.specs.Plan.{Planned, first_band, raw_head}
use Rattle.write_back.specs.Columns.{cell_with_front}
use Rattle.write_back.specs.View.{Output, Blocks, Rows}
use Rattle.write_back.specs.declared.forms.Writer.TheVariants as writers
use Rattle.write_back.specs.declared.rows.GridForm.{GridForm}

-- the extension of a name is one of a plan's driver
abbrev pub IsNamedFor : Planned → List ℕ → Type 0
IsNamedFor p name = option_map driver_for (extension_of name) ≡ Some p.driver

-- the cell of a head, with the head as it is written in front
abbrev pub cell_output : Option cells.Head → Option Output
cell_output None = None
cell_output (Some h) = Some (Blocks (writers.Dted (cell_with_front h (head_text h))))

-- a grid of a plan's size and geotransform, with the NODATA of its band
abbrev pub grid_form : Planned → GridForm
grid_form p = record { size = p.size; geo = p.geo; nodata = (first_band p).nodata }

-- what a driver writes of a plan: a mosaic has no samples of its own
abbrev pub output_by : Driver → Planned → Option Output
output_by EHdr p = Some (Blocks (writers.Raw (raw_head p)))
output_by (drivers.Dted level) p = cell_output (cell_in level p.size p.geo)
output_by SrtmHgt p = Some (Blocks (writers.Hgt p.size.w))
output_by AaiGrid p = Some (Rows (grid_form p))
output_by Vrt p = None

-- what a plan writes, if it has samples of its own
abbrev pub output_of : Planned → Option Output
output_of p = output_by p.driver p

-- the blocks that a target's pool holds, of so many that it may hold: a grid has no pool
abbrev pub room_of : Output → ℕ → ℕ
room_of (Blocks w) capacity = capacity
room_of (Rows g) capacity = 0
