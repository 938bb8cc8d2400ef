-- What the definitions say of some names and datasets.
use Rattle.std.proofs.Common.{◌≡◌, refl, [], ◌∷◌, Bool, true, false, Ok, Err}
use Rattle.std.specs.Prelude.{codes}
use Rattle.vrt_profile.specs.Values.{DocumentValue}
use Rattle.ascii_grid.specs.Grid as ascii
use Rattle.dted_records.specs.Head as dted
use Rattle.outside.specs.Names.{extension_of, extension_of_ending, ending_of, last_part}
use Rattle.catalog.specs.declared.kind.Kind.TheVariants.{Raw}
use Rattle.catalog.specs.declared.driver.DriverHead.TheVariants as drivers
use Rattle.catalog.specs.declared.driver.Content.TheVariants.{File, Mosaic}
use Rattle.catalog.specs.declared.faults.WalkFault.TheVariants.{NotRecognized}
use Rattle.catalog.specs.Heads.{kind_in}
use Rattle.catalog.specs.Dataset.{DatasetHead}
use Rattle.catalog.specs.Drivers.{Dataset}
use Rattle.catalog.specs.Readings.{calls_to_open, calls_to_open_all}

-- an ending of raw data, in any case
bil_is_raw : kind_in (codes "a/b.BIL") ≡ Ok Raw
unfolding extension_of extension_of_ending ending_of last_part
bil_is_raw = refl

-- an ending of no kind
tif_is_unknown : kind_in (codes "a.tif") ≡ Err (NotRecognized (codes "a.tif"))
unfolding extension_of extension_of_ending ending_of last_part
tif_is_unknown = refl

-- a point before the last slash is none
folder_is_unknown : kind_in (codes "a.bil/b") ≡ Err (NotRecognized (codes "a.bil/b"))
unfolding extension_of extension_of_ending ending_of last_part
folder_is_unknown = refl

-- a grid of 70,000 bytes is read in two pieces
grid_of : (head : DatasetHead) (h : ascii.Head) → Dataset
grid_of head h = record { head = head; content = File (drivers.Ascii h); length = 70000 }

grid_takes_two : (verify : Bool) (head : DatasetHead) (h : ascii.Head) → calls_to_open verify (grid_of head h) ≡ 2
unfolding grid_of
grid_takes_two verify head h = refl

-- a mosaic is read at once, and with the grid that makes three reads
mosaic_of : (head : DatasetHead) (d : DocumentValue) → Dataset
mosaic_of head d = record { head = head; content = Mosaic d; length = 100 }

both_take_three : (verify : Bool) (head : DatasetHead) (d : DocumentValue) (h : ascii.Head) → calls_to_open_all verify (mosaic_of head d ∷ grid_of head h ∷ []) ≡ 3
unfolding mosaic_of grid_of
both_take_three verify head d h = refl

-- of a cell each record is read where its sum is asked for
cell_of : (head : DatasetHead) (h : dted.Head) → Dataset
cell_of head h = record { head = head; content = File (drivers.Dted (record h { lines = 1201 })); length = 2902000 }

cell_takes_all : (head : DatasetHead) (h : dted.Head) → calls_to_open true (cell_of head h) ≡ 1202
unfolding cell_of
cell_takes_all head h = refl

cell_takes_one : (head : DatasetHead) (h : dted.Head) → calls_to_open false (cell_of head h) ≡ 1
unfolding cell_of
cell_takes_one head h = refl
