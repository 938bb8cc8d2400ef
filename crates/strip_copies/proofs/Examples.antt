-- Lines of small outputs.
use Rattle.std.proofs.Common.{◌≡◌, ℕ, ℤ, pos, negsuc, ◌+◌, ◌*◌, List, [], ◌∷◌, true, false, Some, None, refl}
use Rattle.geotransform.specs.declared.types.PixelType.TheVariants.{Byte, Int16}
use Rattle.esri_hdr.specs.declared.header_parts.Layout.TheVariants.{Bil}
use Rattle.catalog.specs.Places.{row_by_row}
use Rattle.catalog.specs.declared.kind.Kind.TheVariants as kinds
use Rattle.translate_plan.specs.declared.band.OutBand.{OutBand}
use Rattle.translate_plan.specs.declared.options.Driver.TheVariants.{Dted, EHdr}
use Rattle.translate_plan.specs.Plan.{Planned, out_pixel}
use Rattle.strip_copies.specs.declared.portions.Form.TheVariants.{Lines, Pieces, Records}
use Rattle.strip_copies.specs.Copies.{lines_rect}
use Rattle.strip_copies.specs.Heights.{lines_copied}
use Rattle.strip_copies.specs.Pieces.{is_copied}
use Rattle.strip_copies.specs.Portions.{form_by, pays, portions_in}

-- a column, a line and a band in one number
abbrev numbered : ℕ → ℕ → ℕ → ℤ
numbered band x y = pos (100 * band + 10 * y + x)

-- five columns become two: the second and the fourth, in both lines
abbrev two : Planned
two = record { driver = EHdr; layout = Bil; bands = record { source = 1; kind = Byte; nodata = None } ∷ []; size = record { w = 2; h = 2 }; x = pos 0; y = pos 0; window = record { w = 5; h = 2 }; geo = None }

two_lines : row_by_row (out_pixel two (record { w = 5; h = 2 }) numbered 0) (lines_rect two.size 0 2) ≡ pos 101 ∷ pos 103 ∷ pos 111 ∷ pos 113 ∷ []
unfolding row_by_row
two_lines = refl

-- a window that begins a column before the raster and ends a line below it, with the NODATA 9
abbrev beyond : Planned
beyond = record { driver = EHdr; layout = Bil; bands = record { source = 0; kind = Byte; nodata = Some (pos 9) } ∷ []; size = record { w = 2; h = 2 }; x = negsuc 0; y = pos 1; window = record { w = 2; h = 2 }; geo = None }

beyond_lines : row_by_row (out_pixel beyond (record { w = 5; h = 2 }) numbered 0) (lines_rect beyond.size 0 2) ≡ pos 9 ∷ pos 10 ∷ pos 9 ∷ pos 9 ∷ []
unfolding row_by_row
beyond_lines = refl

-- raw data of so many columns and 6,000 lines
abbrev raw_of : ℕ → Planned
raw_of columns = record { driver = EHdr; layout = Bil; bands = record { source = 0; kind = Byte; nodata = None } ∷ []; size = record { w = columns; h = 6000 }; x = pos 0; y = pos 0; window = record { w = columns; h = 6000 }; geo = None }

-- of 31,250 columns 32 lines are a million samples: each of four workers reads so many
wide : lines_copied 4 64 [] (raw_of 31250) ≡ 128
wide = refl

-- a column less, and one worker reads two lines at a time, which are less than 65,536 samples
narrow : lines_copied 4 64 [] (raw_of 31249) ≡ 2
narrow = refl

-- a strip has 4,194,304 samples at most, a fifth of which isn't enough
five : lines_copied 5 64 [] (raw_of 31250) ≡ 2
five = refl

-- one worker copies 32 lines at most, and one at least
alone : lines_copied 1 64 [] (raw_of 1000) ≡ 32
alone = refl

widest : lines_copied 1 64 [] (raw_of 65537) ≡ 1
widest = refl

-- so many workers share lines where each gets a million samples of them
enough : pays 4 (raw_of 667) ≡ true
enough = refl

few : pays 4 (raw_of 666) ≡ false
few = refl

one : pays 1 (raw_of 31250) ≡ false
one = refl

-- a cell of so many columns and 3,601 lines
abbrev cell_of : ℕ → Planned
cell_of columns = record { driver = Dted 2; layout = Bil; bands = record { source = 0; kind = Int16; nodata = None } ∷ []; size = record { w = columns; h = 3601 }; x = pos 0; y = pos 0; window = record { w = columns; h = 3601 }; geo = None }

-- four workers make 6,000 lines of 4,800 columns in 14 turns of 108 each, and read 13 at once
turns : portions_in Lines 4 [] (raw_of 4800) ≡ Some (record { form = Lines; rows = 108; step = 13 })
turns = refl

-- raw data of so many bands, of 20 columns and 100,000 lines
abbrev short_of : List OutBand → Planned
short_of bands = record { driver = EHdr; layout = Bil; bands = bands; size = record { w = 20; h = 100000 }; x = pos 0; y = pos 0; window = record { w = 20; h = 100000 }; geo = None }

-- each of two workers makes 4,096 lines of a band at most: all in 13 turns of 3,847 each
short : portions_in Lines 2 [] (short_of (record { source = 0; kind = Byte; nodata = None } ∷ [])) ≡ Some (record { form = Lines; rows = 3847; step = 32 })
short = refl

-- of three bands these are 1,365 lines of all: all in 37 turns of 1,352 each
short_of_three : portions_in Lines 2 [] (short_of (record { source = 0; kind = Byte; nodata = None } ∷ record { source = 1; kind = Byte; nodata = None } ∷ record { source = 2; kind = Byte; nodata = None } ∷ [])) ≡ Some (record { form = Lines; rows = 1352; step = 32 })
short_of_three = refl

-- a cell is made in one turn: of its lines, or of its columns, each of four workers makes 901
pieces : portions_in Pieces 4 [] (cell_of 3601) ≡ Some (record { form = Pieces; rows = 901; step = 16 })
pieces = refl

records : portions_in Records 4 [] (cell_of 3601) ≡ Some (record { form = Records; rows = 901; step = 64 })
records = refl

-- a line of more than 524,288 samples is too long for four workers
longest : portions_in Lines 4 [] (raw_of 524288) ≡ Some (record { form = Lines; rows = 1; step = 1 })
longest = refl

too_long : portions_in Lines 4 [] (raw_of 524289) ≡ None
too_long = refl

-- what is read and written settles the form, and whether samples are copied
of_lines : form_by EHdr kinds.Raw false false ≡ Some Lines
of_lines = refl

of_pieces : form_by EHdr kinds.Dted true true ≡ Some Pieces
of_pieces = refl

of_scaled_cell : form_by EHdr kinds.Dted true false ≡ None
of_scaled_cell = refl

of_mosaic_of_cells : form_by EHdr kinds.Vrt true true ≡ None
of_mosaic_of_cells = refl

of_records : form_by (Dted 2) kinds.Hgt false true ≡ Some Records
of_records = refl

of_two_cells : form_by (Dted 2) kinds.Dted true true ≡ None
of_two_cells = refl

-- samples are copied where nothing is scaled, and nothing lies outside the raster
copied : is_copied (raw_of 5) (record { w = 5; h = 6000 }) ≡ true
copied = refl

scaled : is_copied two (record { w = 5; h = 2 }) ≡ false
scaled = refl

outside : is_copied beyond (record { w = 5; h = 4 }) ≡ false
outside = refl

below : is_copied (raw_of 5) (record { w = 5; h = 5999 }) ≡ false
below = refl
