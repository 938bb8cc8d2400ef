-- What the definitions say of small rasters.
use Rattle.std.proofs.Common.{◌≡◌, ℕ, ℤ, pos, negsuc, ◌+◌, ◌*◌, [], ◌∷◌, List, map, Some, None, Option, true, false, Bool, Ok, Err, refl}
use Rattle.std.specs.Prelude.{codes}
use Rattle.geotransform.specs.declared.types.PixelType.TheVariants.{Byte, Int16, Int32}
use Rattle.geotransform.specs.declared.faults.PlanFault.TheVariants.{EmptyWindow, Outside, Unfit}
use Rattle.outside.specs.Names.{last_part}
use Rattle.esri_hdr.specs.declared.header_parts.Layout.TheVariants.{Bil}
use Rattle.dted_records.specs.Fit.{cell_of}
use Rattle.hgt_tiles.specs.Places.{tile_of}
use Rattle.catalog.specs.Dataset.{DatasetHead}
use Rattle.catalog.specs.declared.kind.Kind.TheVariants as kinds
use Rattle.catalog.specs.declared.nodata.NodataWord.{NodataWord}
use Rattle.catalog.specs.declared.nodata.NodataWord.TheVariants.{Absent, Number}
use Rattle.translate_plan.specs.declared.options.Driver.{Driver}
use Rattle.translate_plan.specs.declared.options.Driver.TheVariants.{EHdr, Dted, SrtmHgt, AaiGrid}
use Rattle.translate_plan.specs.declared.options.View.{View}
use Rattle.translate_plan.specs.declared.options.View.TheVariants.{Whole, Pixels}
use Rattle.translate_plan.specs.declared.options.OutSize.{OutSize}
use Rattle.translate_plan.specs.declared.options.OutSize.TheVariants.{Count, Percent}
use Rattle.translate_plan.specs.Options.{Options}
use Rattle.translate_plan.specs.Plan.{Planned, plan_of, out_pixel}

-- five bytes, 1 to 5, in one line
abbrev five : DatasetHead
five = record { name = codes "five.bil"; kind = kinds.Raw; size = record { w = 5; h = 1 }; geo = None; srs = None; bands = record { kind = Byte; nodata = None; block = record { w = 5; h = 1 } } ∷ []; files = [] }

abbrev five_pixels : ℕ → ℕ → ℕ → ℤ
five_pixels band x y = pos (x + 1)

abbrev raw : View → Option (OutSize × OutSize) → NodataWord → Bool → Options
raw view outsize nodata epo = record { driver = EHdr; layout = Bil; out = codes "out.bil"; bands = []; view = view; outsize = outsize; nodata = nodata; kind = None; epo = epo; eco = false }

-- five columns become two: columns 1 and 3
abbrev two : Planned
two = record { driver = EHdr; layout = Bil; bands = record { source = 0; kind = Byte; nodata = None } ∷ []; size = record { w = 2; h = 1 }; x = pos 0; y = pos 0; window = record { w = 5; h = 1 }; geo = None }

five_to_two : plan_of (raw Whole (Some (Count 2, Count 1)) Absent false) five ≡ Ok two
unfolding plan_of
five_to_two = refl

two_pixels : map (λ i. out_pixel two (record { w = 5; h = 1 }) five_pixels 0 i 0) (0 ∷ 1 ∷ []) ≡ pos 2 ∷ pos 4 ∷ []
two_pixels = refl

-- two sides that follow each other are none
no_sides : plan_of (raw Whole (Some (Count 0, Count 0)) Absent false) five ≡ Err EmptyWindow
unfolding plan_of
no_sides = refl

-- a side in the window's proportion: 2 * 5 / 1
in_proportion : plan_of (raw Whole (Some (Count 0, Percent 200)) Absent false) five ≡ Ok (record { driver = EHdr; layout = Bil; bands = record { source = 0; kind = Byte; nodata = None } ∷ []; size = record { w = 10; h = 2 }; x = pos 0; y = pos 0; window = record { w = 5; h = 1 }; geo = None })
unfolding plan_of
in_proportion = refl

-- a window that leaves the raster shows the NODATA there
abbrev four : Planned
four = record { driver = EHdr; layout = Bil; bands = record { source = 0; kind = Byte; nodata = Some (pos 9) } ∷ []; size = record { w = 4; h = 1 }; x = pos 3; y = pos 0; window = record { w = 4; h = 1 }; geo = None }

five_to_four : plan_of (raw (Pixels (pos 3) (pos 0) (pos 4) (pos 1)) None (Number (pos 9)) false) five ≡ Ok four
unfolding plan_of
five_to_four = refl

four_pixels : map (λ i. out_pixel four (record { w = 5; h = 1 }) five_pixels 0 i 0) (0 ∷ 1 ∷ 2 ∷ 3 ∷ []) ≡ pos 4 ∷ pos 5 ∷ pos 9 ∷ pos 9 ∷ []
four_pixels = refl

four_outside : plan_of (raw (Pixels (pos 3) (pos 0) (pos 4) (pos 1)) None (Number (pos 9)) true) five ≡ Err Outside
unfolding plan_of
four_outside = refl

-- a number that the type doesn't have
large_number : plan_of (raw Whole None (Number (pos 256)) false) five ≡ Err Unfit
unfolding plan_of
large_number = refl

-- a mosaic of 121 columns and lines whose first pixel has its centre at longitude 0, latitude 1, but for some ticks
abbrev posts : DatasetHead
posts = record { name = codes "m.vrt"; kind = kinds.Vrt; size = record { w = 121; h = 121 }; geo = Some (record { ox = negsuc 750000000000005; oy = pos 180750000000000006; dx = pos 1499999999999994; dy = negsuc 1499999999999993 }); srs = None; bands = record { kind = Int16; nodata = None; block = record { w = 128; h = 128 } } ∷ []; files = [] }

abbrev to : Driver → List ℕ → Options
to driver out = record { driver = driver; layout = Bil; out = out; bands = []; view = Whole; outsize = None; nodata = Absent; kind = None; epo = false; eco = false }

abbrev cell : Planned
cell = record { driver = Dted 0; layout = Bil; bands = record { source = 0; kind = Int16; nodata = Some (negsuc 32766) } ∷ []; size = record { w = 121; h = 121 }; x = pos 0; y = pos 0; window = record { w = 121; h = 121 }; geo = posts.geo }

posts_to_cell : plan_of (to (Dted 0) (codes "out.dt0")) posts ≡ Ok cell
unfolding plan_of cell_of
posts_to_cell = refl

-- the least sample of Int16 isn't an elevation
least_elevation : out_pixel cell (record { w = 121; h = 121 }) (λ band x y. negsuc 32767) 0 0 0 ≡ negsuc 32766
least_elevation = refl

posts_to_level_1 : plan_of (to (Dted 1) (codes "out.dt1")) posts ≡ Err Unfit
unfolding plan_of cell_of
posts_to_level_1 = refl

-- a grid of 2 columns and lines of two units
abbrev grid : DatasetHead
grid = record { name = codes "g.asc"; kind = kinds.Ascii; size = record { w = 2; h = 2 }; geo = Some (record { ox = pos (9 * 180000000000000000); oy = pos (23 * 180000000000000000); dx = pos (2 * 180000000000000000); dy = negsuc 359999999999999999 }); srs = None; bands = record { kind = Int32; nodata = None; block = record { w = 2; h = 1 } } ∷ []; files = [] }

grid_to_grid : plan_of (to AaiGrid (codes "h.asc")) grid ≡ Ok (record { driver = AaiGrid; layout = Bil; bands = record { source = 0; kind = Int32; nodata = None } ∷ []; size = record { w = 2; h = 2 }; x = pos 0; y = pos 0; window = record { w = 2; h = 2 }; geo = grid.geo })
unfolding plan_of
grid_to_grid = refl

grid_to_tile : plan_of (to SrtmHgt (codes "N00E000.hgt")) grid ≡ Err Unfit
unfolding plan_of tile_of last_part
grid_to_tile = refl
