-- What the definitions say of tiles of two by two pixels, and of a tally.
use Rattle.std.proofs.Common.{◌≡◌, refl, [], ◌∷◌, ◌++◌, pos, neg_ℤ, true, Some, None}
use Rattle.std.specs.Prelude.{codes}
use Rattle.std.specs.Fmt.{decimal}
use Rattle.geotransform.specs.declared.types.PixelType.TheVariants.{Int16}
use Rattle.esri_hdr.specs.Head.{geotransform_of}
use Rattle.outside.specs.Names.{header_of, ending_of, last_part, folder_part}
use Rattle.synthetic_rasters.specs.Names.{tile_name}
use Rattle.synthetic_rasters.specs.Outer.{outer_document}
use Rattle.synthetic_rasters.specs.Tiles.{tile_data, tile_head, nodata}
use Rattle.synthetic_rasters.specs.Tally.{tally_of, tally_text}

-- the samples 0 and 7, and below them 13 and 20
first_tile : tile_data 2 0 ≡ 0 ∷ 0 ∷ 7 ∷ 0 ∷ 13 ∷ 0 ∷ 20 ∷ 0 ∷ []
unfolding tile_data
first_tile = refl

-- the samples 93 and none, and below them none and 113
last_tile : tile_data 2 3 ≡ 93 ∷ 0 ∷ 255 ∷ 255 ∷ 255 ∷ 255 ∷ 113 ∷ 0 ∷ []
unfolding tile_data
last_tile = refl

header_name : header_of (tile_name 2) ≡ codes "synth_t2.hdr"
unfolding header_of ending_of last_part
header_name = refl

-- the last tile lies below and beside the first, which lies at the origin
first_place : geotransform_of (tile_head 2 0) ≡ Some (record { ox = pos 0; oy = pos 0; dx = pos 180000000000000000; dy = neg_ℤ (pos 180000000000000000) })
first_place = refl

last_place : geotransform_of (tile_head 2 3) ≡ Some (record { ox = pos 360000000000000000; oy = neg_ℤ (pos 360000000000000000); dx = pos 180000000000000000; dy = neg_ℤ (pos 180000000000000000) })
last_place = refl

-- the sources of the outer mosaic of tiles of one pixel: the whole, and a pixel moved right and down, with 1000 added
outer_of_one : (outer_document 1).bands ≡ record {
  kind = Int16;
  nodata = Some (neg_ℤ (pos 1));
  sources = record { complex = true; relative = true; file = codes "synth_inner.vrt"; band = 1; src = Some (record { x = pos 0; y = pos 0; w = pos 2000000; h = pos 2000000 }); dst = Some (record { x = pos 0; y = pos 0; w = pos 2000000; h = pos 2000000 }); nodata = Some (neg_ℤ (pos 1)); offset = pos 0; ratio = pos 1000000000000; lut = None }
      ∷ record { complex = true; relative = true; file = codes "synth_inner.vrt"; band = 1; src = Some (record { x = pos 0; y = pos 0; w = pos 1000000; h = pos 1000000 }); dst = Some (record { x = pos 1000000; y = pos 1000000; w = pos 1000000; h = pos 1000000 }); nodata = Some (neg_ℤ (pos 1)); offset = pos 1000000000000000; ratio = pos 1000000000000; lut = None }
      ∷ [];
} ∷ []
unfolding outer_document folder_part
outer_of_one = refl

outer_size : (outer_document 45).size ≡ record { w = 90; h = 90 }
unfolding outer_document
outer_size = refl

-- NODATA isn't counted
three_values : tally_of (pos 5 ∷ nodata ∷ neg_ℤ (pos 3) ∷ pos 20 ∷ []) ≡ record { count = 3; sum = pos 22; least = neg_ℤ (pos 3); greatest = pos 20 }
unfolding tally_of
three_values = refl

no_value : tally_of (nodata ∷ []) ≡ record { count = 0; sum = pos 0; least = pos 0; greatest = pos 0 }
unfolding tally_of
no_value = refl

five_lines : tally_text (record { w = 4; h = 4 }) (record { count = 15; sum = pos 4450; least = pos 0; greatest = pos 1020 })
    ≡ codes "Size: " ++ (decimal 4 ++ (codes " x " ++ (decimal 4 ++ (codes "\nValues: " ++ (decimal 15 ++ (codes "\nSum: " ++ (decimal 4450 ++ (codes "\nLeast: " ++ (decimal 0 ++ (codes "\nGreatest: " ++ (decimal 1020 ++ codes "\n")))))))))))
unfolding tally_text
five_lines = refl
