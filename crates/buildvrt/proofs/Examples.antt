-- The document of two tiles side by side, and of another dataset that is skipped.
use Rattle.std.proofs.Common.{◌≡◌, ℤ, Bool, Option, ◌*◌, ◌^◌, refl, ℕ, pos, negsuc, true, false, List, [], ◌∷◌, Ok, Err, Some, None}
use Rattle.std.specs.Prelude.{codes}
use Rattle.outside.specs.Names.{last_part, folder_part}
use Rattle.hgt_tiles.specs.Names.{corner_of, degrees_in}
use Rattle.geotransform.specs.declared.types.PixelType.{PixelType}
use Rattle.geotransform.specs.declared.types.PixelType.TheVariants.{Int16, Byte}
use Rattle.vrt_profile.specs.Values.{SourceValue, DocumentValue}
use Rattle.catalog.specs.Dataset.{DatasetHead}
use Rattle.catalog.specs.Drivers.{hgt_dataset_head}
use Rattle.catalog.specs.declared.kind.Kind.TheVariants.{Raw}
use Rattle.buildvrt.specs.Options.{Options}
use Rattle.buildvrt.specs.declared.options.Resolution.TheVariants.{Average}
use Rattle.catalog.specs.declared.nodata.NodataWord.TheVariants.{Absent}
use Rattle.buildvrt.specs.declared.faults.Reason.TheVariants.{Bands}
use Rattle.buildvrt.specs.declared.faults.BuildFault.TheVariants.{Strict, Nothing}
use Rattle.buildvrt.specs.Judging.{judged_alone, judged_beside}
use Rattle.buildvrt.specs.Grids.{grid_by}
use Rattle.buildvrt.specs.Rectangles.{patch_of}
use Rattle.buildvrt.specs.Mosaic.{mosaic_of, mosaic_by, document_by, document_on}

-- no option but the names
abbrev plain : Options
plain = record { out = codes "out.vrt"; bands = []; resolution = Average; extent = None; src_nodata = Absent; vrt_nodata = Absent; separate = false; strict = false }

abbrev west : DatasetHead
west = hgt_dataset_head (codes "N00E000.hgt") 1201

abbrev east : DatasetHead
east = hgt_dataset_head (codes "N00E001.hgt") 1201

-- a dataset with a place and two bands
abbrev two : DatasetHead
two = record {
  name = codes "two.bil";
  kind = Raw;
  size = record { w = 1; h = 1 };
  geo = Some (record { ox = pos 0; oy = pos 0; dx = pos 180000000000000000; dy = negsuc 179999999999999999 });
  srs = None;
  bands = record { kind = Byte; nodata = None; block = record { w = 1; h = 1 } } ∷ record { kind = Byte; nodata = None; block = record { w = 1; h = 1 } } ∷ [];
  files = codes "two.bil" ∷ codes "two.hdr" ∷ [];
}

-- a source of a whole tile, so many columns to the right
abbrev tile_at : List ℕ → ℕ → SourceValue
tile_at name x = record {
  complex = true;
  relative = true;
  file = name;
  band = 1;
  src = Some (record { x = pos 0; y = pos 0; w = pos (1201 * 1000000); h = pos (1201 * 1000000) });
  dst = Some (record { x = pos (x * 1000000); y = pos 0; w = pos (1201 * 1000000); h = pos (1201 * 1000000) });
  nodata = Some (negsuc 32767);
  offset = pos 0;
  ratio = pos (10 ^ 12);
  lut = None;
}

abbrev both_tiles : DocumentValue
both_tiles = record {
  size = record { w = 2401; h = 1201 };
  srs = None;
  geo = Some (record { ox = negsuc 75000000000005; oy = pos 180075000000000006; dx = pos 149999999999994; dy = negsuc 149999999999993 });
  bands = record { kind = Int16; nodata = Some (negsuc 32767); sources = tile_at (codes "N00E000.hgt") 0 ∷ tile_at (codes "N00E001.hgt") 1200 ∷ [] } ∷ [];
}

-- the third has two bands, where the reference has one
side_by_side : mosaic_of plain (west ∷ east ∷ two ∷ []) ≡ Ok (both_tiles, record { input = 2; reason = Bands } ∷ [])
unfolding judged_alone judged_beside grid_by patch_of mosaic_by document_by document_on last_part folder_part corner_of degrees_in
side_by_side = refl

-- the same where nothing may be skipped
none_skipped : mosaic_of (record { out = codes "out.vrt"; bands = []; resolution = Average; extent = None; src_nodata = Absent; vrt_nodata = Absent; separate = false; strict = true }) (west ∷ east ∷ two ∷ []) ≡ Err (Strict (codes "two.bil") Bands)
unfolding judged_alone judged_beside grid_by patch_of mosaic_by document_by document_on last_part folder_part corner_of degrees_in
none_skipped = refl

-- nothing is left of no inputs
no_inputs : mosaic_of plain [] ≡ Err Nothing
unfolding mosaic_by document_by
no_inputs = refl

-- two columns and lines of pixels of one unit, with one band, from a column on
abbrev square : List ℕ → ℕ → PixelType → Option ℤ → DatasetHead
square name column kind nodata = record {
  name = name;
  kind = Raw;
  size = record { w = 2; h = 2 };
  geo = Some (record { ox = pos (column * 180000000000000000); oy = pos 360000000000000000; dx = pos 180000000000000000; dy = negsuc 179999999999999999 });
  srs = None;
  bands = record { kind = kind; nodata = nodata; block = record { w = 2; h = 1 } } ∷ [];
  files = name ∷ [];
}

-- from column 1 to 3 of them, each in a band of its own
abbrev separate : Options
separate = record {
  out = codes "out.vrt";
  bands = [];
  resolution = Average;
  extent = Some (record { xmin = pos 180000000000000000; ymin = pos 0; xmax = pos 540000000000000000; ymax = pos 360000000000000000 });
  src_nodata = Absent;
  vrt_nodata = Absent;
  separate = true;
  strict = true;
}

-- a source of a whole square, in a rectangle of its size
abbrev square_at : List ℕ → Bool → Option ℤ → ℤ → SourceValue
square_at name complex nodata x = record {
  complex = complex;
  relative = true;
  file = name;
  band = 1;
  src = Some (record { x = pos 0; y = pos 0; w = pos 2000000; h = pos 2000000 });
  dst = Some (record { x = x; y = pos 0; w = pos 2000000; h = pos 2000000 });
  nodata = nodata;
  offset = pos 0;
  ratio = pos (10 ^ 12);
  lut = None;
}

abbrev three_squares : DocumentValue
three_squares = record {
  size = record { w = 2; h = 2 };
  srs = None;
  geo = Some (record { ox = pos 180000000000000000; oy = pos 360000000000000000; dx = pos 180000000000000000; dy = negsuc 179999999999999999 });
  bands =
      record { kind = Byte; nodata = Some (pos 5); sources = square_at (codes "a.bil") true (Some (pos 5)) (negsuc 999999) ∷ [] }
      ∷ record { kind = Int16; nodata = None; sources = square_at (codes "b.bil") false None (pos 1000000) ∷ [] }
      ∷ record { kind = Byte; nodata = Some (pos 7); sources = [] }
      ∷ [];
}

-- The first is cut off at the left, the second at the right. The third lies beside the extent, so its band has no source.
cut_off : mosaic_of separate (square (codes "a.bil") 0 Byte (Some (pos 5)) ∷ square (codes "b.bil") 2 Int16 None ∷ square (codes "c.bil") 8 Byte (Some (pos 7)) ∷ []) ≡ Ok (three_squares, [])
unfolding judged_alone judged_beside grid_by patch_of mosaic_by document_by document_on last_part folder_part
cut_off = refl
