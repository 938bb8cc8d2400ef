-- Rows of the definition, computed.
use Rattle.std.proofs.Common.{◌≡◌, pos, negsuc, ◌*◌, [], ◌∷◌, None, Ok, Err, refl}
use Rattle.std.specs.Prelude.{codes}
use Rattle.geotransform.specs.Decimal.{ticks_of, parts_of, is_decimal}
use Rattle.ascii_grid.specs.declared.faults.GridFault.TheVariants.{NotInteger}
use Rattle.ascii_grid.specs.Values.{side_in, step_in, value_in}
use Rattle.ascii_grid.specs.Keys.{with_value, shape_of}
use Rattle.ascii_grid.specs.Grid.{head_of, body_of, grid_in, grid_of}

-- two rows of two values, whose lower left pixel has its centre at (10, 20)
two_rows : grid_of (codes "ncols 2 nrows 2 xllcenter 10 yllcenter 20 cellsize 2 1 -2 30 4") ≡ Ok (record {
  head = record {
    size = record { w = 2; h = 2 };
    geo = record { ox = pos (9 * 180000000000000000); oy = pos (23 * 180000000000000000); dx = pos (2 * 180000000000000000); dy = negsuc 359999999999999999 };
    nodata = None;
    rows = 53 ∷ 58 ∷ [];
  };
  values = pos 1 ∷ negsuc 1 ∷ pos 30 ∷ pos 4 ∷ [];
})
unfolding grid_of grid_in head_of body_of with_value shape_of side_in step_in value_in ticks_of parts_of
two_rows = refl

-- a value that isn't whole
half_a_value : grid_of (codes "ncols 1 nrows 1 xllcorner 0 yllcorner 0 cellsize 1 3.5") ≡ Err (NotInteger 51)
unfolding grid_of grid_in head_of body_of with_value shape_of side_in step_in value_in ticks_of parts_of is_decimal
half_a_value = refl
