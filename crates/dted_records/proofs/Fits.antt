-- A raster fits exactly where it is a cell.
use Rattle.std.proofs.Common.{◌≡◌, ℕ, ℤ, ◌+◌, ◌*◌, ◌≤◌, ◌<◌, ◌<ℤ◌, ◌≤ℤ◌, true, false, Bool, ap, ◌∙◌, sym, arith, pos, refl, Some}
use Rattle.std.specs.Prelude.{◌==◌}
use Rattle.std.proofs.Math.Nat.{mul-le-mul}
use Rattle.std.proofs.lemmas.Int.{ints}
use Rattle.std.proofs.lemmas.Bool.Decides.{nat_tests}
use Rattle.geotransform.specs.Print.{unit}
use Rattle.geotransform.specs.Geo.{Transform, is_north_up}
use Rattle.geotransform.specs.Degrees.{degree_near, twice_west, twice_east, twice_south, twice_north, lon_of, lat_of}
use Rattle.geotransform.specs.declared.types.Size.{Size}
use Rattle.geotransform.proofs.Centres.{bind_is, bind_made, between_is, between_made, near_is, up_is, up_made}
use Rattle.dted_records.specs.Head.{Head}
use Rattle.dted_records.specs.Places.{spacing}
use Rattle.dted_records.specs.Fit.{points_of, step_of, edge_of, factor_at, cell_lines, holds, cell_head, cell_of, IsCell, IsFitted}

holds_is : (b : Bool) (u : Unit {0}) → holds b ≡ Some u → b ≡ true
holds_is true u h = refl
holds_is false u h = absurd cc

same_is : (a b : ℕ) → (a == b) ≡ true → a ≡ b
same_is a b h = grind (arith, nat_tests)

same_made : (a b : ℕ) → a ≡ b → holds (a == b) ≡ Some tt
same_made a b e = grind (arith, nat_tests)

few_steps : (level : ℕ) → step_of level ≤ 300
few_steps level = grind arith

few_factors : (e f : ℕ) → factor_at e ≡ Some f → f ≤ 6
few_factors e f h = grind (arith, nat_tests)

small_lat : (level : ℕ) → 2 * spacing (step_of level) < 1000 * unit
small_lat level = omega (arith, few_steps level)

product : (s f : ℕ) → s ≤ 300 → f ≤ 6 → s * f ≤ 1800
product s f a b = mul-le-mul {n₂ = 300} {m₂ = 6} a b

small_lon : (level factor : ℕ) → factor ≤ 6 → 2 * spacing (step_of level * factor) < 1000 * unit
small_lon level factor few = omega (arith, product (step_of level) factor (few_steps level) few)

below : (d : ℤ) (n : ℕ) → d <ℤ pos (n + 1) → d ≤ℤ pos n
below d n h = omega (arith, ints)

pub cell_is : (level : ℕ) (size : Size) (g : Transform) (h : Head) → cell_of level size g ≡ Some h → IsFitted level size g h
unfolding cell_of
cell_is level size g h found =
    let up = bind_is (holds (is_north_up g)) _ h found in
    let points = bind_is (holds (size.h == points_of level)) _ h up.rest in
    let factor = bind_is (factor_at (edge_of (degree_near (twice_south g size.h)))) _ h points.rest in
    let lines = bind_is (holds (size.w == cell_lines level factor.value)) _ h factor.rest in
    let lat = bind_is (lat_of (spacing (step_of level)) size.h g) _ h lines.rest in
    let lon = bind_is (lon_of (spacing (step_of level * factor.value)) size.w g) _ h lat.rest in
    let north_up = up_is g (holds_is (is_north_up g) up.value up.found) in
    let x = between_is (spacing (step_of level * factor.value)) 180 (twice_west g) (twice_east g size.w) lon.value lon.found in
    let y = between_is (spacing (step_of level)) 90 (twice_south g size.h) (twice_north g) lat.value lat.found in
    record {
      factor = factor.value;
      lat = lat.value;
      lon = lon.value;
      cell = record {
        eastward = north_up.0;
        southward = north_up.1;
        points = same_is size.h (points_of level) (holds_is (size.h == points_of level) points.value points.found);
        zone = ap (λ d. factor_at (edge_of d)) (sym (near_is (spacing (step_of level)) (twice_south g size.h) lat.value (small_lat level) y.here)) ∙ factor.found;
        lines = same_is size.w (cell_lines level factor.value) (holds_is (size.w == cell_lines level factor.value) lines.value lines.found);
        west = x.here;
        east = x.next;
        south = y.here;
        north = y.next;
        lon_least = omega (arith, ints, x.least);
        lon_most = below lon.value 179 x.most;
        lat_least = omega (arith, ints, y.least);
        lat_most = below lat.value 89 y.most;
      };
      head = some_same h (cell_head level factor.value lat.value lon.value) (sym lon.rest);
    }
  where
    some_same : (a b : Head) → Some a ≡ Some b → a ≡ b
    some_same a b e = cc

pub cell_made : (level : ℕ) (size : Size) (g : Transform) (factor : ℕ) (lat lon : ℤ) → IsCell level size g factor lat lon → cell_of level size g ≡ Some (cell_head level factor lat lon)
unfolding cell_of
cell_made level size g factor lat lon t =
    let h = cell_head level factor lat lon in
    let few = few_factors (edge_of lat) factor t.zone in
    bind_made (holds (is_north_up g)) _ tt (Some h) (ap holds (up_made g t.eastward t.southward))
    (bind_made (holds (size.h == points_of level)) _ tt (Some h) (same_made size.h (points_of level) t.points)
    (bind_made (factor_at (edge_of (degree_near (twice_south g size.h)))) _ factor (Some h) (ap (λ d. factor_at (edge_of d)) (near_is (spacing (step_of level)) (twice_south g size.h) lat (small_lat level) t.south) ∙ t.zone)
    (bind_made (holds (size.w == cell_lines level factor)) _ tt (Some h) (same_made size.w (cell_lines level factor) t.lines)
    (bind_made (lat_of (spacing (step_of level)) size.h g) _ lat (Some h) (between_made (spacing (step_of level)) 90 _ _ lat (small_lat level) (record { least = omega (arith, ints, t.lat_least); most = omega (arith, ints, t.lat_most); here = t.south; next = t.north }))
    (bind_made (lon_of (spacing (step_of level * factor)) size.w g) _ lon (Some h) (between_made (spacing (step_of level * factor)) 180 _ _ lon (small_lon level factor few) (record { least = omega (arith, ints, t.lon_least); most = omega (arith, ints, t.lon_most); here = t.west; next = t.east }))
    refl)))))
