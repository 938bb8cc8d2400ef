-- A raster fits exactly where it is a tile.
use Rattle.std.proofs.Common.{◌≡◌, ℕ, ℤ, ◌+◌, ◌*◌, ◌<◌, ◌<ℤ◌, ◌≤ℤ◌, ◌+ℤ◌, ◌*ℤ◌, neg_ℤ, true, false, Bool, ap, ◌∙◌, sym, arith, pos, refl, Some, None, cond, inl, inr}
use Rattle.std.proofs.lemmas.Int.{ints}
use Rattle.std.proofs.lemmas.Bool.Decides.{nat_tests}
use Rattle.geotransform.specs.Print.{unit}
use Rattle.geotransform.specs.Geo.{Transform, is_north_up}
use Rattle.geotransform.specs.declared.types.Size.{Size}
use Rattle.geotransform.specs.Degrees.{degrees, twice_west, twice_east, twice_south, twice_north, lon_of, lat_of}
use Rattle.geotransform.proofs.Centres.{bind_is, bind_made, between_is, between_made, exact_at, up_is, up_made}
use Rattle.hgt_tiles.specs.Names.{Place, IsPlace}
use Rattle.hgt_tiles.specs.Places.{IsSide, spacing, tile_transform, side_of_size, tile_of, IsTile}

side_is : (size : Size) (side : ℕ) → side_of_size size ≡ Some side → (side ≡ size.w) × (size.w ≡ size.h) × IsSide size.w
side_is size side h = grind (arith, nat_tests)

side_made : (size : Size) → size.w ≡ size.h → IsSide size.w → side_of_size size ≡ Some size.w
side_made size square side = grind (arith, nat_tests)

near_side : (side : ℕ) → IsSide side → 2 * spacing side < 1000 * unit
near_side side (inl e) = rw e (omega arith)
near_side side (inr e) = rw e (omega arith)

tested : (b : Bool) (x y : Place) → cond b (Some x) None ≡ Some y → (b ≡ true) × (x ≡ y)
tested true x y h = grind arith
tested false x y h = absurd cc

below : (d : ℤ) (n : ℕ) → d <ℤ pos (n + 1) → d ≤ℤ pos n
below d n h = omega (arith, ints)

tile_from : (size : Size) (g : Transform) (lat lon : ℤ) (p : Place) → size.w ≡ size.h → IsSide size.w → is_north_up g ≡ true → lon_of (spacing size.w) size.w g ≡ Some lon → lat_of (spacing size.w) size.w g ≡ Some lat → record { lat = lat; lon = lon } ≡ p → IsTile size g p
tile_from size g lat lon p square is up is_lon is_lat e =
    let x = between_is (spacing size.w) 180 (twice_west g) (twice_east g size.w) lon is_lon in
    let y = between_is (spacing size.w) 90 (twice_south g size.w) (twice_north g) lat is_lat in
    rw (sym e) (record {
      square = square;
      side = is;
      eastward = (up_is g up).0;
      southward = (up_is g up).1;
      west = x.here;
      east = x.next;
      south = y.here;
      north = y.next;
      lon_least = omega (arith, ints, x.least);
      lon_most = below lon 179 x.most;
      lat_least = omega (arith, ints, y.least);
      lat_most = below lat 89 y.most;
    })

pub tile_is : (size : Size) (g : Transform) (p : Place) → tile_of size g ≡ Some p → IsTile size g p
unfolding tile_of
tile_is size g p h =
    let s = bind_is (side_of_size size) _ p h in
    let lon = bind_is (lon_of (spacing s.value) s.value g) _ p s.rest in
    let lat = bind_is (lat_of (spacing s.value) s.value g) _ p lon.rest in
    let t = tested (is_north_up g) (record { lat = lat.value; lon = lon.value }) p lat.rest in
    let same = side_is size s.value s.found in
    tile_from size g lat.value lon.value p same.1 same.2 t.0 (ap (λ k. lon_of (spacing k) k g) (sym same.0) ∙ lon.found) (ap (λ k. lat_of (spacing k) k g) (sym same.0) ∙ lat.found) t.1

pub tile_made : (size : Size) (g : Transform) (p : Place) → IsTile size g p → tile_of size g ≡ Some p
unfolding tile_of
tile_made size g p t =
    bind_made (side_of_size size) _ size.w (Some p) (side_made size t.square t.side)
    (bind_made (lon_of (spacing size.w) size.w g) _ p.lon (Some p) (between_made (spacing size.w) 180 _ _ p.lon (near_side size.w t.side) (record { least = omega (arith, ints, t.lon_least); most = omega (arith, ints, t.lon_most); here = t.west; next = t.east }))
    (bind_made (lat_of (spacing size.w) size.w g) _ p.lat (Some p) (between_made (spacing size.w) 90 _ _ p.lat (near_side size.w t.side) (record { least = omega (arith, ints, t.lat_least); most = omega (arith, ints, t.lat_most); here = t.south; next = t.north }))
    (ap (λ b. cond b (Some p) None) (up_made g t.eastward t.southward))))

west_centre : (p : Place) (side : ℕ) → IsSide side → twice_west (tile_transform p side) ≡ pos 2 *ℤ degrees p.lon
west_centre p side (inl e) = rw e (omega (arith, ints))
west_centre p side (inr e) = rw e (omega (arith, ints))

east_centre : (p : Place) (side : ℕ) → IsSide side → twice_east (tile_transform p side) side ≡ pos 2 *ℤ degrees (p.lon +ℤ pos 1)
east_centre p side (inl e) = rw e (omega (arith, ints))
east_centre p side (inr e) = rw e (omega (arith, ints))

south_centre : (p : Place) (side : ℕ) → IsSide side → twice_south (tile_transform p side) side ≡ pos 2 *ℤ degrees p.lat
south_centre p side (inl e) = rw e (omega (arith, ints))
south_centre p side (inr e) = rw e (omega (arith, ints))

north_centre : (p : Place) (side : ℕ) → IsSide side → twice_north (tile_transform p side) ≡ pos 2 *ℤ degrees (p.lat +ℤ pos 1)
north_centre p side (inl e) = rw e (omega (arith, ints))
north_centre p side (inr e) = rw e (omega (arith, ints))

some_spacing : (side : ℕ) → IsSide side → (pos 0 <ℤ pos (spacing side)) × (neg_ℤ (pos (spacing side)) <ℤ pos 0)
some_spacing side (inl e) = rw e (omega (arith, ints))
some_spacing side (inr e) = rw e (omega (arith, ints))

pub fits_again : (p : Place) (side : ℕ) → IsPlace p → IsSide side → p.lat ≤ℤ pos 89 → p.lon ≤ℤ pos 179 → tile_of (record { w = side; h = side }) (tile_transform p side) ≡ Some p
fits_again p side place is lat lon =
    let steps = some_spacing side is in
    tile_made (record { w = side; h = side }) (tile_transform p side) p (record {
      square = refl;
      side = is;
      eastward = steps.0;
      southward = steps.1;
      west = exact_at (spacing side) _ p.lon (west_centre p side is);
      east = exact_at (spacing side) _ (p.lon +ℤ pos 1) (east_centre p side is);
      south = exact_at (spacing side) _ p.lat (south_centre p side is);
      north = exact_at (spacing side) _ (p.lat +ℤ pos 1) (north_centre p side is);
      lon_least = omega (arith, ints, place.lon);
      lon_most = lon;
      lat_least = omega (arith, ints, place.lat);
      lat_most = lat;
    })
