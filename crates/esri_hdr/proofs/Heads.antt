-- What a header says of a geotransform fits, and a plain head is a head.
use Rattle.std.proofs.Common.{◌≡◌, ℕ, ℤ, pos, ◌*◌, ◌%◌, ◌^◌, ◌<◌, ◌≤◌, true, false, Bool, cond, refl, sym, arith, unsigned_abs, Option, Some, None}
use Rattle.std.specs.Prelude.{◌&&◌, int_lt, ◌+ℤ◌, ◌-ℤ◌, ◌*ℤ◌, neg_ℤ, IfSome}
use Rattle.std.proofs.lemmas.Nat.{mul-le}
use Rattle.std.proofs.lemmas.Bool.Decides.{nat_tests}
use Rattle.std.proofs.lemmas.Int.{ints}
use Rattle.geotransform.specs.Decimal.{IsRead}
use Rattle.geotransform.specs.Types.{is_in}
use Rattle.geotransform.proofs.Ranges.{bytes_bounds}
use Rattle.geotransform.specs.Places.{half, sixteen_places}
use Rattle.geotransform.specs.Geo.{Transform, IsRaster, is_near, is_size, is_north_up, sizes_held}
use Rattle.geotransform.specs.declared.types.Size.{Size}
use Rattle.geotransform.specs.declared.types.PixelType.{PixelType}
use Rattle.esri_hdr.specs.declared.header_parts.Layout.{Layout}
use Rattle.esri_hdr.specs.declared.header_parts.Layout.TheVariants.{Bil, Bip, Bsq}
use Rattle.esri_hdr.specs.declared.header_parts.RawGeo.{RawGeo}
use Rattle.esri_hdr.specs.Head.{IsHead, GeoFits, RowsFit, sample_len, is_half_near, raw_geo, is_origin, holds_transform, raw_geo_of, plain_row, plain_head}

both : (a b : Bool) → a && b ≡ true → (a ≡ true) × (b ≡ true)
both true b h = (refl, h)
both false b h = absurd cc

eighteen : (n : ℤ) → unsigned_abs (pos 18 *ℤ n) % 18 ≡ 0
eighteen n = omega (arith, ints)

near_is : (v : ℤ) → is_near v ≡ true → unsigned_abs v < 18 * 10 ^ 28
near_is v h = grind (arith, nat_tests)

read_place : (n : ℤ) → is_near (pos 18 *ℤ n) ≡ true → IsRead (pos 18 *ℤ n)
read_place n h = record { multiple = eighteen n; near = near_is (pos 18 *ℤ n) h }

-- what a header says of a geotransform that it can hold fits
pub raw_fits : (g : Transform) → holds_transform g ≡ true → GeoFits (raw_geo g)
raw_fits g h =
    let sizes = both (sizes_held g) (is_origin (raw_geo g)) (both (is_north_up g) (sizes_held g && is_origin (raw_geo g)) h).1 in
    let across = both (is_size (sixteen_places g.dx)) (is_size (sixteen_places (neg_ℤ g.dy))) sizes.0 in
    let wide = both (int_lt (pos 0) (sixteen_places g.dx)) (is_near (sixteen_places g.dx)) across.0 in
    let high = both (int_lt (pos 0) (sixteen_places (neg_ℤ g.dy))) (is_near (sixteen_places (neg_ℤ g.dy))) across.1 in
    let origin = both (is_near (raw_geo g).ulx && is_near (raw_geo g).uly) _ sizes.1 in
    let centre = both (is_near (raw_geo g).ulx) (is_near (raw_geo g).uly) origin.0 in
    let corner = both (is_half_near ((raw_geo g).ulx +ℤ (raw_geo g).ulx -ℤ (raw_geo g).xdim)) (is_half_near ((raw_geo g).uly +ℤ (raw_geo g).uly +ℤ (raw_geo g).ydim)) origin.1 in
    record {
      ulx = read_place (half (pos 2 *ℤ g.ox +ℤ g.dx) 36) centre.0;
      uly = read_place (half (pos 2 *ℤ g.oy +ℤ g.dy) 36) centre.1;
      xdim = read_place (half g.dx 18) wide.1;
      ydim = read_place (half (neg_ℤ g.dy) 18) high.1;
      wide = wide.0;
      high = high.0;
      left = corner.0;
      top = corner.1;
    }

when_held : (g : Transform) (b : Bool) → b ≡ holds_transform g → IfSome (cond b (Some (raw_geo g)) None) GeoFits
when_held g true e = raw_fits g (sym e)
when_held g false e = tt

pub held_fits : (g : Transform) → IfSome (raw_geo_of g) GeoFits
held_fits g = when_held g (holds_transform g) refl

pub row_bound : (n : ℕ) (kind : PixelType) → n ≤ 4194304 → n * sample_len kind ≤ 8 * 4194304
row_bound n kind h = omega (arith, mul-le n (sample_len kind) 4194304 8 h (bytes_bounds kind).1)

line_bound : (bands row : ℕ) → bands ≤ 256 → row ≤ 8 * 4194304 → bands * row ≤ 2 ^ 33
line_bound bands row b r = omega (arith, mul-le bands row 256 (8 * 4194304) b r)

rows_fit : (layout : Layout) (bands row : ℕ) → bands ≤ 256 → row ≤ 8 * 4194304 → RowsFit layout bands row (record { band_row = row; total_row = plain_row layout bands row; gap = 0 })
rows_fit Bil bands row b r = ((omega arith, omega arith), (omega arith, line_bound bands row b r), refl)
rows_fit Bip bands row b r = (refl, (omega arith, omega (arith, line_bound bands row b r)), refl)
rows_fit Bsq bands row b r = (refl, refl, omega arith)

-- a plain head keeps the rules of a head
pub plain_is_head : (size : Size) (bands : ℕ) (kind : PixelType) (layout : Layout) (nodata : Option ℤ) (geo : Option RawGeo) → IsRaster size → 0 < bands → bands ≤ 256 → IfSome nodata (λ n. is_in kind n ≡ true) → IfSome geo GeoFits → IsHead (plain_head size bands kind layout nodata geo)
plain_is_head size bands kind layout nodata geo raster some few number place = record {
  width = (raster.some_columns, raster.columns);
  height = (raster.some_lines, raster.lines);
  bands = (some, few);
  skip = omega arith;
  rows = rows_fit layout bands (size.w * sample_len kind) few (row_bound size.w kind raster.columns);
  nodata = number;
  geo = place;
}
