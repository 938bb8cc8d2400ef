-- The geotransform of a pixel's centre and sizes.
use Rattle.std.proofs.Common.{◌≡◌, ◌≢◌, ℕ, ℤ, pos, negsuc, ◌+◌, ◌*◌, ◌/◌, ◌%◌, ◌^◌, ◌<◌, true, arith, ap, ◌∙◌, unsigned_abs}
use Rattle.std.specs.Prelude.{int_lt, nat_lt, ◌+ℤ◌, ◌-ℤ◌, neg_ℤ}
use Rattle.std.proofs.lemmas.Bool.Decides.{nat_tests}
use Rattle.std.proofs.lemmas.Int.{ints}
use Rattle.geotransform.specs.Geo.{IsTransform}
use Rattle.geotransform.specs.Print.{unit}
use Rattle.esri_hdr.specs.declared.header_parts.RawGeo.{RawGeo}
use Rattle.esri_hdr.specs.Head.{GeoFits, is_half_near, half_of, placed}

even : (n : ℕ) → n % 18 ≡ 0 → n / 2 + n / 2 ≡ n
even n h = omega arith

left_near : (u : ℤ) (k l : ℕ) → nat_lt (unsigned_abs (u +ℤ u -ℤ pos (k + k))) (2 * l) ≡ true → unsigned_abs (u -ℤ pos k) < l
left_near (pos n) k l h = grind (arith, nat_tests, ints)
left_near (negsuc n) k l h = grind (arith, nat_tests, ints)

top_near : (u : ℤ) (k l : ℕ) → nat_lt (unsigned_abs (u +ℤ u +ℤ pos (k + k))) (2 * l) ≡ true → unsigned_abs (u +ℤ pos k) < l
top_near (pos n) k l h = grind (arith, nat_tests, ints)
top_near (negsuc n) k l h = grind (arith, nat_tests, ints)

some_step : (v : ℤ) → int_lt (pos 0) v ≡ true → v ≢ pos 0
some_step (pos n) h = λ e. grind (arith, nat_tests, ints)
some_step (negsuc n) h = λ e. grind (arith, nat_tests, ints)

some_back : (v : ℤ) → int_lt (pos 0) v ≡ true → neg_ℤ v ≢ pos 0
some_back (pos n) h = λ e. grind (arith, nat_tests, ints)
some_back (negsuc n) h = λ e. grind (arith, nat_tests, ints)

-- twice the half of a size is the size
pub doubled : (v : ℤ) → unsigned_abs v % 18 ≡ 0 → int_lt (pos 0) v ≡ true → pos (unsigned_abs v / 2 + unsigned_abs v / 2) ≡ v
doubled (pos n) h some = ap pos (even n h)
doubled (negsuc n) h some = grind (arith, nat_tests, ints)

left_of : (u v : ℤ) → unsigned_abs v % 18 ≡ 0 → int_lt (pos 0) v ≡ true → is_half_near (u +ℤ u -ℤ v) ≡ true → unsigned_abs (u -ℤ half_of v) < 10 ^ 12 * unit
left_of u v h some near = left_near u (unsigned_abs v / 2) (10 ^ 12 * unit) (ap (λ w. is_half_near (u +ℤ u -ℤ w)) (doubled v h some) ∙ near)

top_of : (u v : ℤ) → unsigned_abs v % 18 ≡ 0 → int_lt (pos 0) v ≡ true → is_half_near (u +ℤ u +ℤ v) ≡ true → unsigned_abs (u +ℤ half_of v) < 10 ^ 12 * unit
top_of u v h some near = top_near u (unsigned_abs v / 2) (10 ^ 12 * unit) (ap (λ w. is_half_near (u +ℤ u +ℤ w)) (doubled v h some) ∙ near)

back_near : (v : ℤ) (l : ℕ) → unsigned_abs v < l → unsigned_abs (neg_ℤ v) < l
back_near (pos n) l h = grind (arith, ints)
back_near (negsuc n) l h = grind (arith, ints)

-- what is placed is a geotransform
pub is_placed : (g : RawGeo) → GeoFits g → IsTransform (placed g)
is_placed g h = record {
  column = some_step g.xdim h.wide;
  line = some_back g.ydim h.high;
  ox_near = left_of g.ulx g.xdim h.xdim.multiple h.wide h.left;
  oy_near = top_of g.uly g.ydim h.ydim.multiple h.high h.top;
  dx_near = omega (arith, h.xdim.near);
  dy_near = back_near g.ydim (10 ^ 12 * unit) (omega (arith, h.ydim.near));
}
