-- The pixels of an output.
use Rattle.std.proofs.Common.{◌≡◌, ℕ, ℤ, ◌+◌, ◌*◌, ◌^◌, ◌<◌, ◌≤◌, Bool, true, false, List, refl, ap, sym, ◌∙◌, subst, arith, pos, negsuc, Option, Some, None, cond}
use Rattle.std.specs.Prelude.{IfSome, slice_get}
use Rattle.std.specs.Option.{unwrap_or}
use Rattle.std.specs.List.{All}
use Rattle.std.proofs.Math.Nat.{div-eq_of_lt-le, add-mul, div-lt_iff_lt-mul, mul-lt-mul_of_pos_right, mul_comm}
use Rattle.std.proofs.lemmas.Nat.{mul-le}
use Rattle.std.proofs.lemmas.Int.{ints}
use Rattle.std.proofs.lemmas.Bool.Decides.{nat_tests}
use Rattle.std.proofs.lemmas.Option.{get_or_from_slice_get, slice_get_within}
use Rattle.geotransform.specs.Types.{is_in, clamp}
use Rattle.geotransform.proofs.Ranges.{clamp_in, zero_in}
use Rattle.geotransform.specs.declared.types.Size.{Size}
use Rattle.geotransform.specs.declared.types.PixelType.{PixelType}
use Rattle.geotransform.specs.declared.types.PixelType.TheVariants.{Int16}
use Rattle.dted_records.specs.Written.{IsElevation}
use Rattle.translate_plan.specs.declared.options.Driver.{Driver}
use Rattle.translate_plan.specs.declared.options.Driver.TheVariants.{EHdr, Dted, SrtmHgt, AaiGrid, Vrt}
use Rattle.translate_plan.specs.declared.band.OutBand.{OutBand}
use Rattle.translate_plan.specs.Plan.{Planned, BandsHold, IsOutBand, IsPlan, shown, shown_column, shown_line, is_in_raster, elevation_near, held, band_pixel, pixel_in, out_pixel}

near_in : (v : ℤ) → is_in Int16 v ≡ true → is_in Int16 (elevation_near v) ≡ true
near_in v h = grind (arith, nat_tests, ints)

near_elevation : (v : ℤ) → is_in Int16 v ≡ true → IsElevation (elevation_near v)
near_elevation v h = grind (arith, nat_tests, ints)

held_in : (driver : Driver) (kind : PixelType) (v : ℤ) → ((level : ℕ) → driver ≡ Dted level → kind ≡ Int16) → is_in kind (held driver kind v) ≡ true
held_in EHdr kind v h = clamp_in kind v
held_in (Dted level) kind v h =
    let is = h level refl in
    ap (λ k. is_in k (elevation_near (clamp k v))) is ∙ near_in (clamp Int16 v) (clamp_in Int16 v)
held_in SrtmHgt kind v h = clamp_in kind v
held_in AaiGrid kind v h = clamp_in kind v
held_in Vrt kind v h = clamp_in kind v

fill_in : (kind : PixelType) (nodata : Option ℤ) → IfSome nodata (λ n. is_in kind n ≡ true) → is_in kind (unwrap_or nodata (pos 0)) ≡ true
fill_in kind None h = zero_in kind
fill_in kind (Some n) h = h

either_in : (kind : PixelType) (b : Bool) (x y : ℤ) → is_in kind x ≡ true → is_in kind y ≡ true → is_in kind (cond b x y) ≡ true
either_in kind true x y h e = h
either_in kind false x y h e = e

-- what holds of all bands holds of one
one_of : (P : OutBand → Type 0) (bs : List OutBand) (k : ℕ) (b : OutBand) → All P bs → slice_get bs k ≡ Some b → P b
one_of P bs k b all e = subst P (get_or_from_slice_get bs k b b e) (all k b (slice_get_within bs k b e))

cell_kind : (p : Planned) (d : Driver) (level k : ℕ) (b : OutBand) → BandsHold d p.bands → d ≡ Dted level → slice_get p.bands k ≡ Some b → (b.kind ≡ Int16) × (b.nodata ≡ Some (negsuc 32766))
cell_kind p d level k b holds is e = one_of (λ b. (b.kind ≡ Int16) × (b.nodata ≡ Some (negsuc 32766))) p.bands k b (subst (λ d. BandsHold d p.bands) is holds) e

band_in : (p : Planned) (source : Size) (pixels : ℕ → ℕ → ℕ → ℤ) (k i j : ℕ) (b : OutBand) → IsPlan p → slice_get p.bands k ≡ Some b → is_in b.kind (band_pixel p source pixels b i j) ≡ true
band_in p source pixels k i j b plan e =
    either_in b.kind (is_in_raster source (shown_column p i) (shown_line p j)) _ _
    (held_in p.driver b.kind _ (λ level is. (cell_kind p p.driver level k b plan.alike is e).0))
    (fill_in b.kind b.nodata (one_of IsOutBand p.bands k b plan.each e))

pub pixel_held : (p : Planned) (source : Size) (pixels : ℕ → ℕ → ℕ → ℤ) (k i j : ℕ) (b : OutBand) → IsPlan p → slice_get p.bands k ≡ Some b → is_in b.kind (out_pixel p source pixels k i j) ≡ true
pixel_held p source pixels k i j b plan e = ap (λ m. is_in b.kind (pixel_in p source pixels m i j)) e ∙ band_in p source pixels k i j b plan e

either_near : (b : Bool) (x y : ℤ) → IsElevation x → IsElevation y → IsElevation (cond b x y)
either_near true x y h e = h
either_near false x y h e = e

held_near : (d : Driver) (level : ℕ) (kind : PixelType) (v : ℤ) → d ≡ Dted level → kind ≡ Int16 → IsElevation (held d kind v)
held_near d level kind v is e = rw (is, e) (near_elevation (clamp Int16 v) (clamp_in Int16 v))

option_near : (p : Planned) (source : Size) (pixels : ℕ → ℕ → ℕ → ℤ) (k i j level : ℕ) (m : Option OutBand) → slice_get p.bands k ≡ m → IsPlan p → p.driver ≡ Dted level → IsElevation (pixel_in p source pixels m i j)
option_near p source pixels k i j level None e plan is = omega arith
option_near p source pixels k i j level (Some b) e plan is =
    let c = cell_kind p p.driver level k b plan.alike is e in
    either_near (is_in_raster source (shown_column p i) (shown_line p j)) _ _
    (held_near p.driver level b.kind _ is c.0)
    (subst (λ n. IsElevation (unwrap_or n (pos 0))) (sym c.1) (omega arith))

pub cell_held : (p : Planned) (source : Size) (pixels : ℕ → ℕ → ℕ → ℤ) (k i j level : ℕ) → IsPlan p → p.driver ≡ Dted level → IsElevation (out_pixel p source pixels k i j)
cell_held p source pixels k i j level plan is = option_near p source pixels k i j level (slice_get p.bands k) refl plan is

pub shown_within : (from to k : ℕ) → 0 < from → k < to → shown from to k < from
shown_within from to k some less =
    let odd : 2 * k + 1 < 2 * to = omega (arith, less) in
    let most : (2 * k + 1) * from < (2 * to) * from = mul-lt-mul_of_pos_right odd some in
    (div-lt_iff_lt-mul {k = 2 * to} {x = (2 * k + 1) * from} {y = from} (omega (arith, less))).1 (subst (λ n. (2 * k + 1) * from < n) (mul_comm (2 * to) from) most)

pub shown_same : (n k : ℕ) → 0 < n → shown n n k ≡ k
shown_same n k some = div-eq_of_lt-le {k = k} (2 * n) {m = (2 * k + 1) * n} (omega (arith, add-mul (2 * k) 1 n, add-mul k k n)) (omega (arith, add-mul (2 * k) 1 n, add-mul k 1 (2 * n), add-mul k k n))

pub product_bound : (a b : ℕ) → a ≤ 10 ^ 14 → b ≤ 4194304 → a * b ≤ 10 ^ 14 * 4194304
product_bound a b p q = mul-le a b (10 ^ 14) 4194304 p q
