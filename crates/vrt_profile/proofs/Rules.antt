-- What is read keeps the rules of a document.
use Rattle.std.proofs.Common.{◌≡◌, ℕ, ℤ, ◌<◌, ◌^◌, ◌%◌, ◌&&◌, Bool, true, false, cond, List, Option, Some, None, refl, subst, sym, ap, ◌∙◌, arith, nat_lt, unsigned_abs, IfSome}
use Rattle.std.proofs.lemmas.Bool.Decides.{nat_tests}
use Rattle.std.proofs.lemmas.Int.{ints}
use Rattle.geotransform.specs.Decimal.{whole_of, parts_of, exact, mantissa, power, signed, IsRead}
use Rattle.geotransform.specs.Geo.{Transform, IsTransform, transform_of, is_near, is_step}
use Rattle.vrt_profile.specs.Scaling.{ScalingValue}
use Rattle.vrt_profile.specs.ScalingViews.{scaling_of}
use Rattle.vrt_profile.specs.Values.{IsDecimal}
use Rattle.vrt_profile.specs.declared.rectangle.LutPair.{LutPair}
use Rattle.vrt_markup.proofs.Shorter.{bind_some, guard_some}

pub signed_size : (b : Bool) (n : ℕ) → unsigned_abs (signed b n) ≡ n
signed_size true n = omega (arith, ints)
signed_size false n = refl

pub guard_true : {A : Type 0} (b : Bool) (u y : A) → cond b (Some u) None ≡ Some y → (b ≡ true) × (u ≡ y)
guard_true true u y h = (refl, cc)
guard_true false u y h = absurd cc

pub whole_small : (t : List ℕ) (n : ℤ) → Some n ≡ whole_of t → unsigned_abs n < 10 ^ 20
unfolding whole_of
whole_small t n h =
    let d = bind_some (parts_of t) _ n (sym h) in
    let m = bind_some (exact (mantissa d.0) (power d.0)) _ n d.2 in
    let g = guard_true (nat_lt m.0 (10 ^ 20)) (signed d.0.negative m.0) n m.2 in
    let low : m.0 < 10 ^ 20 = grind (arith, nat_tests, g.0) in
    subst (λ z. unsigned_abs z < 10 ^ 20) g.1 (subst (λ k. k < 10 ^ 20) (sym (signed_size d.0.negative m.0)) low)

decimal_geo : (ox oy dx dy : ℤ) (g : Transform) → Some g ≡ transform_of ox oy dx dy → IsTransform g → IsRead ox → IsRead oy → IsRead dx → IsRead dy → IsDecimal g
decimal_geo ox oy dx dy g h kept a b c d =
    let same = guard_some ((is_near ox && is_near oy) && (is_step dx && is_step dy)) (record { ox = ox; oy = oy; dx = dx; dy = dy }) g (sym h) in
    record {
      transform = kept;
      ox = subst (λ (t : Transform). unsigned_abs t.ox % 18 ≡ 0) same a.multiple;
      oy = subst (λ (t : Transform). unsigned_abs t.oy % 18 ≡ 0) same b.multiple;
      dx = subst (λ (t : Transform). unsigned_abs t.dx % 18 ≡ 0) same c.multiple;
      dy = subst (λ (t : Transform). unsigned_abs t.dy % 18 ≡ 0) same d.multiple;
    }

pub decimal_option : (ox oy dx dy : ℤ) (o : Option Transform) → o ≡ transform_of ox oy dx dy → IfSome o IsTransform → IsRead ox → IsRead oy → IsRead dx → IsRead dy → IfSome o IsDecimal
decimal_option ox oy dx dy None h kept a b c d = tt
decimal_option ox oy dx dy (Some g) h kept a b c d = decimal_geo ox oy dx dy g h kept a b c d

-- the scaling of a source that is complex
pub complex_scaling : (complex : Bool) (nodata : Option (Option ℤ)) (offset ratio : Option ℤ) (lut : Option (List LutPair)) (s : ScalingValue) → complex ≡ true → s ≡ scaling_of true nodata offset ratio lut → s ≡ scaling_of complex nodata offset ratio lut
complex_scaling complex nodata offset ratio lut s is told = told ∙ ap (λ b. scaling_of b nodata offset ratio lut) (sym is)
