-- The geotransform of a mosaic has 16 places.
use Rattle.std.proofs.Common.{◌≡◌, ◌≢◌, ℤ, pos, negsuc, ◌%◌, true, false, Bool, refl, subst, arith, unsigned_abs, cond, Option, Some, None, Result, Ok}
use Rattle.std.specs.Prelude.{◌&&◌, ◌*ℤ◌, IfSome, nat_lt}
use Rattle.std.proofs.lemmas.Bool.Decides.{nat_tests}
use Rattle.std.proofs.lemmas.Int.{ints}
use Rattle.lists_and_answers.specs.Options.{◌>>=◌}
use Rattle.geotransform.specs.Places.{half}
use Rattle.geotransform.specs.Geo.{Transform, IsNear, is_near, is_step, transform_of, cut_of}
use Rattle.geotransform.specs.declared.types.Size.{Size}
use Rattle.geotransform.specs.declared.faults.PlanFault.{PlanFault}
use Rattle.geotransform.proofs.Centres.{bind_is}
use Rattle.vrt_profile.specs.Values.{IsDecimal}
use Rattle.translate_plan.specs.declared.options.Driver.{Driver}
use Rattle.translate_plan.specs.declared.options.Driver.TheVariants.{Vrt}
use Rattle.translate_plan.specs.declared.window.Window.{Window}
use Rattle.translate_plan.specs.Fits.{rounded, rounded_for, or_limit, geo_in}

both : (a b : Bool) → a && b ≡ true → (a ≡ true) × (b ≡ true)
both true b h = (refl, h)
both false b h = absurd cc

tested : (b : Bool) (x t : Transform) → cond b (Some x) None ≡ Some t → (b ≡ true) × (x ≡ t)
tested true x t h = grind arith
tested false x t h = absurd cc

near_is : (v : ℤ) → is_near v ≡ true → IsNear v
near_is v h = grind (arith, nat_tests)

not_zero : (v : ℤ) → nat_lt 0 (unsigned_abs v) ≡ true → v ≢ pos 0
not_zero (pos n) h = λ e. grind (arith, nat_tests, ints)
not_zero (negsuc n) h = λ e. grind (arith, nat_tests, ints)

some_is : (v : ℤ) → is_step v ≡ true → v ≢ pos 0
some_is v h = not_zero v (both (nat_lt 0 (unsigned_abs v)) (is_near v) h).0

step_is : (v : ℤ) → is_step v ≡ true → IsNear v
step_is v h = near_is v (both (nat_lt 0 (unsigned_abs v)) (is_near v) h).1

ok_same : (x y : Option Transform) (r : Result (Option Transform) PlanFault) → r ≡ Ok x → r ≡ Ok y → x ≡ y
ok_same x y r a b = cc

eighteen : (n : ℤ) → unsigned_abs (pos 18 *ℤ n) % 18 ≡ 0
eighteen n = omega (arith, ints)

-- what is made of multiples of 18 ticks has 16 places
made : (a b c d : ℤ) (t : Transform) → transform_of (pos 18 *ℤ a) (pos 18 *ℤ b) (pos 18 *ℤ c) (pos 18 *ℤ d) ≡ Some t → IsDecimal t
made a b c d t h =
    let all = tested ((is_near (pos 18 *ℤ a) && is_near (pos 18 *ℤ b)) && (is_step (pos 18 *ℤ c) && is_step (pos 18 *ℤ d))) (record { ox = pos 18 *ℤ a; oy = pos 18 *ℤ b; dx = pos 18 *ℤ c; dy = pos 18 *ℤ d }) t h in
    let parts = both (is_near (pos 18 *ℤ a) && is_near (pos 18 *ℤ b)) (is_step (pos 18 *ℤ c) && is_step (pos 18 *ℤ d)) all.0 in
    let origin = both (is_near (pos 18 *ℤ a)) (is_near (pos 18 *ℤ b)) parts.0 in
    let sizes = both (is_step (pos 18 *ℤ c)) (is_step (pos 18 *ℤ d)) parts.1 in
    subst IsDecimal all.1 (record {
      transform = record {
        column = some_is (pos 18 *ℤ c) sizes.0;
        line = some_is (pos 18 *ℤ d) sizes.1;
        ox_near = near_is (pos 18 *ℤ a) origin.0;
        oy_near = near_is (pos 18 *ℤ b) origin.1;
        dx_near = step_is (pos 18 *ℤ c) sizes.0;
        dy_near = step_is (pos 18 *ℤ d) sizes.1;
      };
      ox = eighteen a;
      oy = eighteen b;
      dx = eighteen c;
      dy = eighteen d;
    })

rounded_is : (g t : Transform) → rounded g ≡ Some t → IsDecimal t
rounded_is g t h = made (half g.ox 18) (half g.oy 18) (half g.dx 18) (half g.dy 18) t h

some_kept : (m r : Option Transform) → ((t : Transform) → m ≡ Some t → IsDecimal t) → or_limit m ≡ Ok r → IfSome r IsDecimal
some_kept None r k e = absurd cc
some_kept (Some t) r k e = subst (λ x. IfSome x IsDecimal) (ok_same (Some t) r (or_limit (Some t)) refl e) (k t refl)

cut_kept : (driver : Driver) (m : Option Transform) (t : Transform) → driver ≡ Vrt → (m >>= rounded_for driver) ≡ Some t → IsDecimal t
cut_kept driver m t is h =
    let c = bind_is m (rounded_for driver) t h in
    rounded_is c.value t (subst (λ d. rounded_for d c.value ≡ Some t) is c.rest)

pub places_kept : (driver : Driver) (geo : Option Transform) (v : Window) (size : Size) (r : Option Transform) → driver ≡ Vrt → geo_in driver geo v size ≡ Ok r → IfSome r IsDecimal
places_kept driver None v size r is h = subst (λ x. IfSome x IsDecimal) (ok_same None r (geo_in driver None v size) refl h) tt
places_kept driver (Some g) v size r is h = some_kept (cut_of g v.x v.y v.size size >>= rounded_for driver) r (λ t. cut_kept driver (cut_of g v.x v.y v.size size) t is) h
