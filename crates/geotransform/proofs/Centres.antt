-- Centres at whole degrees: what is found, and that it is found.
use Rattle.std.proofs.Common.{◌≡◌, ℕ, ℤ, ◌*◌, ◌/◌, ◌<◌, ◌<ℤ◌, ◌≤ℤ◌, ◌+ℤ◌, ◌-ℤ◌, ◌*ℤ◌, neg_ℤ, true, ap, ◌∙◌, sym, arith, pos, negsuc, refl, Option, Some, None}
use Rattle.std.specs.Prelude.{unsigned_abs, nat_le}
use Rattle.std.proofs.lemmas.Int.{ints}
use Rattle.std.proofs.lemmas.Bool.Decides.{nat_tests}
use Rattle.lists_and_answers.specs.Options.{◌>>=◌}
use Rattle.geotransform.specs.Print.{unit}
use Rattle.geotransform.specs.Places.{IsFloor}
use Rattle.geotransform.specs.Geo.{Transform, is_north_up}
use Rattle.geotransform.specs.Degrees.{degrees, degree_near, in_range, when_between, degree_between, IsAtDegree}
use Rattle.geotransform.proofs.Floors.{floor_only}

-- a thousandth of so many ticks, cut down, tells as much as the ticks
pub thousandth_is : (w n : ℕ) → nat_le w (n / 1000) ≡ nat_le (1000 * w) n
thousandth_is w n = grind (arith, nat_tests)

in_range_is : (limit : ℕ) (d e : ℤ) → in_range limit d ≡ Some e → (d ≡ e) × (neg_ℤ (pos limit) ≤ℤ e) × (e <ℤ pos limit)
in_range_is limit d e h = grind (arith, nat_tests, ints)

when_is : (spacing : ℕ) (first second d e : ℤ) → when_between spacing first second d ≡ Some e → (d ≡ e) × IsAtDegree spacing first e × IsAtDegree spacing second (e +ℤ pos 1)
when_is spacing first second d e h = grind (arith, nat_tests, ints)

pub up_is : (g : Transform) → is_north_up g ≡ true → (pos 0 <ℤ g.dx) × (g.dy <ℤ pos 0)
up_is g h = grind (arith, nat_tests, ints)

in_range_made : (limit : ℕ) (d : ℤ) → neg_ℤ (pos limit) ≤ℤ d → d <ℤ pos limit → in_range limit d ≡ Some d
in_range_made limit d low high = grind (arith, nat_tests, ints)

when_made : (spacing : ℕ) (first second d : ℤ) → IsAtDegree spacing first d → IsAtDegree spacing second (d +ℤ pos 1) → when_between spacing first second d ≡ Some d
when_made spacing first second d a b = grind (arith, nat_tests)

pub up_made : (g : Transform) → pos 0 <ℤ g.dx → g.dy <ℤ pos 0 → is_north_up g ≡ true
up_made g east south = grind (arith, nat_tests, ints)

twice_degrees : (d : ℤ) → pos 2 *ℤ degrees d ≡ d *ℤ pos (2 * unit)
twice_degrees (pos n) = omega (arith, ints)
twice_degrees (negsuc n) = omega (arith, ints)

next_degree : (d : ℤ) → (d +ℤ pos 1) *ℤ pos (2 * unit) ≡ d *ℤ pos (2 * unit) +ℤ pos (2 * unit)
next_degree d = omega (arith, ints)

low_by : (v m : ℤ) → 1000 * unsigned_abs (v -ℤ m) < 1000 * unit → m ≤ℤ (v +ℤ pos unit)
low_by v m h = omega (arith, ints)

high_by : (v m : ℤ) → 1000 * unsigned_abs (v -ℤ m) < 1000 * unit → (v +ℤ pos unit) <ℤ (m +ℤ pos (2 * unit))
high_by v m h = omega (arith, ints)

floor_bounds : (spacing : ℕ) (v d : ℤ) → 2 * spacing < 1000 * unit → IsAtDegree spacing v d → IsFloor (v +ℤ pos unit) (pos (2 * unit)) d
floor_bounds spacing v d small at =
    let close : 1000 * unsigned_abs (v -ℤ pos 2 *ℤ degrees d) < 1000 * unit = omega (arith, small, at) in
    let low : (d *ℤ pos (2 * unit)) ≤ℤ (v +ℤ pos unit) = rw (sym (twice_degrees d)) (low_by v (pos 2 *ℤ degrees d) close) in
    let high : (v +ℤ pos unit) <ℤ (d *ℤ pos (2 * unit) +ℤ pos (2 * unit)) = rw (sym (twice_degrees d)) (high_by v (pos 2 *ℤ degrees d) close) in
    record { positive = λ h. (low, rw (next_degree d) high); negative = λ h. absurd (omega (arith, ints)) }

-- the degree at which a centre is, is the nearest one
pub near_is : (spacing : ℕ) (v d : ℤ) → 2 * spacing < 1000 * unit → IsAtDegree spacing v d → degree_near v ≡ d
near_is spacing v d small at = floor_only (v +ℤ pos unit) (pos (2 * unit)) d (λ e. absurd (omega (arith, ints))) (floor_bounds spacing v d small at)

-- what the first answer was, and the second one from it
pub record Found {A B : Type 0} (m : Option A) (f : A → Option B) (b : B) : Type 0 where
  pub value : A
  pub found : m ≡ Some value
  pub rest : f value ≡ Some b

pub bind_is : {A B : Type 0} (m : Option A) (f : A → Option B) (b : B) → (m >>= f) ≡ Some b → Found m f b
bind_is None f b h = absurd cc
bind_is (Some a) f b h = record { value = a; found = refl; rest = h }

pub bind_made : {A B : Type 0} (m : Option A) (f : A → Option B) (a : A) (r : Option B) → m ≡ Some a → f a ≡ r → (m >>= f) ≡ r
bind_made m f a r e h = ap (λ (x : Option _). x >>= f) e ∙ h

pub record IsBetween (spacing limit : ℕ) (v w d : ℤ) : Type 0 where
  pub least : neg_ℤ (pos limit) ≤ℤ d
  pub most : d <ℤ pos limit
  pub here : IsAtDegree spacing v d
  pub next : IsAtDegree spacing w (d +ℤ pos 1)

pub between_is : (spacing limit : ℕ) (v w d : ℤ) → degree_between spacing limit v w ≡ Some d → IsBetween spacing limit v w d
between_is spacing limit v w d h =
    let b = bind_is (in_range limit (degree_near v)) (when_between spacing v w) d h in
    let r = in_range_is limit (degree_near v) b.value b.found in
    let t = when_is spacing v w b.value d b.rest in
    record { least = rw (sym t.0) r.1; most = rw (sym t.0) r.2; here = t.1; next = t.2 }

pub between_made : (spacing limit : ℕ) (v w d : ℤ) → 2 * spacing < 1000 * unit → IsBetween spacing limit v w d → degree_between spacing limit v w ≡ Some d
between_made spacing limit v w d small b =
    bind_made (in_range limit (degree_near v)) (when_between spacing v w) d (Some d)
    (ap (in_range limit) (near_is spacing v d small b.here) ∙ in_range_made limit d b.least b.most)
    (when_made spacing v w d b.here b.next)

-- a place at a degree to the tick
pub exact_at : (spacing : ℕ) (v d : ℤ) → v ≡ pos 2 *ℤ degrees d → IsAtDegree spacing v d
exact_at spacing v d e = rw e (omega (arith, ints))
