-- Numbers of the inputs: least, greatest, sum and mean.
use Rattle.std.proofs.Common.{◌≡◌, ℕ, ℤ, pos, negsuc, ◌+◌, ◌*◌, ◌^◌, ◌<◌, ◌≤◌, ◌≤ℤ◌, ◌+ℤ◌, ◌*ℤ◌, Bool, true, false, cond, ◌%◌, List, length, drop, get_or, refl, ap, ◌∙◌, arith, add-one, drop-cons, unsigned_abs, Option, Some, None}
use Rattle.std.specs.Prelude.{int_lt, IfSome}
use Rattle.std.proofs.Math.Nat.{mul-le-mul_right}
use Rattle.std.proofs.lemmas.Nat.{le-div}
use Rattle.std.proofs.lemmas.Int.{ints}
use Rattle.geotransform.specs.Decimal.{half_up}
use Rattle.geotransform.proofs.Products.{product_within}
use Rattle.geotransform.proofs.Numbers.{half_le}
use Rattle.geotransform.specs.Geo.{IsTransform}
use Rattle.geotransform.specs.Geo.{Transform, transform_of}
use Rattle.geotransform.specs.Places.{half, sixteen_places}
use Rattle.geotransform.specs.Print.{unit}
use Rattle.vrt_profile.specs.Values.{IsDecimal}
use Rattle.buildvrt.specs.Tiles.{TileValue}
use Rattle.buildvrt.specs.declared.grid.Measure.{Measure}
use Rattle.buildvrt.specs.Grids.{measure, IsStep, less_of, greater_of, least_from, greatest_from, sum_from}
use Rattle.buildvrt.specs.Limits.{IsMeasure}

-- the way of so many steps
pub way_bound : (n : ℕ) (step : ℤ) → n ≤ 4194304 → unsigned_abs step < 10 ^ 12 * unit → unsigned_abs (pos n *ℤ step) ≤ 4194304 * (10 ^ 12 * unit)
way_bound n step p q = product_within (pos n) step 4194304 (10 ^ 12 * unit) p q

-- one input more
pub least_next : (m : Measure) (x : ℤ) (ts : List TileValue) (i : ℕ) (t : TileValue) → i < length ts → t ≡ get_or ts i t → least_from m (less_of x (measure m t)) (drop (i + 1) ts) ≡ least_from m x (drop i ts)
least_next m x ts i t less is = ap (λ (d : TileValue). least_from m (less_of x (measure m d)) (drop (i + 1) ts)) is ∙ rw (add-one, drop-cons ts i t) refl

pub greatest_next : (m : Measure) (x : ℤ) (ts : List TileValue) (i : ℕ) (t : TileValue) → i < length ts → t ≡ get_or ts i t → greatest_from m (greater_of x (measure m t)) (drop (i + 1) ts) ≡ greatest_from m x (drop i ts)
greatest_next m x ts i t less is = ap (λ (d : TileValue). greatest_from m (greater_of x (measure m d)) (drop (i + 1) ts)) is ∙ rw (add-one, drop-cons ts i t) refl

pub sum_next : (m : Measure) (x : ℤ) (ts : List TileValue) (i : ℕ) (t : TileValue) → i < length ts → t ≡ get_or ts i t → sum_from m (x +ℤ measure m t) (drop (i + 1) ts) ≡ sum_from m x (drop i ts)
sum_next m x ts i t less is = ap (λ (d : TileValue). sum_from m (x +ℤ measure m d) (drop (i + 1) ts)) is ∙ rw (add-one, drop-cons ts i t) refl

-- one of two numbers keeps what both keep
either : (P : ℤ → Type 0) (x y : ℤ) (b : Bool) → P x → P y → P (cond b y x)
either P x y true p q = q
either P x y false p q = p

pub less_rules : (m : Measure) (x y : ℤ) → IsMeasure m x → IsMeasure m y → IsMeasure m (less_of x y)
less_rules m x y p q = either (IsMeasure m) x y (int_lt y x) p q

pub greater_rules : (m : Measure) (x y : ℤ) → IsMeasure m x → IsMeasure m y → IsMeasure m (greater_of x y)
greater_rules m x y p q = either (IsMeasure m) x y (int_lt x y) p q

-- a mean of numbers above 0 is above 0
mean_by : (k n : ℕ) → 0 < n → n ≤ 65536 → n ≤ k → k ≤ n * (10 ^ 12 * unit) → IsStep (pos (half_up k n))
mean_by k n some few least bound =
    let one : 1 ≤ half_up k n = le-div 1 (2 * k + n) (2 * n) (omega arith) (omega arith) in
    let most : n * (10 ^ 12 * unit) ≤ 65536 * (10 ^ 12 * unit) = mul-le-mul_right (10 ^ 12 * unit) few in
    let low : half_up k n ≤ k = half_le k n some in
    record { above = omega (arith, ints); low = omega arith }

pub mean_rules : (s : ℤ) (n : ℕ) → 0 < n → n ≤ 65536 → pos n ≤ℤ s → unsigned_abs s ≤ n * (10 ^ 12 * unit) → IsStep (half s n)
mean_rules (pos k) n some few least bound = mean_by k n some few (omega (arith, ints)) bound
mean_rules (negsuc k) n some few least bound = absurd (omega (arith, ints))

-- a geotransform of numbers that are multiples of 18 ticks is one of decimals
made_by : (t g : Transform) (b : Bool) → Some g ≡ cond b (Some t) None → g ≡ t
made_by t g true e = cc
made_by t g false e = absurd cc

pub decimal : (a b c d : ℤ) (o : Option Transform) → o ≡ transform_of a b c d → IfSome o IsTransform → unsigned_abs a % 18 ≡ 0 → unsigned_abs b % 18 ≡ 0 → unsigned_abs c % 18 ≡ 0 → unsigned_abs d % 18 ≡ 0 → IfSome o IsDecimal
decimal a b c d None e rules p q r s = tt
decimal a b c d (Some g) e rules p q r s =
    let is : g ≡ record { ox = a; oy = b; dx = c; dy = d } = made_by _ g _ e in
    record {
      transform = rules;
      ox = ap (λ (t : Transform). unsigned_abs t.ox % 18) is ∙ p;
      oy = ap (λ (t : Transform). unsigned_abs t.oy % 18) is ∙ q;
      dx = ap (λ (t : Transform). unsigned_abs t.dx % 18) is ∙ r;
      dy = ap (λ (t : Transform). unsigned_abs t.dy % 18) is ∙ s;
    }

-- the same where the four numbers were rounded
pub rounded_place : (x y u v a b c d : ℤ) (o : Option Transform) → o ≡ transform_of a b c d → a ≡ sixteen_places x → b ≡ sixteen_places y → c ≡ sixteen_places u → d ≡ sixteen_places v → o ≡ transform_of (sixteen_places x) (sixteen_places y) (sixteen_places u) (sixteen_places v)
rounded_place x y u v a b c d o e p q r s = e ∙ rw (p, q, r, s) refl
