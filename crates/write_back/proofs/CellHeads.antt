-- The head of the cell that a raster is can be written.
use Rattle.std.proofs.Common.{◌≡◌, ℕ, ℤ, zero, suc, ◌+◌, ◌-◌, ◌*◌, ◌/◌, ◌%◌, ◌<◌, ◌≤◌, ◌⊎◌, inl, inr, Bool, true, false, refl, sym, ap, ◌∙◌, subst, arith, pos, negsuc, Option, Some, None}
use Rattle.std.specs.Prelude.{unsigned_abs, nat_lt, ◌*ℤ◌, ◌==◌, ◌≤ℤ◌}
use Rattle.std.proofs.lemmas.Int.{ints}
use Rattle.std.proofs.lemmas.Bool.Decides.{nat_tests}
use Rattle.geotransform.specs.Geo.{Transform}
use Rattle.geotransform.specs.declared.types.Size.{Size}
use Rattle.dted_records.specs.Head.{Head, IsHead, IsCount}
use Rattle.dted_records.specs.Fit.{IsPlain, IsLevelled, cell_head, cell_of, edge_of, factor_at, cell_lines, points_of, step_of}
use Rattle.dted_records.proofs.Fits.{cell_is}

factor_within : (e f : ℕ) → factor_at e ≡ Some f → (0 < f) × (f ≤ 6)
factor_within e f is = grind (arith, nat_tests)

levelled : (level : ℕ) → IsLevelled (points_of level)
levelled level = grind (arith, nat_tests)

few_points : (n : ℕ) → IsLevelled n → (1 < n) × (n < 4000)
few_points n (inl e) = omega arith
few_points n (inr (inl e)) = omega arith
few_points n (inr (inr e)) = omega arith

few_steps : (level : ℕ) → (0 < step_of level) × (step_of level ≤ 300)
few_steps level = grind (arith, nat_tests)

seconds_of : (d : ℤ) → (unsigned_abs (d *ℤ pos 3600) ≡ unsigned_abs d * 3600)
seconds_of (pos n) = grind (arith, ints)
seconds_of (negsuc n) = grind (arith, ints)

whole_of : (n : ℕ) → n * 3600 % 3600 ≡ 0
whole_of n = omega arith

product_bound : (a b : ℕ) → 0 < a → a ≤ 300 → 0 < b → b ≤ 6 → (0 < a * b) × (a * b < 10000)
product_bound a b p q r s = grind arith

part_bound : (n f : ℕ) → 1 < n → n < 4000 → 0 < f → (n - 1) / f + 1 < 10000
part_bound n f p q r = grind arith

pub record CanBeWritten (h : Head) : Type 0 where
  pub head : IsHead h
  pub plain : IsPlain h

pub cell_rules : (level : ℕ) (size : Size) (g : Transform) (h : Head) → cell_of level size g ≡ Some h → CanBeWritten h
cell_rules level size g h found =
    let f = cell_is level size g h found in
    let t = f.cell in
    let few = factor_within (edge_of f.lat) f.factor t.zone in
    let steps = few_steps level in
    let level_is = levelled level in
    let points = few_points (points_of level) level_is in
    let wide = product_bound (step_of level) f.factor steps.0 steps.1 few.0 few.1 in
    let across = part_bound (points_of level) f.factor points.0 points.1 few.0 in
    let lat : unsigned_abs f.lat ≤ 90 = omega (arith, ints, t.lat_least, t.lat_most) in
    let lon : unsigned_abs f.lon ≤ 180 = omega (arith, ints, t.lon_least, t.lon_most) in
    let lat_is = seconds_of f.lat in
    let lon_is = seconds_of f.lon in
    subst CanBeWritten (sym f.head) (record {
      head = record {
        skip = omega arith;
        lon = omega arith;
        lat = omega arith;
        lon_step = (wide.0, wide.1);
        lat_step = (steps.0, omega arith);
        lines = (omega arith, across);
        points = (omega arith, omega arith);
      };
      plain = record {
        front = refl;
        lon = ap (λ n. n % 3600) lon_is ∙ whole_of (unsigned_abs f.lon);
        lat = ap (λ n. n % 3600) lat_is ∙ whole_of (unsigned_abs f.lat);
        points = level_is;
      };
    })
