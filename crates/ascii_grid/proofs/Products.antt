-- Products that stay small.
use Rattle.geotransform.proofs.Numbers.{product_bound}
use Rattle.std.proofs.Common.{ℤ, pos, ◌*ℤ◌, unsigned_abs, ℕ, ◌≤◌, ◌*◌, ◌^◌, ◌<◌, arith, FitsSigned}
use Rattle.std.proofs.Math.Nat.{mul-le-mul}
use Rattle.std.proofs.lemmas.Int.{fits_signed_mul}
use Rattle.std.specs.Int.{w128}

pub product_small : (a b : ℕ) → a ≤ 4194304 → b ≤ 4194304 → a * b ≤ 2 ^ 44
product_small a b p q = mul-le-mul p q

pub height_small : (a b : ℕ) → a ≤ 4194304 → b ≤ 18 * 10 ^ 28 → a * b ≤ 4194304 * (18 * 10 ^ 28)
height_small a b p q = mul-le-mul p q

pub product_some : (a b : ℕ) → 0 < a → 0 < b → 0 < a * b
product_some a b p q = let h : 1 * 1 ≤ a * b = mul-le-mul p q in omega (arith, h)

pub depth_small : (h : ℕ) (step : ℤ) → h ≤ 4194304 → unsigned_abs step < 18 * 10 ^ 28 → unsigned_abs (pos h *ℤ step) ≤ 4194304 * (18 * 10 ^ 28)
depth_small h step h_small near = product_bound (pos h) step 4194304 (18 * 10 ^ 28) h_small (omega arith)

no_more : (m n : ℕ) → m < n → m ≤ n
no_more m n p = omega arith

pub depth_fits : (h : ℕ) (step : ℤ) → h ≤ 4194304 → unsigned_abs step < 18 * 10 ^ 28 → FitsSigned w128 (pos h *ℤ step)
depth_fits h step h_small near = fits_signed_mul w128 (pos h) step 4194304 (18 * 10 ^ 28) h_small (no_more (unsigned_abs step) (18 * 10 ^ 28) near) (omega arith)
