-- Products of numbers that are small enough.
use Rattle.std.proofs.Common.{ℕ, ℤ, ◌*ℤ◌, ◌*◌, ◌^◌, ◌<◌, ◌≤◌, arith, unsigned_abs, FitsSigned}
use Rattle.std.proofs.lemmas.Int.{fits_signed_mul}
use Rattle.std.specs.Int.{w64, w128}
use Rattle.geotransform.proofs.Numbers.{product_bound}

-- a number of 64 bits has 128 bits
pub wide : (a : ℤ) → FitsSigned w64 a → FitsSigned w128 a
wide a f = record { sfits = omega (arith, f.sfits) }

no_more : (m n : ℕ) → m < n → m ≤ n
no_more m n p = omega arith

pub product_within : (a b : ℤ) (m n : ℕ) → unsigned_abs a ≤ m → unsigned_abs b < n → unsigned_abs (a *ℤ b) ≤ m * n
product_within a b m n p q = product_bound a b m n p (no_more (unsigned_abs b) n q)

-- so many steps fit
pub steps_fit : (a b : ℤ) → unsigned_abs a ≤ 16777216 → unsigned_abs b < 18 * 10 ^ 28 → FitsSigned w128 (a *ℤ b)
steps_fit a b p q = fits_signed_mul w128 a b 16777216 (18 * 10 ^ 28) p (no_more (unsigned_abs b) (18 * 10 ^ 28) q) (omega arith)
