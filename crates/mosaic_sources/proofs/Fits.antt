-- Products and sums that fit their types.
use Rattle.std.proofs.Common.{ℤ, ◌*ℤ◌, ◌+ℤ◌, ◌^◌, ◌≤◌, arith, unsigned_abs, FitsSigned}
use Rattle.std.proofs.lemmas.Int.{fits_signed_mul, fits_signed_from_abs}
use Rattle.std.specs.Int.{w128}
use Rattle.mosaic_sources.proofs.Numbers.{scaled_bound}

pub product_fits : (a b : ℤ) → unsigned_abs a ≤ 2 ^ 54 → unsigned_abs b ≤ 2 ^ 54 → FitsSigned w128 (a *ℤ b)
product_fits a b h k = fits_signed_mul w128 a b (2 ^ 54) (2 ^ 54) h k (omega arith)

pub ratio_fits : (v r : ℤ) → unsigned_abs v ≤ 2 ^ 32 → unsigned_abs r ≤ 10 ^ 24 → FitsSigned w128 (v *ℤ r)
ratio_fits v r h k = fits_signed_mul w128 v r (2 ^ 32) (10 ^ 24) h k (omega arith)

pub scaled_fits : (v r o : ℤ) → unsigned_abs v ≤ 2 ^ 32 → unsigned_abs r ≤ 10 ^ 24 → unsigned_abs o ≤ 10 ^ 24 → FitsSigned w128 (v *ℤ r +ℤ o)
scaled_fits v r o h k l = let less = scaled_bound v r o h k l in fits_signed_from_abs w128 (v *ℤ r +ℤ o) (omega arith)
