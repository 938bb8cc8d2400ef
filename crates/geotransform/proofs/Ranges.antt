-- Lemmas on the ranges of the types, and on the bytes of their samples.
use Rattle.std.proofs.Common.{◌≡◌, ℤ, ◌<◌, ◌≤◌, ◌^◌, true, refl, arith, pos, negsuc, unsigned_abs}
use Rattle.std.specs.Int.{w128}
use mir.Val.{SFits}
use Rattle.std.proofs.lemmas.Int.{ints}
use Rattle.std.proofs.lemmas.Bool.Decides.{nat_tests}
use Rattle.geotransform.specs.declared.types.PixelType.{PixelType}
use Rattle.geotransform.specs.declared.types.PixelType.TheVariants.{Byte, Int8, UInt16, Int16, UInt32, Int32, UInt64, Int64}
use Rattle.geotransform.specs.Types.{byte_count, is_in, clamp}

-- a sample has one to eight bytes
pub bytes_bounds : (kind : PixelType) → (1 ≤ byte_count kind) × (byte_count kind ≤ 8)
bytes_bounds Byte = (omega arith, omega arith)
bytes_bounds Int8 = (omega arith, omega arith)
bytes_bounds UInt16 = (omega arith, omega arith)
bytes_bounds Int16 = (omega arith, omega arith)
bytes_bounds UInt32 = (omega arith, omega arith)
bytes_bounds Int32 = (omega arith, omega arith)
bytes_bounds UInt64 = (omega arith, omega arith)
bytes_bounds Int64 = (omega arith, omega arith)

-- each type has 0
pub zero_in : (kind : PixelType) → is_in kind (pos 0) ≡ true
zero_in Byte = refl
zero_in Int8 = refl
zero_in UInt16 = refl
zero_in Int16 = refl
zero_in UInt32 = refl
zero_in Int32 = refl
zero_in UInt64 = refl
zero_in Int64 = refl

-- the nearest number of a type is of the type
pub clamp_in : (kind : PixelType) (n : ℤ) → is_in kind (clamp kind n) ≡ true
clamp_in Byte n = grind (arith, nat_tests, ints)
clamp_in Int8 n = grind (arith, nat_tests, ints)
clamp_in UInt16 n = grind (arith, nat_tests, ints)
clamp_in Int16 n = grind (arith, nat_tests, ints)
clamp_in UInt32 n = grind (arith, nat_tests, ints)
clamp_in Int32 n = grind (arith, nat_tests, ints)
clamp_in UInt64 n = grind (arith, nat_tests, ints)
clamp_in Int64 n = grind (arith, nat_tests, ints)

-- a number of a type is the nearest one to itself
pub clamp_kept : (kind : PixelType) (n : ℤ) → is_in kind n ≡ true → clamp kind n ≡ n
clamp_kept Byte n h = grind (arith, nat_tests, ints)
clamp_kept Int8 n h = grind (arith, nat_tests, ints)
clamp_kept UInt16 n h = grind (arith, nat_tests, ints)
clamp_kept Int16 n h = grind (arith, nat_tests, ints)
clamp_kept UInt32 n h = grind (arith, nat_tests, ints)
clamp_kept Int32 n h = grind (arith, nat_tests, ints)
clamp_kept UInt64 n h = grind (arith, nat_tests, ints)
clamp_kept Int64 n h = grind (arith, nat_tests, ints)

-- so is 0
pub clamp_zero : (kind : PixelType) → clamp kind (pos 0) ≡ pos 0
clamp_zero kind = clamp_kept kind (pos 0) (zero_in kind)

-- a number of a type has at most 64 bits and a sign
pub is_near : (kind : PixelType) (n : ℤ) → is_in kind n ≡ true → unsigned_abs n < 2 ^ 64
is_near Byte n h = grind (arith, nat_tests, ints)
is_near Int8 n h = grind (arith, nat_tests, ints)
is_near UInt16 n h = grind (arith, nat_tests, ints)
is_near Int16 n h = grind (arith, nat_tests, ints)
is_near UInt32 n h = grind (arith, nat_tests, ints)
is_near Int32 n h = grind (arith, nat_tests, ints)
is_near UInt64 n h = grind (arith, nat_tests, ints)
is_near Int64 n h = grind (arith, nat_tests, ints)

-- and fits 128 bits
pub fits : (kind : PixelType) (n : ℤ) → is_in kind n ≡ true → SFits w128 n
fits kind n h = small n (is_near kind n h)
  where
    small : (n : ℤ) → unsigned_abs n < 2 ^ 64 → SFits w128 n
    small (pos n) h = record { sfits = grind (arith, nat_tests, ints) }
    small (negsuc n) h = record { sfits = grind (arith, nat_tests, ints) }
