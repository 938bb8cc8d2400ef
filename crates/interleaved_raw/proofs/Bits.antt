-- The bits of a sample stand for it again.
use Rattle.std.proofs.Common.{◌≡◌, ℤ, ◌<◌, ◌^◌, true, arith, pos, negsuc}
use Rattle.std.proofs.lemmas.Int.{ints}
use Rattle.std.proofs.lemmas.Bool.Decides.{nat_tests}
use Rattle.geotransform.specs.declared.types.PixelType.{PixelType}
use Rattle.geotransform.specs.declared.types.PixelType.TheVariants.{Byte, Int8, UInt16, Int16, UInt32, Int32, UInt64, Int64}
use Rattle.geotransform.specs.Types.{is_in}
use Rattle.esri_hdr.specs.Head.{sample_len}
use Rattle.interleaved_raw.specs.Raw.{value_of, bits_of}

pub bits_fit : (kind : PixelType) (n : ℤ) → is_in kind n ≡ true → bits_of kind n < 256 ^ sample_len kind
bits_fit Byte (pos n) h = grind (arith, nat_tests, ints)
bits_fit Byte (negsuc n) h = grind (arith, nat_tests, ints)
bits_fit Int8 (pos n) h = grind (arith, nat_tests, ints)
bits_fit Int8 (negsuc n) h = grind (arith, nat_tests, ints)
bits_fit UInt16 (pos n) h = grind (arith, nat_tests, ints)
bits_fit UInt16 (negsuc n) h = grind (arith, nat_tests, ints)
bits_fit Int16 (pos n) h = grind (arith, nat_tests, ints)
bits_fit Int16 (negsuc n) h = grind (arith, nat_tests, ints)
bits_fit UInt32 (pos n) h = grind (arith, nat_tests, ints)
bits_fit UInt32 (negsuc n) h = grind (arith, nat_tests, ints)
bits_fit Int32 (pos n) h = grind (arith, nat_tests, ints)
bits_fit Int32 (negsuc n) h = grind (arith, nat_tests, ints)
bits_fit UInt64 (pos n) h = grind (arith, nat_tests, ints)
bits_fit UInt64 (negsuc n) h = grind (arith, nat_tests, ints)
bits_fit Int64 (pos n) h = grind (arith, nat_tests, ints)
bits_fit Int64 (negsuc n) h = grind (arith, nat_tests, ints)

pub value_again : (kind : PixelType) (n : ℤ) → is_in kind n ≡ true → value_of kind (bits_of kind n) ≡ n
value_again Byte (pos n) h = grind (arith, nat_tests, ints)
value_again Byte (negsuc n) h = grind (arith, nat_tests, ints)
value_again Int8 (pos n) h = grind (arith, nat_tests, ints)
value_again Int8 (negsuc n) h = grind (arith, nat_tests, ints)
value_again UInt16 (pos n) h = grind (arith, nat_tests, ints)
value_again UInt16 (negsuc n) h = grind (arith, nat_tests, ints)
value_again Int16 (pos n) h = grind (arith, nat_tests, ints)
value_again Int16 (negsuc n) h = grind (arith, nat_tests, ints)
value_again UInt32 (pos n) h = grind (arith, nat_tests, ints)
value_again UInt32 (negsuc n) h = grind (arith, nat_tests, ints)
value_again Int32 (pos n) h = grind (arith, nat_tests, ints)
value_again Int32 (negsuc n) h = grind (arith, nat_tests, ints)
value_again UInt64 (pos n) h = grind (arith, nat_tests, ints)
value_again UInt64 (negsuc n) h = grind (arith, nat_tests, ints)
value_again Int64 (pos n) h = grind (arith, nat_tests, ints)
value_again Int64 (negsuc n) h = grind (arith, nat_tests, ints)
