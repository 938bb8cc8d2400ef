-- Numbers of few digits.
use Rattle.std.proofs.Common.{◌≡◌, ◌<◌, ◌≤◌, ◌^◌, ℕ, Bool, true, false, List, length, Some, None, refl, arith}
use Rattle.std.specs.Prelude.{◌&&◌, if◌then◌else◌}
use Rattle.std.specs.Char.{is_ascii_digit}
use Rattle.std.specs.List.{list_all}
use Rattle.geotransform.specs.Decimal.{number, number_of}
use Rattle.geotransform.proofs.Numbers.{number_short}

few : (word : List ℕ) (n : ℕ) (some short digits : Bool) → list_all is_ascii_digit word ≡ digits → length word ≤ 9 → (if some && (short && digits) then Some (number word) else None) ≡ Some n → n < 10 ^ 9
few word n true true true all short is = let same : number word ≡ n = cc in let less = number_short word 9 all short in omega arith
few word n true true false all short is = cc
few word n true false digits all short is = cc
few word n false short digits all less is = cc

-- the number of at most nine digits
pub short_below : (word : List ℕ) (n : ℕ) → length word ≤ 9 → number_of word ≡ Some n → n < 10 ^ 9
short_below word n short is = few word n _ _ _ refl short is
