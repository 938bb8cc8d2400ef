-- What is told of the samples of a raster that aren't NODATA.
use Rattle.std.specs.Prelude.{ℕ, ℤ, pos, ◌+ℤ◌, ◌≤◌, ◌*◌, ◌^◌, not, List, [], ◌∷◌, length, codes, unsigned_abs}
use Rattle.std.specs.List.{filter, fold}
use Rattle.std.specs.Int.{int_min, int_max}
use Rattle.std.specs.Ordering.{int_eq}
use Rattle.std.specs.Fmt.{decimal, signed_decimal}
use Rattle.geotransform.specs.declared.types.Size.{Size}
use Rattle.lists_and_answers.specs.Texts.{text}
use Rattle.synthetic_rasters.specs.Tiles.{nodata}
use Rattle.geotransform.specs.Limits.{most_side}

-- how many values there are, their sum, the least and the greatest of them
pub record Totals : Type 0 where
  pub count : ℕ
  pub sum : ℤ
  pub least : ℤ
  pub greatest : ℤ

-- the values: the samples that aren't NODATA
abbrev pub values_of : List ℤ → List ℤ
values_of samples = filter (λ n. not (int_eq n nodata)) samples

abbrev pub sum_of : List ℤ → ℤ
sum_of values = fold (λ a n. a +ℤ n) (pos 0) values

-- the least and the greatest of values; 0 where there is none, as in a raster of NODATA alone
abbrev pub least_of : List ℤ → ℤ
least_of [] = pos 0
least_of (n ∷ values) = fold int_min n values

abbrev pub greatest_of : List ℤ → ℤ
greatest_of [] = pos 0
greatest_of (n ∷ values) = fold int_max n values

-- what is told of values, and of samples
abbrev pub totals_of : List ℤ → Totals
totals_of values = record {
  count = length values;
  sum = sum_of values;
  least = least_of values;
  greatest = greatest_of values;
}

unfoldable pub tally_of : List ℤ → Totals
tally_of samples = totals_of (values_of samples)

-- the pixels of the greatest raster
abbrev pub most_pixels : ℕ
most_pixels = most_side * most_side

-- the limits of what is told of samples of the types of bands
pub record IsTally (t : Totals) : Type 0 where
  pub few : t.count ≤ most_pixels
  pub near : unsigned_abs t.sum ≤ 2 ^ 64 * t.count

-- five lines on a raster of this size
unfoldable pub tally_text : Size → Totals → List ℕ
tally_text size t = text (codes "Size: " ∷ decimal size.w ∷ codes " x " ∷ decimal size.h
    ∷ codes "\nValues: " ∷ decimal t.count
    ∷ codes "\nSum: " ∷ signed_decimal t.sum
    ∷ codes "\nLeast: " ∷ signed_decimal t.least
    ∷ codes "\nGreatest: " ∷ signed_decimal t.greatest
    ∷ codes "\n" ∷ [])
