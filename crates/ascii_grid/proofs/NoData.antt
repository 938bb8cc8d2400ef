-- What a NODATA says that is a whole number, and one that is none.
use Rattle.std.proofs.Common.{◌≡◌, ℕ, ℤ, true, List, refl, ap, ◌∙◌, cond, Option, Some, None, Ok, Err}
use Rattle.std.specs.Prelude.{◌||◌, codes}
use Rattle.lists_and_answers.specs.Texts.{same_letters}
use Rattle.lists_and_answers.specs.Options.{◌>>=◌}
use Rattle.geotransform.specs.Decimal.{Decimal, parts_of, whole_of, is_decimal, is_some_decimal}
use Rattle.ascii_grid.specs.declared.faults.GridFault.TheVariants.{BadToken}
use Rattle.geotransform.specs.Types.{when_in}
use Rattle.geotransform.specs.declared.types.PixelType.TheVariants.{Int32}
use Rattle.ascii_grid.specs.Values.{nodata_in}
use Rattle.ascii_grid.specs.Scanning.{other_nodata}

some_parts : (o : Option Decimal) (f : Decimal → Option ℤ) (n : ℤ) → (o >>= f) ≡ Some n → is_some_decimal o ≡ true
some_parts None f n h = absurd (cc)
some_parts (Some d) f n h = refl

whole_parts : (text : List ℕ) (n : ℤ) → whole_of text ≡ Some n → is_some_decimal (parts_of text) ≡ true
unfolding whole_of
whole_parts text n h = some_parts (parts_of text) _ n h

decimal_is : (text : List ℕ) → is_decimal text ≡ is_some_decimal (parts_of text)
unfolding is_decimal
decimal_is text = refl

whole_decimal : (text : List ℕ) (n : ℤ) → whole_of text ≡ Some n → is_decimal text ≡ true
whole_decimal text n h = decimal_is text ∙ whole_parts text n h

pub whole_told : (at : ℕ) (text : List ℕ) (n : ℤ) → whole_of text ≡ Some n → nodata_in at text ≡ Ok (when_in Int32 (Some n))
unfolding nodata_in
whole_told at text n h =
    ap (λ b. cond (b || same_letters text (codes "nan")) (Ok (when_in Int32 (whole_of text))) (Err (BadToken at))) (whole_decimal text n h)
    ∙ ap (λ o. Ok (when_in Int32 o)) h

pub other_told : (at : ℕ) (text : List ℕ) → whole_of text ≡ None → nodata_in at text ≡ other_nodata at text
unfolding nodata_in
other_told at text h = ap (λ o. cond (is_decimal text || same_letters text (codes "nan")) (Ok (when_in Int32 o)) (Err (BadToken at))) h
