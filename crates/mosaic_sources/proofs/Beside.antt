-- Parts of a mosaic beside a rectangle.
use Rattle.std.proofs.Common.{◌≡◌, ℕ, ℤ, ◌+ℤ◌, ◌<ℤ◌, ◌≤ℤ◌, Bool, true, false, ◌&&◌, ap, ◌∙◌, refl, Option, Some, None, cond, int_le, int_lt}
use Rattle.lists_and_answers.specs.Options.{◌>>=◌}
use Rattle.geotransform.specs.declared.types.Size.{Size}
use Rattle.geotransform.specs.Pixels.{within}
use Rattle.vrt_profile.specs.Values.{SourceValue, Rectangle}
use Rattle.vrt_profile.specs.Cover.{centre, dataset_at, axis_at, columns_by, lines_by, columns_of, lines_of, part_of, cover_of}
use Rattle.mosaic_sources.proofs.Tables.{false_at_most, false_below}

and_none : (b : Bool) → (b && false) ≡ false
and_none true = refl
and_none false = refl

pub before_part : (start end p : ℤ) → p <ℤ start → (int_le start p && int_lt p end) ≡ false
before_part start end p h = ap (λ b. b && int_lt p end) (false_at_most start p h)

pub behind_part : (start end p : ℤ) → end ≤ℤ p → (int_le start p && int_lt p end) ≡ false
behind_part start end p h = ap (λ b. int_le start p && b) (false_below p end h) ∙ and_none (int_le start p)

abbrev no_place : Option (ℕ × ℕ)
no_place = None

nothing : (o : Option ℕ) → (o >>= λ x. no_place) ≡ no_place
nothing (Some x) = refl
nothing None = refl

module _ (s : SourceValue) (part : Rectangle) (is : s.dst ≡ Some part) (mosaic size : Size) (x y : ℕ) where
  part_is : part_of s.dst mosaic ≡ part
  part_is = ap (λ o. part_of o mosaic) is

  pub no_column : (int_le part.x (centre x) && int_lt (centre x) (part.x +ℤ part.w)) ≡ false → cover_of s mosaic size x y ≡ None
  unfolding cover_of
  no_column h =
      ap (λ (r : Rectangle). axis_at (columns_by r (part_of s.src size)) size.w x >>= λ column. axis_at (lines_of s mosaic size) size.h y >>= λ line. Some (column, line)) part_is
      ∙ ap (λ b. (cond b (within size.w (dataset_at (columns_by part (part_of s.src size)) (centre x))) None) >>= λ column. axis_at (lines_of s mosaic size) size.h y >>= λ line. Some (column, line)) h

  pub no_line : (int_le part.y (centre y) && int_lt (centre y) (part.y +ℤ part.h)) ≡ false → cover_of s mosaic size x y ≡ None
  unfolding cover_of
  no_line h =
      ap (λ (r : Rectangle). axis_at (columns_of s mosaic size) size.w x >>= λ column. axis_at (lines_by r (part_of s.src size)) size.h y >>= λ line. Some (column, line)) part_is
      ∙ ap (λ b. axis_at (columns_of s mosaic size) size.w x >>= λ column. (cond b (within size.h (dataset_at (lines_by part (part_of s.src size)) (centre y))) None) >>= λ line. Some (column, line)) h
      ∙ nothing (axis_at (columns_of s mosaic size) size.w x)
