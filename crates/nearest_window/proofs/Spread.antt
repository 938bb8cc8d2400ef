-- Columns that are painted from blocks that are one column wide.
use Rattle.std.proofs.Common.{◌≡◌, ℕ, ◌+◌, ◌-◌, ◌*◌, ◌/◌, ◌%◌, ◌<◌, ◌≤◌, ℤ, pos, List, Option, Some, None, sym, ap, ◌∙◌, subst, arith, length, get_or, inl, inr}
use Rattle.std.specs.Option.{unwrap_or}
use Rattle.std.proofs.Math.Nat.{mul-le-mul}
use Rattle.std.proofs.lemmas.Bool.{cases_lt}
use Rattle.std.proofs.lemmas.Nat.{mod-mul-add, div-add-mod', mod_below}
use Rattle.geotransform.specs.declared.types.Rect.{Rect}
use Rattle.band_blocks.specs.Blocks.{BlockView}
use Rattle.band_blocks.specs.Spread.{IsBeside, IsSpread}
use Rattle.nearest_window.specs.declared.picture.Picture.{Picture}
use Rattle.nearest_window.specs.declared.picture_places.Places.TheVariants.{Row}
use Rattle.nearest_window.specs.declared.taking.Taking.TheVariants.{All}
use Rattle.nearest_window.specs.Painted.{IsPainted, in_columns}
use Rattle.nearest_window.specs.Pictures.{from_block}
use Rattle.nearest_window.specs.Taken.{place_at, taken_by}
use Rattle.nearest_window.proofs.Painted.{in_columns_at, placed_in, placed_before, placed_after}

-- samples that are copied a row of w places apart are a column
module _ (w a n at : ℕ) (f : ℕ → ℕ → Option ℤ) (samples old new : List ℤ) (inside : a < w) (long : length old ≤ n * w)
    (gives : (r : ℕ) → r < n → f 0 r ≡ Some (get_or samples (at + r) (pos 0))) (spread : IsSpread samples at n a w old new) where
  -- the place of another column is none of the column's
  beside : (r j : ℕ) → j < w → (j ≡ a → ⊥) → IsBeside n a w (r * w + j)
  beside r j less other i below same =
      let turned : a + i * w ≡ i * w + a = omega arith in
      other (sym (mod-mul-add r w j less) ∙ ap (λ m. m % w) (same ∙ turned) ∙ mod-mul-add i w a inside)

  stays : (r j : ℕ) → j < w → (j ≡ a → ⊥) → in_columns w a (a + 1) f (r * w + j) ≡ None → get_or new (r * w + j) (pos 0) ≡ unwrap_or (in_columns w a (a + 1) f (r * w + j)) (get_or old (r * w + j) (pos 0))
  stays r j less other none = spread.others (r * w + j) (beside r j less other) ∙ ap (λ o. unwrap_or o (get_or old (r * w + j) (pos 0))) (sym none)

  column : (r : ℕ) → r < n → get_or new (r * w + a) (pos 0) ≡ unwrap_or (in_columns w a (a + 1) f (r * w + a)) (get_or old (r * w + a) (pos 0))
  column r below =
      let turned : r * w + a ≡ a + r * w = omega arith in
      let none : a - a ≡ 0 = omega arith in
      ap (λ m. get_or new m (pos 0)) turned ∙ spread.each r below
      ∙ ap (λ o. unwrap_or o (get_or old (r * w + a) (pos 0)))
      (sym (in_columns_at w a (a + 1) f r a inside ∙ placed_in a (a + 1) (λ c. f c r) a (omega arith) (omega arith) ∙ ap (λ c. f c r) none ∙ gives r below))

  place : (r j : ℕ) → j < w → r < n → get_or new (r * w + j) (pos 0) ≡ unwrap_or (in_columns w a (a + 1) f (r * w + j)) (get_or old (r * w + j) (pos 0))
  place r j less below = elim (cases_lt j a) [
    | inl b ↦ stays r j less (λ z. absurd (omega arith)) (in_columns_at w a (a + 1) f r j less ∙ placed_before a (a + 1) (λ c. f c r) j b)
    | inr b ↦ elim (cases_lt a j) [
      | inl c ↦ stays r j less (λ z. absurd (omega arith)) (in_columns_at w a (a + 1) f r j less ∙ placed_after a (a + 1) (λ c. f c r) j (omega arith))
      | inr c ↦
          let same : j ≡ a = omega arith in
          subst (λ i. get_or new (r * w + i) (pos 0) ≡ unwrap_or (in_columns w a (a + 1) f (r * w + i)) (get_or old (r * w + i) (pos 0))) (sym same) (column r below)
    ]
  ]

  row_below : (k : ℕ) → k < length old → k / w < n
  row_below k less = elim (cases_lt (k / w) n) [
    | inl b ↦ b
    | inr b ↦
        let most : n * w ≤ k / w * w = mul-le-mul b (omega arith) in
        let split = div-add-mod' k w in
        absurd (omega arith)
  ]

  pub column_painted : IsPainted (in_columns w a (a + 1) f) old new
  column_painted = record {
    size = spread.size;
    each = λ k less.
        subst (λ m. get_or new m (pos 0) ≡ unwrap_or (in_columns w a (a + 1) f m) (get_or old m (pos 0))) (div-add-mod' k w)
        (place (k / w) (k % w) (mod_below k w (omega arith)) (row_below k less));
  }

-- what a picture takes from a block that is one column wide
pub from_column : (block : BlockView) (rect : Rect) (p : Picture) (column line top r : ℕ) → p.taking ≡ All → p.lines ≡ Row top → rect.w ≡ 1
    → rect.x ≤ place_at p.columns (column + 0) → place_at p.columns (column + 0) < rect.x + rect.w → rect.y ≤ top + line
    → from_block block rect p column line 0 r ≡ Some (get_or block.samples (top + line - rect.y + r) (pos 0))
from_column block rect p column line top r all row one low high below =
    ap (λ t. taken_by t (get_or block.samples ((place_at p.lines (line + r) - rect.y) * rect.w + (place_at p.columns (column + 0) - rect.x)) (pos 0))) all
    ∙ ap (λ n. Some (get_or block.samples n (pos 0))) at
  where
    at : (place_at p.lines (line + r) - rect.y) * rect.w + (place_at p.columns (column + 0) - rect.x) ≡ top + line - rect.y + r
    at =
        let wide : (top + (line + r) - rect.y) * rect.w ≡ (top + (line + r) - rect.y) * 1 = ap (λ n. (top + (line + r) - rect.y) * n) one in
        ap (λ q. (place_at q (line + r) - rect.y) * rect.w + (place_at p.columns (column + 0) - rect.x)) row ∙ omega arith
