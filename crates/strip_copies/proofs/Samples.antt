-- The samples of an output, by those of the source.
use Rattle.std.proofs.Common.{◌≡◌, ℕ, ℤ, ◌+◌, ◌<◌, ◌≤◌, Bool, true, false, List, length, refl, ap, sym, ◌∙◌, subst, arith, pos, negsuc, Option, Some, None, get_or}
use Rattle.std.specs.Prelude.{slice_get, nat_lt, unsigned_abs, if◌then◌else◌}
use Rattle.std.specs.Option.{unwrap_or}
use Rattle.std.proofs.lemmas.Int.{ints}
use Rattle.std.proofs.lemmas.Bool.Decides.{nat_tests}
use Rattle.std.proofs.lemmas.Option.{slice_get-get_or, slice_get_past}
use Rattle.geotransform.specs.declared.types.Size.{Size}
use Rattle.geotransform.specs.Pixels.{within}
use Rattle.outside.specs.Outside.{Files}
use Rattle.catalog.specs.Pixels.{pixel_of_name}
use Rattle.translate_plan.specs.declared.band.OutBand.{OutBand}
use Rattle.translate_plan.specs.Plan.{Planned, held, is_in_raster, pixel_in, out_pixel, shown_column, shown_line}
use Rattle.strip_copies.specs.declared.columns.Columns.{Columns}
use Rattle.strip_copies.specs.declared.holding.Holding.{Holding}
use Rattle.strip_copies.specs.Rows.{made_found, made_of, nearest, IsHolding, IsSample}
use Rattle.strip_copies.specs.Columns.{held_to, column_at, AreColumns}

-- a number held to a side is within it
pub held_within : (side : ℕ) (a : ℤ) → held_to side a ≤ side
held_within side (pos n) = omega arith
held_within side (negsuc n) = omega arith

inside_by : (source : Size) (a b : ℤ) (x y : ℕ) → within source.w a ≡ Some x → within source.h b ≡ Some y → is_in_raster source a b ≡ true
inside_by source (pos n) (pos m) x y e f = grind (arith, nat_tests, ints)
inside_by source (pos n) (negsuc m) x y e f = absurd (cc)
inside_by source (negsuc n) b x y e f = absurd (cc)

outside_column : (source : Size) (a b : ℤ) → within source.w a ≡ None → is_in_raster source a b ≡ false
outside_column source (pos n) b e = grind (arith, nat_tests, ints)
outside_column source (negsuc n) b e = refl

outside_line : (source : Size) (a b : ℤ) → within source.h b ≡ None → is_in_raster source a b ≡ false
outside_line source a (pos n) e = grind (arith, nat_tests, ints)
outside_line source a (negsuc n) e = grind (arith, nat_tests, ints)

magnitude : (side : ℕ) (a : ℤ) (x : ℕ) → within side a ≡ Some x → unsigned_abs a ≡ x
magnitude side (pos n) x e = grind (arith, nat_tests)
magnitude side (negsuc n) x e = absurd (cc)

module _ (p : Planned) (source : Size) (pixels : ℕ → ℕ → ℕ → ℤ) (k i j : ℕ) (b : OutBand) (at : slice_get p.bands k ≡ Some b) where
  -- a pixel inside
  pub seen_inside : (x y : ℕ) → within source.w (shown_column p i) ≡ Some x → within source.h (shown_line p j) ≡ Some y → out_pixel p source pixels k i j ≡ held p.driver b.kind (pixels b.source x y)
  seen_inside x y e f =
      ap (λ m. pixel_in p source pixels m i j) at
      ∙ ap (λ t. if t then held p.driver b.kind (pixels b.source (unsigned_abs (shown_column p i)) (unsigned_abs (shown_line p j))) else unwrap_or b.nodata (pos 0)) (inside_by source (shown_column p i) (shown_line p j) x y e f)
      ∙ ap (λ n. held p.driver b.kind (pixels b.source n (unsigned_abs (shown_line p j)))) (magnitude source.w (shown_column p i) x e)
      ∙ ap (λ n. held p.driver b.kind (pixels b.source x n)) (magnitude source.h (shown_line p j) y f)

  outside : is_in_raster source (shown_column p i) (shown_line p j) ≡ false → out_pixel p source pixels k i j ≡ unwrap_or b.nodata (pos 0)
  outside e =
      ap (λ m. pixel_in p source pixels m i j) at
      ∙ ap (λ t. if t then held p.driver b.kind (pixels b.source (unsigned_abs (shown_column p i)) (unsigned_abs (shown_line p j))) else unwrap_or b.nodata (pos 0)) e

  -- a pixel in a column that isn't there, and in a line that isn't
  pub beside : within source.w (shown_column p i) ≡ None → out_pixel p source pixels k i j ≡ unwrap_or b.nodata (pos 0)
  beside e = outside (outside_column source (shown_column p i) (shown_line p j) e)

  pub above : within source.h (shown_line p j) ≡ None → out_pixel p source pixels k i j ≡ unwrap_or b.nodata (pos 0)
  above e = outside (outside_line source (shown_column p i) (shown_line p j) e)

-- what stands outside the raster
pub fill_sample : (told : Option Files) (name : List ℕ) (p : Planned) (source : Size) (k i j : ℕ) (h : Holding) → IsHolding p k h → within source.h (shown_line p j) ≡ None → IsSample told name p source k i j h.fill
fill_sample told name p source k i j h holding e = record {
  pixels = λ b x y. pos 0;
  shows = holding.fill ∙ sym (above p source (λ b x y. pos 0) k i j holding.band holding.at e);
  named = λ m t. holding.fill ∙ sym (above p source (pixel_of_name m name) k i j holding.band holding.at e);
}

beside_sample : (told : Option Files) (name : List ℕ) (p : Planned) (source : Size) (k i j : ℕ) (h : Holding) → IsHolding p k h → within source.w (shown_column p i) ≡ None → IsSample told name p source k i j h.fill
beside_sample told name p source k i j h holding e = record {
  pixels = λ b x y. pos 0;
  shows = holding.fill ∙ sym (beside p source (λ b x y. pos 0) k i j holding.band holding.at e);
  named = λ m t. holding.fill ∙ sym (beside p source (pixel_of_name m name) k i j holding.band holding.at e);
}

-- a sample that a band makes of a pixel of the source
pub held_sample : (told : Option Files) (name : List ℕ) (p : Planned) (source : Size) (k i j x y : ℕ) (h : Holding) (holding : IsHolding p k h) (v : ℤ) → within source.w (shown_column p i) ≡ Some x → within source.h (shown_line p j) ≡ Some y
    → ((m : Files) → told ≡ Some m → v ≡ pixel_of_name m name holding.band.source x y) → IsSample told name p source k i j (nearest h.least h.most v)
held_sample told name p source k i j x y h holding v e f is = record {
  pixels = λ b x y. v;
  shows = holding.held v ∙ sym (seen_inside p source (λ b x y. v) k i j holding.band holding.at x y e f);
  named = λ m t. holding.held v ∙ ap (held p.driver holding.band.kind) (is m t) ∙ sym (seen_inside p source (pixel_of_name m name) k i j holding.band holding.at x y e f);
}

made_by : (told : Option Files) (name : List ℕ) (p : Planned) (source : Size) (k i j y : ℕ) (h : Holding) (holding : IsHolding p k h) (c : Columns) (line : List ℤ) (place : ℕ) (inside : Bool) → nat_lt place c.count ≡ inside → length line ≡ c.count
    → within source.w (shown_column p i) ≡ column_at c.first c.count place → within source.h (shown_line p j) ≡ Some y
    → ((m : Files) → told ≡ Some m → place < c.count → get_or line place (pos 0) ≡ pixel_of_name m name holding.band.source (c.first + place) y) → IsSample told name p source k i j (made_of h line place)
made_by told name p source k i j y h holding c line place true t size column row is =
    let less : place < c.count = grind (arith, nat_tests) in
    let x : within source.w (shown_column p i) ≡ Some (c.first + place) = column ∙ ap (λ t. if t then Some (c.first + place) else None) t in
    let found : slice_get line place ≡ Some (get_or line place (pos 0)) = slice_get-get_or line place (pos 0) (omega arith) in
    subst (λ (o : Option ℤ). IsSample told name p source k i j (made_found h o)) (sym found) (held_sample told name p source k i j (c.first + place) y h holding (get_or line place (pos 0)) x row (λ m e. is m e less))
made_by told name p source k i j y h holding c line place false t size column row is =
    let past : c.count ≤ place = grind (arith, nat_tests) in
    let x : within source.w (shown_column p i) ≡ None = column ∙ ap (λ t. if t then Some (c.first + place) else None) t in
    let found : slice_get line place ≡ None = slice_get_past line place (omega arith) in
    subst (λ (o : Option ℤ). IsSample told name p source k i j (made_found h o)) (sym found) (beside_sample told name p source k i j h holding x)

-- a sample of a row is that of the output
pub made_sample : (told : Option Files) (name : List ℕ) (p : Planned) (source : Size) (k i j y : ℕ) (h : Holding) (holding : IsHolding p k h) (c : Columns) (line : List ℤ) → AreColumns p source.w c → i < p.size.w → length line ≡ c.count → within source.h (shown_line p j) ≡ Some y
    → ((m : Files) (place : ℕ) → told ≡ Some m → place < c.count → get_or line place (pos 0) ≡ pixel_of_name m name holding.band.source (c.first + place) y) → IsSample told name p source k i j (made_of h line (get_or c.places.items i 0))
made_sample told name p source k i j y h holding c line columns less size row is =
    made_by told name p source k i j y h holding c line (get_or c.places.items i 0) (nat_lt (get_or c.places.items i 0) c.count) refl size (columns.each i less) row (λ m e. is m (get_or c.places.items i 0) e)
