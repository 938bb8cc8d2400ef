-- Sources that aren't wanted may be skipped.
use Rattle.std.proofs.Common.{◌≡◌, ◌⊎◌, ℕ, ◌+◌, ◌-◌, ◌<◌, ◌≤◌, List, length, Option, true, false, cond, sym, ap, ◌∙◌, subst, arith, ⊎_elim, nat_lt, slice_index, option_map, inr, ◌*◌}
use Rattle.std.specs.Prelude.{is_some}
use Rattle.std.specs.List.{Contains}
use Rattle.std.proofs.lemmas.Bool.Decides.{nat_tests}
use Rattle.std.proofs.lemmas.Bool.{cases_lt}
use Rattle.std.proofs.lemmas.List.{get_or_default}
use Rattle.std.proofs.lemmas.List.Kept.{AllPairs-from_increasing}
use Rattle.geotransform.specs.Types.{clamp}
use Rattle.outside.specs.Outside.{Files}
use Rattle.vrt_profile.specs.Values.{SourceValue}
use Rattle.catalog.specs.Drivers.{Dataset}
use Rattle.catalog.specs.Pixels.{member_size, member_pixel}
use Rattle.mosaic_sources.proofs.Skipped.{skipped}
use Rattle.nearest_window.specs.declared.canvas.Canvas.{Canvas}
use Rattle.nearest_window.specs.Canvases.{AreTaken, stands}
use Rattle.nearest_window.specs.Wanted.{IsWanted, bound}
use Rattle.nearest_window.proofs.Sources.{all_taken}

less_true : (a b : ℕ) → a < b → nat_lt a b ≡ true
less_true a b h = grind (arith, nat_tests)

less_false : (a b : ℕ) → b ≤ a → nat_lt a b ≡ false
less_false a b h = grind (arith, nat_tests)

-- the number at a place, and the end
pub bound_here : (numbers : List ℕ) (k : ℕ) (sources : List SourceValue) → k < length numbers → bound numbers k sources ≡ slice_index numbers k
bound_here numbers k sources less = ap (λ t. cond t (slice_index numbers k) (length sources)) (less_true k (length numbers) less)

pub bound_behind : (numbers : List ℕ) (k : ℕ) (sources : List SourceValue) → length numbers ≤ k → bound numbers k sources ≡ length sources
bound_behind numbers k sources end = ap (λ t. cond t (slice_index numbers k) (length sources)) (less_false k (length numbers) end)

module _ (told : Option Files) (cat : List Dataset) (d : Dataset) (sources : List SourceValue) (numbers : List ℕ) (c : Canvas) where
  -- behind the last wanted number: behind the last source
  pub taken_end : AreTaken told cat d (length sources) sources c → AreTaken told cat d (bound numbers (length numbers) sources) sources c
  taken_end taken = subst (λ (n : ℕ). AreTaken told cat d n sources c) (sym (bound_behind numbers (length numbers) sources (omega arith))) taken

  -- from the number at a place on
  pub taken_here : (k : ℕ) → k < length numbers → AreTaken told cat d (slice_index numbers k) sources c → AreTaken told cat d (bound numbers k sources) sources c
  taken_here k less taken = subst (λ (n : ℕ). AreTaken told cat d n sources c) (sym (bound_here numbers k sources less)) taken

module _ (told : Option Files) (cat : List Dataset) (d : Dataset) (sources : List SourceValue) (numbers : List ℕ) (c : Canvas) (wanted : IsWanted sources d.head.size c.rect numbers) where
  -- where no number from one on up to another is wanted
  taken_before : (from to : ℕ) → from ≤ to → to ≤ length sources → ((n : ℕ) → from ≤ n → n < to → Contains numbers n → ⊥) → AreTaken told cat d to sources c → AreTaken told cat d from sources c
  taken_before from to order within none taken m e x y at =
      taken m e x y at
      ∙ ap (option_map (clamp c.kind)) (sym (skipped sources from to d.head.size (member_size cat d) (member_pixel m cat d) x y order within (λ n low high there. none n low high (wanted.listed y (record { top = at.top; bottom = at.bottom }) n there))))

  rising_keeps : (i j : ℕ) → i ≤ j → j < length numbers → slice_index numbers i ≤ slice_index numbers j
  rising_keeps i j order less = ⊎_elim
      (λ (l : i < j). let e = AllPairs-from_increasing numbers wanted.rising i j 0 l less in omega (arith, e))
      (λ (l : j ≤ i). let e : i ≡ j = omega (arith, order, l) in let f : slice_index numbers i ≡ slice_index numbers j = ap (λ (k : ℕ). slice_index numbers k) e in omega (arith, f))
      (cases_lt i j)

  -- the place of a wanted number
  number_stands : (n : ℕ) → Contains numbers n → (k : ℕ) × (k < length numbers) × (slice_index numbers k ≡ n)
  number_stands n there = (there.0, there.1, get_or_default numbers there.0 0 n there.1 ∙ there.2)

  bound_within : (k : ℕ) → bound numbers k sources ≤ length sources
  bound_within k = ⊎_elim
      (λ (l : k < length numbers). let e = wanted.below k 0 l in omega (arith, e, bound_here numbers k sources l))
      (λ (l : length numbers ≤ k). omega (arith, bound_behind numbers k sources l))
      (cases_lt k (length numbers))

  -- a wanted number from a place on isn't before the place's number
  bound_le : (k j : ℕ) → k ≤ j → j < length numbers → bound numbers k sources ≤ slice_index numbers j
  bound_le k j order less = omega (arith, bound_here numbers k sources (omega (arith, order, less)), rising_keeps k j order less)

  below_bound : (k j : ℕ) → k < j → j ≤ length numbers → slice_index numbers k + 1 ≤ bound numbers j sources
  below_bound k j order end = ⊎_elim
      (λ (l : j < length numbers). let e = AllPairs-from_increasing numbers wanted.rising k j 0 order l in omega (arith, e, bound_here numbers j sources l))
      (λ (l : length numbers ≤ j). let e = wanted.below k 0 (omega (arith, order, end)) in omega (arith, e, bound_behind numbers j sources l))
      (cases_lt j (length numbers))

  -- from a place's number on: also from behind the number before it
  pub taken_behind : (left : ℕ) → 0 < left → left ≤ length numbers → AreTaken told cat d (bound numbers left sources) sources c → AreTaken told cat d (slice_index numbers (left - 1) + 1) sources c
  taken_behind left some end taken =
      taken_before (slice_index numbers (left - 1) + 1) (bound numbers left sources) (below_bound (left - 1) left (omega (arith, some)) end) (bound_within left)
      (λ n low high there.
      let p = number_stands n there in
      ⊎_elim
      (λ (l : p.0 < left). let e = rising_keeps p.0 (left - 1) (omega (arith, l)) (omega (arith, some, end)) in absurd (omega (arith, e, low, p.2)))
      (λ (l : left ≤ p.0). let e = bound_le left p.0 l p.1 in absurd (omega (arith, e, high, p.2)))
      (cases_lt p.0 left))
      taken

  -- from the first wanted number on: from the first source on
  pub taken_first : AreTaken told cat d (bound numbers 0 sources) sources c → AreTaken told cat d 0 sources c
  taken_first taken =
      taken_before 0 (bound numbers 0 sources) (omega arith) (bound_within 0)
      (λ n low high there. let p = number_stands n there in let e = bound_le 0 p.0 (omega arith) p.1 in absurd (omega (arith, e, high, p.2)))
      taken

  -- where no number is left, or nothing is open, all sources are taken
  pub taken_done : (left : ℕ) → AreTaken told cat d (bound numbers left sources) sources c → (left ≡ 0) ⊎ ((k : ℕ) → k < c.rect.w * c.rect.h → is_some (stands c.samples.items k) ≡ true) → AreTaken told cat d 0 sources c
  taken_done left taken done = ⊎_elim
      (λ (none : left ≡ 0). taken_first (subst (λ (n : ℕ). AreTaken told cat d (bound numbers n sources) sources c) none taken))
      (λ (filled : (k : ℕ) → k < c.rect.w * c.rect.h → is_some (stands c.samples.items k) ≡ true). all_taken told cat d (bound numbers left sources) sources c taken (inr filled))
      done
