-- Sources that aren't in a line's list may be skipped.
use Rattle.std.proofs.Common.{◌≡◌, ℕ, zero, suc, ℤ, ◌+◌, ◌-◌, ◌<◌, ◌≤◌, ◌⊎◌, List, ◌∷◌, length, drop, get_or, Option, Some, None, refl, ap, ◌∙◌, arith, ⊎_elim, slice_get}
use Rattle.std.specs.List.{Contains}
use Rattle.std.specs.Option.{option_or}
use Rattle.std.proofs.lemmas.List.{drop_more}
use Rattle.std.proofs.lemmas.Option.{slice_get_cases}
use Rattle.lists_and_answers.specs.Options.{◌>>=◌}
use Rattle.geotransform.specs.declared.types.Size.{Size}
use Rattle.vrt_profile.specs.Values.{SourceValue}
use Rattle.vrt_profile.specs.Value.{given_of, last_given, source_value}
use Rattle.mosaic_sources.specs.Rows.{covering_lines}
use Rattle.mosaic_sources.proofs.OfLines.{unlisted_none}

or_nothing : (o : Option ℤ) → option_or o None ≡ o
or_nothing None = refl
or_nothing (Some v) = refl

module _ (sources : List SourceValue) (mosaic : Size) (sizes : SourceValue → Size) (pixels : SourceValue → ℕ → ℕ → ℤ) (x y : ℕ) where
  abbrev given : SourceValue → Option ℤ
  given s = given_of s mosaic (sizes s) (pixels s) x y

  -- what is given from a source on, and from the next one on
  one_skipped : (m : ℕ) → m < length sources → (Contains (covering_lines sources mosaic y) m → ⊥) → last_given given (drop m sources) ≡ last_given given (drop (m + 1) sources)
  one_skipped m less other = ⊎_elim
      (λ (h : (s : SourceValue) × (m < length sources) × (slice_get sources m ≡ Some s) × (get_or sources m s ≡ s)).
      let s = h.0 in
      let rest = drop (m + 1) sources in
      let here : drop m sources ≡ s ∷ rest = drop_more sources m s less ∙ ap (λ (t : SourceValue). t ∷ rest) h.3 in
      let nothing : given s ≡ None = ap (λ o. o >>= λ place. source_value s (pixels s place.0 place.1)) (unlisted_none sources s m mosaic (sizes s) x y h.2 other) in
      ap (λ (l : List SourceValue). last_given given l) here
      ∙ ap (λ (o : Option ℤ). option_or (last_given given rest) o) nothing
      ∙ or_nothing (last_given given rest))
      (λ (h : (length sources ≤ m) × (slice_get sources m ≡ None)). absurd (omega (arith, less, h.0)))
      (slice_get_cases sources m).1

  some_skipped : (j from to : ℕ) → from + j ≡ to → to ≤ length sources → ((n : ℕ) → from ≤ n → n < to → Contains (covering_lines sources mosaic y) n → ⊥) → last_given given (drop from sources) ≡ last_given given (drop to sources)
  some_skipped zero from to e within other =
      let same : from ≡ to = omega (arith, e) in
      ap (λ (k : ℕ). last_given given (drop k sources)) same
  some_skipped (suc j) from to e within other =
      one_skipped from (omega (arith, e, within)) (other from (omega arith) (omega (arith, e)))
      ∙ some_skipped j (from + 1) to (omega (arith, e)) within (λ n low high. other n (omega (arith, low)) high)

pub skipped : (sources : List SourceValue) → (from : ℕ) → (to : ℕ) → (mosaic : Size) → (sizes : SourceValue → Size) → (pixels : SourceValue → ℕ → ℕ → ℤ) → (x : ℕ) → (y : ℕ) → from ≤ to → to ≤ length sources → ((n : ℕ) → from ≤ n → n < to → Contains (covering_lines sources mosaic y) n → ⊥)
    → last_given (λ s. given_of s mosaic (sizes s) (pixels s) x y) (drop from sources) ≡ last_given (λ s. given_of s mosaic (sizes s) (pixels s) x y) (drop to sources)
skipped sources from to mosaic sizes pixels x y order within other = some_skipped sources mosaic sizes pixels x y (to - from) from to (omega (arith, order)) within other
