-- Whether some item of a list passes a test.
use Rattle.std.proofs.Common.{◌≡◌, ◌∙◌, ℕ, ◌<◌, Bool, true, false, List, Some, ap, inl, inr, length, arith}
use Rattle.std.specs.Prelude.{slice_get}
use Rattle.std.specs.List.{list_any}
use Rattle.std.proofs.lemmas.List.Folds.{list_any_at, list_any_none}
use Rattle.std.proofs.lemmas.Option.{slice_get-get_or, slice_get_cases}

module _ {X : Type 0} (p : X → Bool) (xs : List X) where
  -- one that passes settles it
  pub any_found : (i : ℕ) → i < length xs → ((x : X) → slice_get xs i ≡ Some x → p x ≡ true) → list_any p xs ≡ true
  any_found i less h = elim (slice_get_cases xs i).1 [
    | inl a ↦ list_any_at p xs i a.0 less (ap p a.3 ∙ h a.0 a.2)
    | inr b ↦ absurd (omega (arith, less, b.0))
  ]

  -- none passes
  pub any_missed : ((i : ℕ) (x : X) → i < length xs → slice_get xs i ≡ Some x → p x ≡ false) → list_any p xs ≡ false
  any_missed h = list_any_none p xs (λ i d less. h i _ less (slice_get-get_or xs i d less))
