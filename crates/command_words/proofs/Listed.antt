-- Numbers of a list.
use Rattle.std.proofs.Common.{◌≡◌, ◌∙◌, ap, sym, ℕ, ◌+◌, ◌<◌, ◌≤◌, List, [], ◌∷◌, ◌++◌, length, take, get_or}
use Rattle.std.specs.Prelude.{All}
use Rattle.std.proofs.lemmas.List.{take_more}
use Rattle.std.proofs.lemmas.List.Elements.{All-nil, All-cons, All-append}

abbrev pub IsBand : ℕ → Type 0
IsBand band = (0 < band) × (band ≤ 256)

-- one number more of a list of bands
pub numbers_more : (bands numbers : List ℕ) (i n d : ℕ) → i < length bands → n ≡ get_or bands i d → IsBand n → numbers ≡ take i bands → All IsBand numbers → (numbers ++ n ∷ [] ≡ take (i + 1) bands) × All IsBand (numbers ++ n ∷ [])
numbers_more bands numbers i n d less is one same all = (
  ap (λ (xs : List ℕ). xs ++ n ∷ []) same ∙ ap (λ (k : ℕ). take i bands ++ k ∷ []) is ∙ sym (take_more bands i d less),
  All-append IsBand numbers (n ∷ []) all (All-cons IsBand n [] one (All-nil IsBand)),
)
