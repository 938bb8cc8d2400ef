-- Two keys are the same exactly where they are equal.
use Rattle.std.proofs.Common.{◌≡◌, ℕ, true, ap, ◌∙◌, arith}
use Rattle.std.specs.Cmp.{IsEquivalence}
use Rattle.std.proofs.lemmas.Bool.Decides.{nat_tests}
use Rattle.band_blocks.specs.declared.key.BlockKey.{BlockKey}
use Rattle.band_blocks.specs.Keys.{same_key}

abbrev key_of : ℕ → ℕ → ℕ → BlockKey
key_of f g i = record { dataset = f; band = g; block = i }

parts_same : (a b : BlockKey) → a.dataset ≡ b.dataset → a.band ≡ b.band → a.block ≡ b.block → a ≡ b
parts_same a b p q r = ap (λ f. key_of f a.band a.block) p ∙ ap (λ g. key_of b.dataset g a.block) q ∙ ap (key_of b.dataset b.band) r

pub key_is : (a b : BlockKey) → same_key a b ≡ true → a ≡ b
key_is a b h =
    let f : a.dataset ≡ b.dataset = grind (arith, nat_tests) in
    let g : a.band ≡ b.band = grind (arith, nat_tests) in
    let i : a.block ≡ b.block = grind (arith, nat_tests) in
    parts_same a b f g i

pub key_refl : (a : BlockKey) → same_key a a ≡ true
key_refl a = grind (arith, nat_tests)

key_symm : (a b : BlockKey) → same_key a b ≡ same_key b a
key_symm a b = grind (arith, nat_tests)

pub key_laws : IsEquivalence same_key
key_laws = record { refl = key_refl; symm = key_symm; congr = λ a b c h. ap (λ x. same_key x c) (key_is a b h) }
