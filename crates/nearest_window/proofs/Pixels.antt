-- Two keys of pixels are the same exactly where they are equal.
use Rattle.std.proofs.Common.{◌≡◌, ℕ, Bool, ◌&&◌, ◌==◌, true, ap, ◌∙◌, arith}
use Rattle.std.proofs.lemmas.Bool.Decides.{nat_tests}
use Rattle.band_blocks.specs.declared.key.PixelKey.{PixelKey}

abbrev pub same_pixel : PixelKey → PixelKey → Bool
same_pixel a b = (a.dataset == b.dataset) && ((a.band == b.band) && ((a.x == b.x) && (a.y == b.y)))

abbrev key_of : ℕ → ℕ → ℕ → ℕ → PixelKey
key_of f g x y = record { dataset = f; band = g; x = x; y = y }

parts_same : (a b : PixelKey) → a.dataset ≡ b.dataset → a.band ≡ b.band → a.x ≡ b.x → a.y ≡ b.y → a ≡ b
parts_same a b p q r s = ap (λ f. key_of f a.band a.x a.y) p ∙ ap (λ g. key_of b.dataset g a.x a.y) q ∙ ap (λ x. key_of b.dataset b.band x a.y) r ∙ ap (key_of b.dataset b.band b.x) s

pub pixel_is : (a b : PixelKey) → same_pixel a b ≡ true → a ≡ b
pixel_is a b h =
    let f : a.dataset ≡ b.dataset = grind (arith, nat_tests) in
    let g : a.band ≡ b.band = grind (arith, nat_tests) in
    let i : a.x ≡ b.x = grind (arith, nat_tests) in
    let j : a.y ≡ b.y = grind (arith, nat_tests) in
    parts_same a b f g i j
