-- What a raster shows after windows were written one after another.
use Rattle.std.proofs.Common.{◌≡◌, ◌+◌, ◌-◌, ◌*◌, ◌<◌, ◌≤◌, ◌⊎◌, ℕ, ℤ, pos, Bool, true, false, List, [], ◌∷◌, get_or, refl, sym, ap, ◌∙◌, subst, arith}
use Rattle.std.specs.Prelude.{nat_eq, nat_lt, ◌&&◌, not, if◌then◌else◌}
use Rattle.std.proofs.lemmas.Bool.Decides.{nat_tests}
use Rattle.geotransform.specs.declared.types.Rect.{Rect}
use Rattle.write_back.specs.Overlay.{IsInBandRect, IsOverlaid}
use Rattle.write_back.specs.View.{Output, IsIn}
use Rattle.write_back.specs.Windows.{Window, covers, lies_in, sample_of_last, AreWritten}

lies_inside : (x from n : ℕ) → lies_in x from n ≡ true → (from ≤ x) × (x < from + n)
lies_inside x from n is = (grind (arith, nat_tests), grind (arith, nat_tests))

inside_lies : (x from n : ℕ) → from ≤ x → x < from + n → lies_in x from n ≡ true
inside_lies x from n a b = grind (arith, nat_tests)

both : (a b : Bool) → a && b ≡ true → (a ≡ true) × (b ≡ true)
both true true is = (refl, refl)
both true false is = absurd cc
both false b is = absurd cc

same_number : (k n : ℕ) → nat_eq k n ≡ true → k ≡ n
same_number k n is = grind (arith, nat_tests)

number_same : (k n : ℕ) → k ≡ n → nat_eq k n ≡ true
number_same k n is = grind (arith, nat_tests)

covered : (w : Window) (k x y : ℕ) → covers w k x y ≡ true → IsInBandRect w.band w.rect k x y
covered w k x y is =
    let a = both (nat_eq k w.band) (lies_in x w.rect.x w.rect.w && lies_in y w.rect.y w.rect.h) is in
    let b = both (lies_in x w.rect.x w.rect.w) (lies_in y w.rect.y w.rect.h) a.1 in
    let c = lies_inside x w.rect.x w.rect.w b.0 in
    let d = lies_inside y w.rect.y w.rect.h b.1 in
    record { band_is = same_number k w.band a.0; left = c.0; right = c.1; top = d.0; bottom = d.1 }

all_three : (a b c : Bool) → a ≡ true → b ≡ true → c ≡ true → a && (b && c) ≡ true
all_three a b c p q r = rw p (rw q (rw r refl))

covers_inside : (w : Window) (k x y : ℕ) → IsInBandRect w.band w.rect k x y → covers w k x y ≡ true
covers_inside w k x y is = all_three (nat_eq k w.band) (lies_in x w.rect.x w.rect.w) (lies_in y w.rect.y w.rect.h)
    (number_same k w.band is.band_is) (inside_lies x w.rect.x w.rect.w is.left is.right) (inside_lies y w.rect.y w.rect.h is.top is.bottom)

shown_inside : (o : Output) (w : Window) (old new : ℕ → ℕ → ℕ → ℤ) (k x y : ℕ) → IsOverlaid (IsIn o) w.band w.rect w.samples old new → IsInBandRect w.band w.rect k x y
    → new k x y ≡ get_or w.samples ((y - w.rect.y) * w.rect.w + (x - w.rect.x)) (pos 0)
shown_inside o w old new k x y over is =
    let left = is.left in let right = is.right in let top = is.top in let bottom = is.bottom in
    let u : w.rect.x + (x - w.rect.x) ≡ x = omega arith in
    let v : w.rect.y + (y - w.rect.y) ≡ y = omega arith in
    ap (λ j. new j x y) is.band_is ∙ sym (ap (λ i. new w.band i y) u) ∙ sym (ap (λ j. new w.band (w.rect.x + (x - w.rect.x)) j) v)
    ∙ over.inside (x - w.rect.x) (y - w.rect.y) (omega arith) (omega arith)

by_cover : (o : Output) (w : Window) (old new : ℕ → ℕ → ℕ → ℤ) (k x y : ℕ) (earlier : ℤ) (b : Bool) → covers w k x y ≡ b → IsIn o k x y → old k x y ≡ earlier → IsOverlaid (IsIn o) w.band w.rect w.samples old new
    → new k x y ≡ (if b then get_or w.samples ((y - w.rect.y) * w.rect.w + (x - w.rect.x)) (pos 0) else earlier)
by_cover o w old new k x y earlier true is within before over = shown_inside o w old new k x y over (covered w k x y is)
by_cover o w old new k x y earlier false is within before over = over.outside k x y within (λ inside. (let e = covers_inside w k x y inside in absurd cc)) ∙ before

-- each pixel shows the sample of the last window that covered it, else 0
pub shows_last : (o : Output) (windows : List Window) (raster : ℕ → ℕ → ℕ → ℤ) → AreWritten o windows raster → (k x y : ℕ) → IsIn o k x y → raster k x y ≡ sample_of_last windows k x y
unfolding AreWritten sample_of_last
shows_last o [] raster zero k x y within = zero k x y within
shows_last o (w ∷ earlier) raster written k x y within =
    by_cover o w written.0 raster k x y (sample_of_last earlier k x y) (covers w k x y) refl within (shows_last o earlier written.0 written.1 k x y within) written.2
