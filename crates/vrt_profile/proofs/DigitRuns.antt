-- Digits in front of a text, one by one.
use Rattle.std.proofs.Common.{◌≡◌, ℕ, ◌+◌, ◌*◌, ◌^◌, ◌<◌, ◌≤◌, ◌-◌, Bool, true, false, ◌&&◌, List, [], ◌∷◌, ◌++◌, take, drop, length, refl, sym, ap, ◌∙◌, arith, append_assoc}
use Rattle.std.specs.List.{list_all, fold}
use Rattle.std.specs.Char.{is_ascii_digit}
use Rattle.std.proofs.lemmas.List.{length-append, length-take, take-append-drop}
use Rattle.std.proofs.lemmas.List.Folds.{list_all-append}
use Rattle.std.proofs.lemmas.List.Sums.{fold-append}
use Rattle.std.proofs.lemmas.Bool.Decides.{nat_tests}
use Rattle.geotransform.specs.Decimal.{number}
use Rattle.geotransform.proofs.Numbers.{number_short}
use Rattle.vrt_profile.specs.Fronts.{IsDigitFront, DigitRun, DigitsFront, FractionFront}

pub digit_front : (c n : ℕ) (text rest : List ℕ) → is_ascii_digit c ≡ true → n ≡ c - 48 → text ≡ c ∷ rest → IsDigitFront text n rest
digit_front c n text rest digit value whole =
    let small : n < 10 = grind (arith, nat_tests, digit, value) in
    let same : c ≡ n + 48 = grind (arith, nat_tests, digit, value) in
    (small, whole ∙ ap (λ k. k ∷ rest) same)

pub run_none : (text : List ℕ) → DigitRun text 0 0 text
run_none text = record { digits = []; whole = refl; all = refl; size = refl; few = omega arith; value = refl }

and_true : (a b : Bool) → a ≡ true → b ≡ true → (a && b) ≡ true
and_true true b g h = h
and_true false b g h = absurd cc

pub run_more : (text rest more : List ℕ) (n count digit : ℕ) → DigitRun text n count rest → IsDigitFront rest digit more → count < 9 → DigitRun text (n * 10 + digit) (count + 1) more
run_more text rest more n count digit d front below =
    let c = digit + 48 in
    let one : is_ascii_digit c ≡ true = grind (arith, nat_tests, front.0) in
    let back : digit ≡ c - 48 = omega arith in
    record {
      digits = d.digits ++ c ∷ [];
      whole = d.whole ∙ ap (λ t. d.digits ++ t) front.1 ∙ sym (append_assoc d.digits (c ∷ []) more);
      all = list_all-append is_ascii_digit d.digits (c ∷ []) ∙ and_true (list_all is_ascii_digit d.digits) (list_all is_ascii_digit (c ∷ [])) d.all (and_true (is_ascii_digit c) true one refl);
      size = length-append d.digits (c ∷ []) ∙ omega (arith, d.size);
      few = omega (arith, below);
      value = ap (λ k. k * 10 + digit) d.value ∙ ap (λ k. number d.digits * 10 + k) back ∙ sym (fold-append (λ m b. m * 10 + (b - 48)) 0 d.digits (c ∷ []));
    }

pub run_small : (text rest : List ℕ) (n count : ℕ) → DigitRun text n count rest → n < 1000000000
run_small text rest n count d =
    let small : number d.digits < 10 ^ 9 = number_short d.digits 9 d.all (omega (arith, d.size, d.few)) in
    omega (arith, small, d.value)

pub run_digits : (text rest : List ℕ) (n count : ℕ) → DigitRun text n count rest → 0 < count → DigitsFront text n rest
run_digits text rest n count d some = record { digits = d.digits; whole = d.whole; all = d.all; some = omega (arith, some, d.size); few = omega (arith, d.size, d.few); value = d.value }

pub run_fraction : (text rest : List ℕ) (n count m p : ℕ) → DigitRun text n count rest → 0 < count → count ≤ 6 → p ≡ 10 ^ (6 - count) → m ≡ n * p → FractionFront text m rest
run_fraction text rest n count m p d some few power value = record {
  digits = d.digits;
  whole = d.whole;
  all = d.all;
  some = omega (arith, some, d.size);
  few = omega (arith, few, d.size);
  value = value ∙ ap (λ k. k * p) d.value ∙ ap (λ k. number d.digits * k) power ∙ ap (λ k. number d.digits * 10 ^ (6 - k)) (sym d.size);
}

-- the digits in front, so many
pub run_at : (text : List ℕ) (n count : ℕ) → list_all is_ascii_digit (take count text) ≡ true → n ≡ fold (λ m c. m * 10 + (c - 48)) 0 (take count text) → count ≤ 9 → count ≤ length text → DigitRun text n count (drop count text)
run_at text n count all value few within = record {
  digits = take count text;
  whole = sym (take-append-drop count text);
  all = all;
  size = omega (arith, within, length-take count text);
  few = few;
  value = value;
}
