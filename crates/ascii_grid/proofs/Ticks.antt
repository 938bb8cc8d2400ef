-- The ticks of digits alone.
use Rattle.std.proofs.Common.{◌≡◌, ℕ, ℤ, pos, Bool, true, false, List, [], ◌++◌, refl, sym, ap, ◌∙◌, subst, take, length, ◌≤◌, ◌<◌, ◌*◌, ◌^◌, arith, cond, Option, Some, None, Ok}
use Rattle.std.specs.Prelude.{◌==◌, nat_lt, ◌+◌}
use Rattle.std.proofs.lemmas.Bool.Decides.{nat_tests}
use Rattle.std.proofs.lemmas.List.{append-nil, take_all}
use Rattle.lists_and_answers.specs.Options.{◌>>=◌}
use Rattle.geotransform.specs.Decimal.{Decimal, IsRead, sign_at, digits_at, fraction_at, exponent_of, parts_of, magnitude, number, signed, ticks_of}
use Rattle.ascii_grid.specs.Values.{step_in}
use Rattle.geotransform.proofs.RoundTrip.{AreDigits, digits_again, sign_none}

abbrev behind_digits : ℕ → Bool → List ℕ × List ℕ → Option Decimal
behind_digits n negative w = cond (nat_lt 64 n) None (fraction_at w.1 >>= λ f. exponent_of f.1 >>= λ e. cond (length w.0 + length f.0 == 0) None (Some (record { negative = negative; whole = w.0; fraction = f.0; exponent = e })))

starts : (text : List ℕ) → parts_of text ≡ behind_digits (length text) (sign_at text).0 (digits_at (sign_at text).1)
unfolding parts_of
starts text = refl

abbrev whole : List ℕ → Decimal
whole text = record { negative = false; whole = text; fraction = []; exponent = pos 0 }

parts_digits : (text : List ℕ) → AreDigits text → 0 < length text → length text ≤ 64 → parts_of text ≡ Some (whole text)
parts_digits text digits some few =
    let sign : sign_at text ≡ (false, text) = ap sign_at (sym (append-nil text)) ∙ sign_none text [] digits some ∙ ap (λ (x : List ℕ). (false, x)) (append-nil text) in
    let front : digits_at text ≡ (text, []) = ap digits_at (sym (append-nil text)) ∙ digits_again text [] digits refl in
    let not_long : nat_lt 64 (length text) ≡ false = grind (arith, nat_tests) in
    let not_none : (length text + 0 == 0) ≡ false = grind (arith, nat_tests) in
    starts text
    ∙ ap (λ (s : Bool × List ℕ). behind_digits (length text) s.0 (digits_at s.1)) sign
    ∙ ap (behind_digits (length text) false) front
    ∙ ap (λ b. cond b None (cond (length text + 0 == 0) None (Some (whole text)))) not_long
    ∙ ap (λ b. cond b None (Some (whole text))) not_none

ticks_are : (text : List ℕ) → AreDigits text → 0 < length text → length text ≤ 64 → number text < 10 ^ 12 → ticks_of text ≡ Some (pos (18 * (number text * 10 ^ 16)))
unfolding ticks_of
ticks_are text digits some few small =
    let finish : Decimal → Option ℤ = λ d. cond (nat_lt (magnitude d) (10 ^ 28)) (Some (signed d.negative (18 * magnitude d))) None in
    let value : number (text ++ []) * 10 ^ 16 ≡ number text * 10 ^ 16 = ap (λ (x : List ℕ). number x * 10 ^ 16) (append-nil text) in
    let less : nat_lt (number text * 10 ^ 16) (10 ^ 28) ≡ true = grind (arith, nat_tests) in
    ap (λ (x : Option Decimal). x >>= finish) (parts_digits text digits some few)
    ∙ ap (λ k. cond (nat_lt k (10 ^ 28)) (Some (pos (18 * k))) None) value
    ∙ ap (λ b. cond b (Some (pos (18 * (number text * 10 ^ 16)))) None) less

-- a text that is digits alone
pub digits_ticks : (text : List ℕ) (n v : ℕ) → AreDigits (take n text) → n ≡ length text → 0 < n → n ≤ 64 → v ≡ number (take n text) → v < 10 ^ 12 → ticks_of text ≡ Some (pos (18 * (v * 10 ^ 16)))
digits_ticks text n v digits all some few is small =
    let same : take n text ≡ text = take_all n text (omega arith) in
    let one : v ≡ number text = is ∙ ap number same in
    ticks_are text (subst AreDigits same digits) (omega arith) (omega arith) (omega arith)
    ∙ ap (λ k. Some (pos (18 * (k * 10 ^ 16)))) (sym one)

pub units_read : (n : ℕ) → n < 10 ^ 12 → IsRead (pos (18 * (n * 10 ^ 16)))
units_read n small = record { multiple = omega arith; near = omega arith }

-- a size of so many units
pub units_stepped : (at : ℕ) (text : List ℕ) (n : ℕ) → ticks_of text ≡ Some (pos (18 * (n * 10 ^ 16))) → 0 < n → step_in at text ≡ Ok (18 * (n * 10 ^ 16))
unfolding step_in
units_stepped at text n is some =
    let above : nat_lt 0 (18 * (n * 10 ^ 16)) ≡ true = grind (arith, nat_tests) in
    rw (is, above) refl
