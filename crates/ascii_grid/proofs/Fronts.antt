-- Tokens of digits that stand in front of bytes.
use Rattle.std.proofs.Common.{◌≡◌, ◌≢◌, ℕ, ℤ, pos, Bool, true, false, List, [], ◌∷◌, ◌++◌, refl, sym, ap, ◌∙◌, take, drop, length, ◌≤◌, ◌<◌, ◌+◌, ◌-◌, ◌*◌, arith, cond, suc, zero, Ok, Err, get_or}
use Rattle.std.specs.Prelude.{neg_ℤ, ◌&&◌}
use Rattle.std.specs.Char.{is_ascii_digit}
use Rattle.std.proofs.lemmas.Bool.{ne_eqb}
use Rattle.std.proofs.lemmas.Bool.Decides.{nat_tests}
use Rattle.std.proofs.lemmas.Int.{ints}
use Rattle.std.proofs.lemmas.List.{append-nil, get_or-take, length-take-le, take_all}
use Rattle.lists_and_answers.specs.Texts.{is_white}
use lib.Dec.{eqb}
use Rattle.geotransform.specs.Decimal.{sign_at, number, is_decimal}
use Rattle.geotransform.proofs.RoundTrip.{AreDigits, digits-cons, sign_none}
use Rattle.ascii_grid.specs.declared.faults.GridFault.{GridFault}
use Rattle.ascii_grid.specs.declared.head_parts.Shape.{Shape}
use Rattle.ascii_grid.specs.declared.head_parts.Stage.TheVariants.{InBody}
use Rattle.ascii_grid.specs.Values.{value_in, is_value, is_whole_text, whole_value}
use Rattle.ascii_grid.specs.Scanning.{has_value}
use Rattle.ascii_grid.specs.Scan.{add_token, body_step, step}
use Rattle.ascii_grid.specs.Row.{value_or_zero, or_zero}
use Rattle.ascii_grid.proofs.Again.{value_from}

digit_dark : (c : ℕ) → is_ascii_digit c ≡ true → is_white c ≡ false
digit_dark c d = grind (arith, nat_tests)

digits_dark : (ds : List ℕ) (k : ℕ) → AreDigits ds → k < length ds → is_white (get_or ds k 0) ≡ false
digits_dark [] k d less = absurd (omega arith)
digits_dark (c ∷ cs) zero d less = digit_dark c (digits-cons c cs d).0
digits_dark (c ∷ cs) (suc k) d less = digits_dark cs k (digits-cons c cs d).1 (omega arith)

-- digits in front aren't white
pub front_dark : (bytes : List ℕ) (n k : ℕ) → AreDigits (take n bytes) → n ≤ length bytes → k < n → is_white (get_or bytes k 0) ≡ false
front_dark bytes n k d within less =
    let count : length (take n bytes) ≡ n = length-take-le n bytes within in
    ap is_white (sym (get_or-take n bytes k 0 less)) ∙ digits_dark (take n bytes) k d (omega (arith, count))

-- so behind a minus
pub minus_dark : (rest : List ℕ) (n k : ℕ) → AreDigits (take n rest) → n ≤ length rest → k < n + 1 → is_white (get_or (45 ∷ rest) k 0) ≡ false
minus_dark rest n zero d within less = refl
minus_dark rest n (suc k) d within less = front_dark rest n k d within (omega arith)

-- the bytes from a minus on
pub behind_minus : (bytes : List ℕ) → 0 < length bytes → get_or bytes 0 0 ≡ 45 → bytes ≡ 45 ∷ take (length bytes - 1) (drop 1 bytes)
behind_minus [] some is = absurd (omega arith)
behind_minus (c ∷ cs) some is = let all : take (length (c ∷ cs) - 1) cs ≡ cs = take_all (length (c ∷ cs) - 1) cs (omega arith) in ap (λ x. x ∷ cs) is ∙ ap (λ (l : List ℕ). 45 ∷ l) (sym all)

has_of : (a b c : Bool) (v n : ℤ) (f g h : GridFault) → cond a (cond b (Ok v) (Err f)) (cond c (Err g) (Err h)) ≡ Ok n → (a && b) ≡ true
has_of true true c v n f g h is = refl
has_of true false c v n f g h is = cc
has_of false b true v n f g h is = cc
has_of false b false v n f g h is = cc

has_from : (text : List ℕ) (n : ℤ) → value_in 0 text ≡ Ok n → has_value text ≡ true
unfolding value_in
has_from text n is = has_of (is_whole_text text) (is_value (whole_value text)) (is_decimal text) (whole_value text) n _ _ _ is

of_has : (a b c : Bool) (v : ℤ) (f g h : GridFault) → (a && b) ≡ true → cond a (cond b (Ok v) (Err f)) (cond c (Err g) (Err h)) ≡ Ok v
of_has true true c v f g h is = refl
of_has true false c v f g h is = cc
of_has false b c v f g h is = cc

-- a text that has a value reads as it
pub has_is : (at : ℕ) (text : List ℕ) → has_value text ≡ true → value_in at text ≡ Ok (whole_value text)
unfolding value_in
has_is at text has = of_has (is_whole_text text) (is_value (whole_value text)) (is_decimal text) (whole_value text) _ _ _ has

small_value : (n : ℕ) → n < 2147483648 → is_value (pos n) ≡ true
small_value n small = grind (arith, nat_tests, ints)

small_minus : (n : ℕ) → n < 2147483648 → is_value (neg_ℤ (pos n)) ≡ true
small_minus zero small = refl
small_minus (suc n) small = grind (arith, nat_tests, ints)

plain_in : (bytes : List ℕ) (n : ℕ) → AreDigits (take n bytes) → 0 < n → n ≤ 64 → n ≤ length bytes → number (take n bytes) < 2147483648 → value_in 0 (take n bytes) ≡ Ok (pos (number (take n bytes)))
plain_in bytes n d some few within small =
    let text : List ℕ = take n bytes in
    let count : length text ≡ n = length-take-le n bytes within in
    let sign : sign_at text ≡ (false, text) = ap sign_at (sym (append-nil text)) ∙ sign_none text [] d (omega (arith, count)) ∙ ap (λ (x : List ℕ). (false, x)) (append-nil text) in
    value_from 0 text text false sign d (omega (arith, count)) (omega (arith, count)) (small_value (number text) small)

minus_in : (rest : List ℕ) (n : ℕ) → AreDigits (take n rest) → 0 < n → n ≤ 63 → n ≤ length rest → number (take n rest) < 2147483648 → value_in 0 (45 ∷ take n rest) ≡ Ok (neg_ℤ (pos (number (take n rest))))
minus_in rest n d some few within small =
    let text : List ℕ = take n rest in
    let count : length text ≡ n = length-take-le n rest within in
    value_from 0 (45 ∷ text) text true refl d (omega (arith, count)) (omega (arith, count)) (small_minus (number text) small)

-- the digits in front have a value, and which
pub plain_has : (bytes : List ℕ) (n : ℕ) → AreDigits (take n bytes) → 0 < n → n ≤ 64 → n ≤ length bytes → number (take n bytes) < 2147483648 → has_value (take n bytes) ≡ true
plain_has bytes n d some few within small = has_from (take n bytes) _ (plain_in bytes n d some few within small)

pub plain_value : (bytes : List ℕ) (n : ℕ) → AreDigits (take n bytes) → 0 < n → n ≤ 64 → n ≤ length bytes → number (take n bytes) < 2147483648 → value_or_zero (take n bytes) ≡ pos (number (take n bytes))
plain_value bytes n d some few within small = ap or_zero (plain_in bytes n d some few within small)

-- so behind a minus
pub minus_has : (rest : List ℕ) (n : ℕ) → AreDigits (take n rest) → 0 < n → n ≤ 63 → n ≤ length rest → number (take n rest) < 2147483648 → has_value (take (n + 1) (45 ∷ rest)) ≡ true
minus_has rest n d some few within small =
    let e : n + 1 ≡ suc n = omega arith in
    ap (λ k. has_value (take k (45 ∷ rest))) e ∙ has_from (45 ∷ take n rest) _ (minus_in rest n d some few within small)

pub minus_value : (rest : List ℕ) (n : ℕ) → AreDigits (take n rest) → 0 < n → n ≤ 63 → n ≤ length rest → number (take n rest) < 2147483648 → value_or_zero (take (n + 1) (45 ∷ rest)) ≡ neg_ℤ (pos (number (take n rest)))
minus_value rest n d some few within small =
    let e : n + 1 ≡ suc n = omega arith in
    ap (λ k. value_or_zero (take k (45 ∷ rest))) e ∙ ap or_zero (minus_in rest n d some few within small)

-- a value of the body that is counted
pub counted : (s : Shape) (n x y at needed : ℕ) (rows new : List ℕ) (text : List ℕ) → has_value text ≡ true → needed ≡ s.w * s.h → n ≢ needed → new ≡ cond (eqb x 0) (rows ++ at ∷ []) rows → y ≡ cond (eqb (x + 1) s.w) 0 (x + 1)
    → add_token (record { stage = InBody s n x; rows = rows }) (record { at = at; text = text }) ≡ Ok (record { stage = InBody s (n + 1) y; rows = new })
unfolding step body_step
counted s n x y at needed rows new text has is more new_is y_is =
    let other : n ≢ s.w * s.h = λ e. more (e ∙ sym is) in
    rw (ne_eqb n (s.w * s.h) other, has_is at text has, new_is, y_is) refl

-- so where it isn't the first of its row
pub counted_later : (s : Shape) (n x y needed : ℕ) → x ≢ 0 → n < needed → needed ≡ s.w * s.h → y ≡ cond (eqb (x + 1) s.w) 0 (x + 1)
    → (rows : List ℕ) (at : ℕ) (text : List ℕ) → has_value text ≡ true → add_token (record { stage = InBody s n x; rows = rows }) (record { at = at; text = text }) ≡ Ok (record { stage = InBody s (n + 1) y; rows = rows })
counted_later s n x y needed later more is y_is rows at text has = counted s n x y at needed rows rows text has is (omega (arith, more)) (rw (ne_eqb x 0 later) refl) y_is
