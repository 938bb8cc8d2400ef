-- The counts of values and of rows that were begun.
use Rattle.std.proofs.Common.{◌≡◌, ◌≢◌, ℕ, Bool, true, false, List, [], ◌∷◌, ◌++◌, length, refl, ap, ◌∙◌, ⊎_elim, ◌≤◌, ◌<◌, ◌+◌, ◌-◌, ◌*◌, arith, cond, suc, length-append, subst, Result, Ok, Err}
use Rattle.std.proofs.lemmas.Bool.{cases_eq, cases_lt, eq-eqb, ne_eqb, eqb-true}
use Rattle.std.proofs.Math.Nat.{suc-mul, mul_comm, mul-le-mul}
use lib.Dec.{eqb}
use Rattle.ascii_grid.specs.declared.head_parts.Shape.{Shape}
use Rattle.ascii_grid.specs.declared.head_parts.Stage.{Stage}
use Rattle.ascii_grid.specs.declared.head_parts.Stage.TheVariants.{AtKey, AtValue, InBody}
use Rattle.ascii_grid.specs.declared.faults.GridFault.{GridFault}
use Rattle.ascii_grid.specs.declared.faults.GridFault.TheVariants.{TooFew}
use Rattle.lists_and_answers.specs.Answers.{◌>>=◌}
use Rattle.ascii_grid.specs.Keys.{shape_of}
use Rattle.ascii_grid.specs.Scan.{IsBody, AreRowsAt}
use Rattle.ascii_grid.specs.Scanning.{body_closed, closed}

abbrev closes : Shape → Result Shape GridFault
closes s = Ok s

-- the columns that are still to come in a row that was begun
abbrev left : ℕ → ℕ → ℕ
left w x = cond (eqb x 0) 0 (w - x)

left_none : (w x : ℕ) → x ≡ 0 → left w x ≡ 0
left_none w x e = rw (eq-eqb x 0 e) refl

left_some : (w x : ℕ) → x ≢ 0 → left w x ≡ w - x
left_some w x e = rw (ne_eqb x 0 e) refl

-- behind a value in column x, with this many columns left before it
column_more : (w n x y before : ℕ) → x < w → before ≡ n + (w - x) → y ≡ cond (eqb (x + 1) w) 0 (x + 1) → before ≡ (n + 1) + left w y
column_more w n x y before x_in is y_is =
    ⊎_elim
    (λ (last : x + 1 ≡ w). let y0 : y ≡ 0 = y_is ∙ rw (eq-eqb (x + 1) w last) refl in omega (arith, left_none w y y0))
    (λ (within : x + 1 ≢ w). let y1 : y ≡ x + 1 = y_is ∙ rw (ne_eqb (x + 1) w within) refl in let some : y ≢ 0 = omega arith in omega (arith, left_some w y some))
    (cases_eq (x + 1) w)

count_more : (w n x y : ℕ) (rows new : List ℕ) (at : ℕ) → x < w → length rows * w ≡ n + left w x → new ≡ cond (eqb x 0) (rows ++ at ∷ []) rows → y ≡ cond (eqb (x + 1) w) 0 (x + 1) → length new * w ≡ (n + 1) + left w y
count_more w n x y rows new at x_in is new_is y_is =
    ⊎_elim
    (λ (first : x ≡ 0).
    let all : new ≡ rows ++ at ∷ [] = new_is ∙ rw (eq-eqb x 0 first) refl in
    let one : length new ≡ suc (length rows) = ap length all ∙ length-append rows (at ∷ []) ∙ omega arith in
    let product : length new * w ≡ w + length rows * w = ap (λ k. k * w) one ∙ omega (arith, suc-mul (length rows) w) in
    column_more w n x y (length new * w) x_in (omega (arith, product, is, left_none w x first, first)) y_is)
    (λ (later : x ≢ 0).
    let same : new ≡ rows = new_is ∙ rw (ne_eqb x 0 later) refl in
    column_more w n x y (length new * w) x_in (ap (λ (r : List ℕ). length r * w) same ∙ is ∙ ap (λ k. n + k) (left_some w x later)) y_is)
    (cases_eq x 0)

-- a value more
pub body_next : (s : Shape) (n x y at needed : ℕ) (rows new : List ℕ) → IsBody s n x rows → n ≢ needed → needed ≡ s.w * s.h → new ≡ cond (eqb x 0) (rows ++ at ∷ []) rows → y ≡ cond (eqb (x + 1) s.w) 0 (x + 1) → y < s.w → IsBody s (n + 1) y new
body_next s n x y at needed rows new b more is new_is y_is y_in = record { few = omega (arith, b.few, more, is); column = y_in; begun = count_more s.w n x y rows new at b.column b.begun new_is y_is }

-- one that isn't the first of its row
pub body_later : (s : Shape) (n x y needed : ℕ) (rows : List ℕ) → IsBody s n x rows → x ≢ 0 → n < needed → needed ≡ s.w * s.h → y ≡ cond (eqb (x + 1) s.w) 0 (x + 1) → y < s.w → IsBody s (n + 1) y rows
body_later s n x y needed rows b later more is y_is y_in = body_next s n x y 0 needed rows rows b (omega (arith, more)) is (rw (ne_eqb x 0 later) refl) y_is y_in

-- no value yet
pub body_begins : (s : Shape) (rows : List ℕ) → 0 < s.w → rows ≡ [] → IsBody s 0 0 rows
body_begins s rows wide none = record { few = omega arith; column = wide; begun = ap (λ (r : List ℕ). length r * s.w) none ∙ omega arith }

-- a body that is whole has begun each row
few_rows : (w h k l : ℕ) → 0 < w → l < w → k * w ≡ w * h + l → k < h → k ≡ h
few_rows w h k l wide l_in is less = let same : w ≤ w = omega arith in let p : suc k * w ≤ h * w = mul-le-mul less same in omega (arith, p, is, suc-mul k w, mul_comm w h)

many_rows : (w h k l : ℕ) → 0 < w → l < w → k * w ≡ w * h + l → h < k → k ≡ h
many_rows w h k l wide l_in is more = let same : w ≤ w = omega arith in let p : suc h * w ≤ k * w = mul-le-mul more same in omega (arith, p, is, suc-mul h w, mul_comm w h)

all_rows : (w h k l : ℕ) → 0 < w → l < w → k * w ≡ w * h + l → k ≡ h
all_rows w h k l wide l_in is =
    ⊎_elim
    (λ (less : k < h). few_rows w h k l wide l_in is less)
    (λ (past : h ≤ k). ⊎_elim (λ (more : h < k). many_rows w h k l wide l_in is more) (λ (not_more : k ≤ h). omega arith) (cases_lt h k))
    (cases_lt k h)

left_small : (w x : ℕ) → x < w → left w x < w
left_small w x x_in =
    ⊎_elim
    (λ (first : x ≡ 0). omega (arith, left_none w x first))
    (λ (later : x ≢ 0). omega (arith, left_some w x later))
    (cases_eq x 0)

-- a body that is whole
record Whole (t s : Shape) (n : ℕ) : Type 0 where
  same : t ≡ s
  count : n ≡ s.w * s.h

whole_from : (b : Bool) (t s : Shape) (n : ℕ) → eqb n (t.w * t.h) ≡ b → cond b (closes t) (Err TooFew) ≡ Ok s → Whole t s n
whole_from true t s n test is = let same : t ≡ s = cc in record { same = same; count = eqb-true n (t.w * t.h) test ∙ ap (λ (t : Shape). t.w * t.h) same }
whole_from false t s n test is = cc

in_head : (q : Result Shape GridFault) (rows : List ℕ) (s : Shape) → (q >>= λ t. body_closed t 0) ≡ Ok s → 0 < s.w * s.h → length rows ≡ s.h
in_head (Ok t) rows s is some = let w : Whole t s 0 = whole_from (eqb 0 (t.w * t.h)) t s 0 refl is in absurd (omega (arith, w.count))
in_head (Err f) rows s is some = cc

pub closed_rows : (stage : Stage) (rows : List ℕ) (s : Shape) → AreRowsAt stage rows → closed stage ≡ Ok s → 0 < s.w * s.h → length rows ≡ s.h
unfolding closed
closed_rows (AtKey f) rows s at is some = in_head (shape_of f) rows s is some
closed_rows (AtValue f k) rows s at is some = in_head (shape_of f) rows s is some
closed_rows (InBody t n x) rows s at is some =
    let w : Whole t s n = whole_from (eqb n (t.w * t.h)) t s n refl is in
    let x_in : x < s.w = subst (λ (u : Shape). x < u.w) w.same at.column in
    let count : length rows * s.w ≡ s.w * s.h + left s.w x = subst (λ (u : Shape). length rows * u.w ≡ n + left u.w x) w.same at.begun ∙ ap (λ k. k + left s.w x) w.count in
    all_rows s.w s.h (length rows) (left s.w x) (omega arith) (left_small s.w x x_in) count
