-- Rows of samples that are put behind others.
use Rattle.std.proofs.Common.{◌≡◌, ℕ, ℤ, ◌+◌, ◌-◌, ◌*◌, ◌/◌, ◌%◌, ◌<◌, ◌≤◌, List, ◌++◌, take, drop, Option, length, ap, sym, ◌∙◌, subst, arith, pos, get_or, inl, inr}
use Rattle.std.proofs.lemmas.Bool.{cases_lt}
use Rattle.std.proofs.lemmas.List.{get_or_append_left, get_or-append_right, get_or-take, length-take-le}
use Rattle.std.proofs.lemmas.Nat.{div-mul-add, mod-mul-add, div-add-mod', mod_below}
use borrow.Rule.Slice.PartMut.{put_mid}
use Rattle.geotransform.specs.declared.types.Size.{Size}
use Rattle.outside.specs.Outside.{Files}
use Rattle.translate_plan.specs.Plan.{Planned}
use Rattle.strip_copies.specs.Rows.{AreSamples, IsRow, IsSample}

-- a place before a part that is put back, and one in it
before_part : (a n : ℕ) (xs ys : List ℤ) (k : ℕ) → a ≤ length xs → k < a → get_or (put_mid a n xs ys) k (pos 0) ≡ get_or xs k (pos 0)
before_part a n xs ys k fits less =
    let front : length (take a xs) ≡ a = length-take-le a xs fits in
    get_or_append_left (take a xs) (ys ++ drop n (drop a xs)) (pos 0) k (omega arith) ∙ get_or-take a xs k (pos 0) less

in_part : (a n : ℕ) (xs ys : List ℤ) (k : ℕ) → a ≤ length xs → a ≤ k → k < a + length ys → get_or (put_mid a n xs ys) k (pos 0) ≡ get_or ys (k - a) (pos 0)
in_part a n xs ys k fits low high =
    let front : length (take a xs) ≡ a = length-take-le a xs fits in
    get_or-append_right (take a xs) (ys ++ drop n (drop a xs)) a k (pos 0) front low ∙ get_or_append_left ys (drop n (drop a xs)) (pos 0) (k - a) (omega arith)

-- places that have a property, and behind them a part whose places have it
pub part_more : (P : ℕ → ℤ → Type 0) (a n : ℕ) (xs ys : List ℤ) → a ≤ length xs → length ys ≡ n → ((k : ℕ) → k < a → P k (get_or xs k (pos 0))) → ((k : ℕ) → k < n → P (a + k) (get_or ys k (pos 0))) → (k : ℕ) → k < a + n → P k (get_or (put_mid a n xs ys) k (pos 0))
part_more P a n xs ys fits size before here k less = elim (cases_lt k a) [
  | inl b ↦ subst (P k) (sym (before_part a n xs ys k fits b)) (before k b)
  | inr b ↦
      let back : a + (k - a) ≡ k = omega arith in
      subst (P k) (sym (in_part a n xs ys k fits b (omega arith))) (subst (λ m. P m (get_or ys (k - a) (pos 0))) back (here (k - a) (omega arith)))
]

-- the column and the row of a place some rows further
column_of : (w r m : ℕ) → 0 < w → (r * w + m) % w ≡ m % w
column_of w r m some =
    let split = div-add-mod' m w in
    let turned : (r + m / w) * w ≡ r * w + m / w * w = grind arith in
    let e : r * w + m ≡ (r + m / w) * w + m % w = omega arith in
    ap (λ n. n % w) e ∙ mod-mul-add (r + m / w) w (m % w) (mod_below m w some)

row_of : (w r m : ℕ) → 0 < w → (r * w + m) / w ≡ r + m / w
row_of w r m some =
    let split = div-add-mod' m w in
    let turned : (r + m / w) * w ≡ r * w + m / w * w = grind arith in
    let e : r * w + m ≡ (r + m / w) * w + m % w = omega arith in
    ap (λ n. n / w) e ∙ div-mul-add (r + m / w) w (m % w) (mod_below m w some)

module _ (told : Option Files) (name : List ℕ) (p : Planned) (source : Size) (k from : ℕ) (some : 0 < p.size.w) where
  -- lines behind lines
  pub lines_more : (r n a b : ℕ) (xs ys : List ℤ) → a ≡ r * p.size.w → b ≡ n * p.size.w → a ≤ length xs → length ys ≡ b → AreSamples told name p source k from a xs → AreSamples told name p source k (from + r) b ys
      → AreSamples told name p source k from (a + b) (put_mid a b xs ys)
  lines_more r n a b xs ys ae be fits size before here =
      part_more (λ at v. IsSample told name p source k (at % p.size.w) (from + at / p.size.w) v) a b xs ys fits size before
      (λ at less.
      let column : at % p.size.w ≡ (a + at) % p.size.w = sym (ap (λ m. (m + at) % p.size.w) ae ∙ column_of p.size.w r at some) in
      let down : (a + at) / p.size.w ≡ r + at / p.size.w = ap (λ m. (m + at) / p.size.w) ae ∙ row_of p.size.w r at some in
      let line : from + r + at / p.size.w ≡ from + (a + at) / p.size.w = omega arith in
      subst (λ i. IsSample told name p source k i (from + (a + at) / p.size.w) (get_or ys at (pos 0))) column (subst (λ j. IsSample told name p source k (at % p.size.w) j (get_or ys at (pos 0))) line (here at less)))

  -- a row is a line
  pub row_is_line : (ys : List ℤ) → IsRow told name p source k from ys → AreSamples told name p source k from p.size.w ys
  row_is_line ys row at less =
      let z : 0 * p.size.w + at ≡ at = omega arith in
      let column : at ≡ at % p.size.w = sym (ap (λ m. m % p.size.w) (sym z) ∙ mod-mul-add 0 p.size.w at less) in
      let down : at / p.size.w ≡ 0 = ap (λ m. m / p.size.w) (sym z) ∙ div-mul-add 0 p.size.w at less in
      let line : from ≡ from + at / p.size.w = omega arith in
      subst (λ i. IsSample told name p source k i (from + at / p.size.w) (get_or ys at (pos 0))) column (subst (λ j. IsSample told name p source k at j (get_or ys at (pos 0))) line (row at less))
