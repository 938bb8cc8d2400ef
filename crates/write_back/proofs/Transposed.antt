-- Lemmas on groups of columns, which are made line by line.
use Rattle.std.proofs.Common.{◌≡◌, ◌<◌, ◌≤◌, ◌+◌, ◌-◌, ◌*◌, ◌%◌, ℕ, ℤ, pos, List, length, get_or, take, drop, sym, ap, ◌∙◌, subst, arith, inl, inr}
use Rattle.std.specs.Prelude.{slice_set}
use Rattle.std.proofs.Math.Nat.{mul-le-mul, mul_comm}
use Rattle.std.proofs.lemmas.Bool.{cases_lt}
use Rattle.std.proofs.lemmas.Nat.{mod-mul-add}
use Rattle.std.proofs.lemmas.List.{get_or-set_same, get_or-set_other, get_or-take, get_or-drop, length-set, length-take-le, length-drop}
use Rattle.std.proofs.lemmas.List.FromFn.{fill_by_all}
use Rattle.geotransform.specs.declared.types.Rect.{Rect}
use Rattle.band_blocks.specs.Spread.{IsBeside, IsSpread}
use Rattle.write_back.specs.declared.turned.Span.{Span}
use Rattle.write_back.specs.Turned.{IsGroup}
use Rattle.write_back.proofs.Lines.{column_in}
use Rattle.write_back.proofs.States.{row_fits}

-- an earlier place is another one
before : (start stride k i : ℕ) → 0 < stride → k < i → start + k * stride < start + i * stride
before start stride k i some less =
    let far : (k + 1) * stride ≤ i * stride = mul-le-mul (omega arith) (omega arith) in
    let next : (k + 1) * stride ≡ k * stride + stride = grind arith in
    omega arith

-- one sample more of a run is copied
pub run_more : (run old mid : List ℤ) (i start stride : ℕ) (v : ℤ) → 0 < stride → start + i * stride < length mid → v ≡ get_or run i (pos 0)
    → IsSpread run 0 i start stride old mid → IsSpread run 0 (i + 1) start stride old (slice_set mid (start + i * stride) v)
run_more run old mid i start stride v some within is so_far = record {
  size = length-set mid (start + i * stride) v ∙ so_far.size;
  each = λ k p. elim (cases_lt k i) [
    | inl a ↦ let less = before start stride k i some a in get_or-set_other mid (start + i * stride) (start + k * stride) v (pos 0) (λ z. absurd (omega arith)) ∙ so_far.each k a
    | inr b ↦
        let same : k ≡ i = omega arith in
        subst (λ n. get_or (slice_set mid (start + i * stride) v) (start + n * stride) (pos 0) ≡ get_or run (0 + n) (pos 0)) (sym same)
        (get_or-set_same mid (start + i * stride) v (pos 0) within ∙ is ∙ ap (λ n. get_or run n (pos 0)) (omega arith))
  ];
  others = λ j free. get_or-set_other mid (start + i * stride) j v (pos 0) (λ z. free i (omega arith) z) ∙ so_far.others j (λ k p z. free k (omega arith) z);
}

-- the first n lines of columns stand in a group
abbrev pub HasLines : List ℤ → ℕ → ℕ → ℕ → ℕ → ℕ → List ℤ → Type 0
HasLines samples width first columns lines n out = (c l : ℕ) → c < columns → l < n → get_or out (c * lines + l) (pos 0) ≡ get_or samples (l * width + (first + c)) (pos 0)

-- the place of another line is none of a line's
beside : (lines columns c l n : ℕ) → l < n → n < lines → IsBeside columns n lines (c * lines + l)
beside lines columns c l n earlier below i less same =
    let turned : n + i * lines ≡ i * lines + n = omega arith in
    let here : l ≡ n = sym (mod-mul-add c lines l (omega arith)) ∙ ap (λ m. m % lines) (same ∙ turned) ∙ mod-mul-add i lines n below in
    omega arith

-- one line more
pub line_more : (samples run old new : List ℤ) (width first columns lines n : ℕ) → n < lines → run ≡ take columns (drop (n * width + first) samples)
    → HasLines samples width first columns lines n old → IsSpread run 0 columns n lines old new → HasLines samples width first columns lines (n + 1) new
line_more samples run old new width first columns lines n below is so_far spread = λ c l less line. elim (cases_lt l n) [
  | inl a ↦ spread.others (c * lines + l) (beside lines columns c l n a below) ∙ so_far c l less a
  | inr b ↦
      let same : l ≡ n = omega arith in
      subst (λ m. get_or new (c * lines + m) (pos 0) ≡ get_or samples (m * width + (first + c)) (pos 0)) (sym same)
      (ap (λ m. get_or new m (pos 0)) (omega arith)
      ∙ spread.each c less
      ∙ ap (λ r. get_or r (0 + c) (pos 0)) is
      ∙ get_or-take columns (drop (n * width + first) samples) (0 + c) (pos 0) (omega arith)
      ∙ get_or-drop (n * width + first) samples (0 + c) (pos 0)
      ∙ ap (λ m. get_or samples m (pos 0)) (omega arith))
]

-- a column of a group ends within it
pub column_fits : (samples : List ℤ) (rect : Rect) (most : ℕ) (span : Span) (group : List ℤ) (x : ℕ) → length group ≡ most * rect.h → IsGroup samples rect most span group → span.first ≤ x → x < span.first + span.count
    → (x - span.first) * rect.h + rect.h ≤ length group
column_fits samples rect most span group x long held low high =
    let rows = row_fits (x - span.first) rect.h most (let few = held.few in omega arith) in
    let turned : most * rect.h ≡ rect.h * most = mul_comm most rect.h in
    omega arith

-- a group of no column
pub no_group : (samples : List ℤ) (rect : Rect) (most : ℕ) (group : List ℤ) → IsGroup samples rect most (record { first = 0; count = 0 }) group
no_group samples rect most group = record { few = omega arith; within = omega arith; turned = λ c l less line. absurd (omega arith) }

-- a column of a group
pub column_of : (samples : List ℤ) (rect : Rect) (most : ℕ) (span : Span) (group : List ℤ) (x : ℕ) → length group ≡ most * rect.h → IsGroup samples rect most span group → span.first ≤ x → x < span.first + span.count
    → take rect.h (drop ((x - span.first) * rect.h) group) ≡ column_in samples rect.w x rect.h
column_of samples rect most span group x long held low high =
    fill_by_all (λ y. get_or samples (y * rect.w + x) (pos 0)) (take rect.h (drop ((x - span.first) * rect.h) group)) rect.h (pos 0)
    (length-take-le rect.h (drop ((x - span.first) * rect.h) group) (omega (arith, length-drop ((x - span.first) * rect.h) group, column_fits samples rect most span group x long held low high)))
    (λ k below.
    get_or-take rect.h (drop ((x - span.first) * rect.h) group) k (pos 0) below
    ∙ get_or-drop ((x - span.first) * rect.h) group k (pos 0)
    ∙ held.turned (x - span.first) k (omega arith) below
    ∙ ap (λ c. get_or samples (k * rect.w + c) (pos 0)) (omega arith))
