-- Samples that are painted have a property that all values have which are painted.
use Rattle.std.proofs.Common.{◌≡◌, ℕ, ◌+◌, ◌-◌, ◌*◌, ◌/◌, ◌%◌, ◌<◌, ◌≤◌, ℤ, pos, List, [], ◌∷◌, Option, Some, refl, sym, ap, ◌∙◌, subst, arith, length, get_or, inl, inr, suc, zero, drop, length-drop}
use Rattle.std.specs.List.{All}
use Rattle.std.specs.Option.{unwrap_or}
use Rattle.std.proofs.lemmas.Bool.{cases_lt}
use Rattle.std.proofs.lemmas.List.{length-take-le}
use Rattle.std.proofs.lemmas.Nat.{mod-mul-add, div-add-mod', mod_below}
use borrow.Rule.Slice.PartMut.{put_mid, mid_of}
use Rattle.nearest_window.specs.Painted.{IsPainted, IsFilled, AreFilled, given_between, in_columns}
use Rattle.nearest_window.proofs.Painted.{painted_part, placed_in, placed_before, placed_after}

module _ (P : ℤ → Type 0) where
  -- values with the property are painted
  pub filled_by : (w a b : ℕ) (f : ℕ → ℕ → Option ℤ) (old new : List ℤ) → ((c r : ℕ) → (v : ℤ) × (f c r ≡ Some v) × P v) → IsPainted (in_columns w a b f) old new → IsFilled P w a b old new
  filled_by w a b f old new good h = record {
    size = h.size;
    inside = λ k p low high.
        let g = good (k % w - a) (k / w) in
        subst P (sym (h.each k p ∙ ap (λ o. unwrap_or o (get_or old k (pos 0))) (placed_in a b (λ c. f c (k / w)) (k % w) low high ∙ g.1))) g.2;
    outside = λ k p out. elim (cases_lt (k % w) a) [
      | inl q ↦ h.each k p ∙ ap (λ o. unwrap_or o (get_or old k (pos 0))) (placed_before a b (λ c. f c (k / w)) (k % w) q)
      | inr q ↦ elim (cases_lt (k % w) b) [
        | inl s ↦ absurd (out q s)
        | inr s ↦ h.each k p ∙ ap (λ o. unwrap_or o (get_or old k (pos 0))) (placed_after a b (λ c. f c (k / w)) (k % w) s)
      ]
    ];
  }

  pub filled_none : (w a : ℕ) (xs : List ℤ) → IsFilled P w a a xs xs
  filled_none w a xs = record { size = refl; inside = λ k p low high. absurd (omega arith); outside = λ k p out. refl }

  -- some columns more
  pub filled_columns : (w a c d : ℕ) (old mid new : List ℤ) → a ≤ c → c ≤ d → IsFilled P w a c old mid → IsFilled P w c d mid new → IsFilled P w a d old new
  filled_columns w a c d old mid new p q before here = record {
    size = here.size ∙ before.size;
    inside = λ k s low high.
        let t : k < length mid = (let e = before.size in omega arith) in
        elim (cases_lt (k % w) c) [
          | inl b ↦ subst P (sym (here.outside k t (λ x y. absurd (omega arith)))) (before.inside k s low b)
          | inr b ↦ here.inside k t b high
        ];
    outside = λ k s out.
        let t : k < length mid = (let e = before.size in omega arith) in
        here.outside k t (λ x y. out (omega arith) y) ∙ before.outside k s (λ x y. out x (omega arith));
  }

  part_of : (a n : ℕ) (xs ys : List ℤ) → a + n ≤ length xs → length ys ≡ n → IsPainted (given_between a (a + n) (λ i. Some (get_or ys i (pos 0)))) xs (put_mid a n xs ys)
  part_of a n xs ys p size = painted_part (λ i. Some (get_or ys i (pos 0))) a n xs ys p (record { size = size ∙ sym part; each = λ k q. refl })
    where
      part : length (mid_of a n xs) ≡ n
      part = let d = length-drop a xs in length-take-le n (drop a xs) (omega arith)

  -- the column of a place some rows further
  column_of : (w r m : ℕ) → 0 < w → (r * w + m) % w ≡ m % w
  column_of w r m some =
      let split = div-add-mod' m w in
      let turned : (r + m / w) * w ≡ r * w + m / w * w = grind arith in
      let e : r * w + m ≡ (r + m / w) * w + m % w = omega arith in
      ap (λ n. n % w) e ∙ mod-mul-add (r + m / w) w (m % w) (mod_below m w some)

  -- rows more
  pub filled_rows : (w a b r n p q : ℕ) (mid ys : List ℤ) → 0 < w → p ≡ r * w → q ≡ (r + n) * w → (r + n) * w ≤ length mid → length ys ≡ n * w → AreFilled P (r * w) w a b mid → AreFilled P (n * w) w a b ys
      → AreFilled P ((r + n) * w) w a b (put_mid p (q - p) mid ys)
  filled_rows w a b r n p q mid ys some pe qe fits size before here =
      subst (λ m. AreFilled P ((r + n) * w) w a b (put_mid p m mid ys)) (sym width) (subst (λ m. AreFilled P ((r + n) * w) w a b (put_mid m (n * w) mid ys)) (sym pe) each)
    where
      next : (r + n) * w ≡ r * w + n * w
      next = grind arith

      width : q - p ≡ n * w
      width = let e = next in omega arith

      painted : IsPainted (given_between (r * w) (r * w + n * w) (λ i. Some (get_or ys i (pos 0)))) mid (put_mid (r * w) (n * w) mid ys)
      painted = part_of (r * w) (n * w) mid ys (let e = next in omega arith) size

      each : AreFilled P ((r + n) * w) w a b (put_mid (r * w) (n * w) mid ys)
      each k s low high =
          let e = next in
          let t : k < length mid = omega arith in
          elim (cases_lt k (r * w)) [
            | inl c ↦ subst P (sym (painted.each k t ∙ ap (λ o. unwrap_or o (get_or mid k (pos 0))) (placed_before (r * w) (r * w + n * w) (λ i. Some (get_or ys i (pos 0))) k c))) (before k c low high)
            | inr c ↦
                let back : r * w + (k - r * w) ≡ k = omega arith in
                let column : (k - r * w) % w ≡ k % w = sym (column_of w r (k - r * w) some) ∙ ap (λ m. m % w) back in
                subst P (sym (painted.each k t ∙ ap (λ o. unwrap_or o (get_or mid k (pos 0))) (placed_in (r * w) (r * w + n * w) (λ i. Some (get_or ys i (pos 0))) k c (omega arith))))
                (here (k - r * w) (omega arith) (omega arith) (omega arith))
          ]

  any_default : (xs : List ℤ) (k : ℕ) (d : ℤ) → k < length xs → get_or xs k (pos 0) ≡ get_or xs k d
  any_default [] k d p = absurd (omega arith)
  any_default (x ∷ xs) zero d p = refl
  any_default (x ∷ xs) (suc k) d p = any_default xs k d (omega arith)

  -- each place has it
  pub all_of : (xs : List ℤ) → ((k : ℕ) → k < length xs → P (get_or xs k (pos 0))) → All P xs
  all_of xs h k d p = subst P (any_default xs k d p) (h k p)
