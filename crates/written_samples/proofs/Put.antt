-- Bytes that are put into a list.
use Rattle.std.proofs.Common.{◌≡◌, ℕ, ◌+◌, ◌-◌, ◌<◌, ◌≤◌, ◌⊎◌, ⊎_elim, List, ◌++◌, length, take, drop, get_or, sym, ap, ◌∙◌, arith, append_assoc, length-append}
use Rattle.std.proofs.lemmas.List.{length-take-le, length-drop, take_at, drop_at, drop-drop, drop-take, take-take, take-append-le, get_or-take, get_or-drop, get_or_append_left, get_or-append_right}
use Rattle.outside.specs.Outside.{put_at}
use Rattle.lists_and_answers.specs.Places.{StandsAt}
use Rattle.lists_and_answers.proofs.Stands.{stands-part}

module _ (b ys : List ℕ) (at : ℕ) (within : at + length ys ≤ length b) where
  front : length (take at b) ≡ at
  front = length-take-le at b (omega arith)

  both : length (take at b ++ ys) ≡ at + length ys
  both = length-append (take at b) ys ∙ ap (λ n. n + length ys) front

  pub put_len : length (put_at at ys b) ≡ length b
  put_len = let l = length-append (take at b ++ ys) (drop (at + length ys) b) in let d = length-drop (at + length ys) b in let e = both in omega arith

  pub put_stands : StandsAt (put_at at ys b) ys at
  put_stands = sym (
      ap (λ (l : List ℕ). take (length ys) (drop at l)) (append_assoc (take at b) ys (drop (at + length ys) b))
      ∙ ap (take (length ys)) (drop_at (take at b) (ys ++ drop (at + length ys) b) at front)
      ∙ take_at ys (drop (at + length ys) b) (length ys) (λ _. length ys)
      )

  -- a byte in front of those that were put, one of them, and one behind them
  pub put_below : (j : ℕ) → j < at → get_or (put_at at ys b) j 0 ≡ get_or b j 0
  put_below j less = let f = front in let e = both in
      get_or_append_left (take at b ++ ys) (drop (at + length ys) b) 0 j (omega arith)
      ∙ get_or_append_left (take at b) ys 0 j (omega arith)
      ∙ get_or-take at b j 0 less

  pub put_here : (j : ℕ) → at ≤ j → j < at + length ys → get_or (put_at at ys b) j 0 ≡ get_or ys (j - at) 0
  put_here j low high = let e = both in
      get_or_append_left (take at b ++ ys) (drop (at + length ys) b) 0 j (omega arith)
      ∙ get_or-append_right (take at b) ys at j 0 front low

  pub put_past : (j : ℕ) → at + length ys ≤ j → get_or (put_at at ys b) j 0 ≡ get_or b j 0
  put_past j past =
      get_or-append_right (take at b ++ ys) (drop (at + length ys) b) (at + length ys) j 0 both past
      ∙ get_or-drop (at + length ys) b (j - (at + length ys)) 0
      ∙ ap (λ i. get_or b i 0) (omega arith)

  before : (p n : ℕ) → p + n ≤ at → take n (drop p (put_at at ys b)) ≡ take n (drop p b)
  before p n less = let f = front in
      sym (drop-take p n (put_at at ys b))
      ∙ ap (λ (l : List ℕ). drop p (take (p + n) l)) (append_assoc (take at b) ys (drop (at + length ys) b))
      ∙ ap (drop p) (take-append-le (p + n) (take at b) (ys ++ drop (at + length ys) b) (omega arith) ∙ take-take (p + n) at b less)
      ∙ drop-take p n b

  behind : (p : ℕ) → at + length ys ≤ p → drop p (put_at at ys b) ≡ drop p b
  behind p less =
      let place : at + length ys + (p - (at + length ys)) ≡ p = omega arith in
      ap (λ k. drop k (put_at at ys b)) (sym place)
      ∙ sym (drop-drop (p - (at + length ys)) (at + length ys) (put_at at ys b))
      ∙ ap (drop (p - (at + length ys))) (drop_at (take at b ++ ys) (drop (at + length ys) b) (at + length ys) both)
      ∙ drop-drop (p - (at + length ys)) (at + length ys) b
      ∙ ap (λ k. drop k b) place

  -- a part beside them
  pub part_beside : (p n : ℕ) → (p + n ≤ at) ⊎ (at + length ys ≤ p) → take n (drop p (put_at at ys b)) ≡ take n (drop p b)
  part_beside p n h = ⊎_elim (λ (less : p + n ≤ at). before p n less) (λ (past : at + length ys ≤ p). ap (take n) (behind p past)) h

  -- a part of them
  pub part_inside : (p n : ℕ) → p + n ≤ length ys → take n (drop (at + p) (put_at at ys b)) ≡ take n (drop p ys)
  part_inside p n enough = sym (stands-part (put_at at ys b) ys at p n enough put_stands)
