-- How many numbers the lists of stretches have, and what they are by lines.
use Rattle.std.proofs.Common.{◌≡◌, ℕ, zero, suc, ◌+◌, ◌-◌, ◌<◌, ◌≤◌, List, [], ◌∷◌, length, get_or, map, Bool, true, false, cond, refl, sym, ap, ◌∙◌, arith, ⊎_elim}
use Rattle.std.specs.List.{All, sum_by, range_with_len}
use Rattle.std.proofs.lemmas.Bool.{cases_lt}
use Rattle.std.proofs.lemmas.List.{ext_get_or}
use Rattle.std.proofs.lemmas.List.FromFn.{get_or-map-range_with_len, length-map-range_with_len, sum_by-map-range_with_len_more}
use Rattle.std.proofs.lemmas.List.Sums.{sum_by-cons, sum_by-le}
use Rattle.mosaic_sources.specs.Rows.{passing_from, stretch_of, list_by, most_listed, is_in_span}
use Rattle.mosaic_sources.specs.Stretches.{holding_lines, total_held, IsWithinCount, AreListsOf}
use Rattle.mosaic_sources.specs.declared.spans.Span.{Span}
use Rattle.mosaic_sources.proofs.Held.{stretch_within, le_true, le_false, lt_true, lt_false, and_true, and_false_left, and_false_right}

-- the numbers of the spans that hold a place, and the lists of the first places
abbrev held_from : List Span → ℕ → ℕ → List ℕ
held_from spans number place = passing_from (λ s. is_in_span s place) spans number

abbrev pub lists_to : List Span → ℕ → ℕ → List (List ℕ)
lists_to spans number count = map (held_from spans number) (range_with_len 0 count)

-- how many of the first places a span holds
abbrev held_to : Span → ℕ → ℕ
held_to s zero = 0
held_to s (suc m) = held_to s m + cond (is_in_span s m) 1 0

is_held : (s : Span) (m : ℕ) → s.first ≤ m → m < s.end → ◌≡◌ {A = ℕ} (cond (is_in_span s m) 1 0) 1
is_held s m low high = ap (λ t. cond t 1 0) (and_true _ _ (le_true _ _ low) (lt_true _ _ high))

is_before : (s : Span) (m : ℕ) → m < s.first → ◌≡◌ {A = ℕ} (cond (is_in_span s m) 1 0) 0
is_before s m h = ap (λ t. cond t 1 0) (and_false_left _ _ (le_false _ _ h))

is_behind : (s : Span) (m : ℕ) → s.end ≤ m → ◌≡◌ {A = ℕ} (cond (is_in_span s m) 1 0) 0
is_behind s m h = ap (λ t. cond t 1 0) (and_false_right _ _ (lt_false _ _ h))

held_before : (s : Span) (m : ℕ) → m ≤ s.first → held_to s m ≡ 0
held_before s zero h = refl
held_before s (suc m) h = omega (arith, held_before s m (omega arith), is_before s m (omega arith))

held_within : (s : Span) (m : ℕ) → s.first ≤ m → m ≤ s.end → held_to s m + s.first ≡ m
held_within s zero low high = omega arith
held_within s (suc m) low high = ⊎_elim
    (λ (l : m < s.first). let e = held_before s (suc m) (omega arith) in omega (arith, e))
    (λ (l : s.first ≤ m). omega (arith, held_within s m l (omega arith), is_held s m l (omega arith)))
    (cases_lt m s.first)

held_all : (s : Span) (m : ℕ) → s.first ≤ s.end → s.end ≤ m → held_to s m ≡ s.end - s.first
held_all s zero order within = omega arith
held_all s (suc m) order within = ⊎_elim
    (λ (l : m < s.end). let e = held_within s (suc m) (omega arith) (omega arith) in omega (arith, e))
    (λ (l : s.end ≤ m). omega (arith, held_all s m order l, is_behind s m l))
    (cases_lt m s.end)

longer : (t : Bool) (number : ℕ) (xs : List ℕ) → length (cond t (number ∷ xs) xs) ≡ cond t 1 0 + length xs
longer true number xs = omega arith
longer false number xs = omega arith

one_more : (s : Span) (spans : List Span) (number m : ℕ) → sum_by length (lists_to (s ∷ spans) number m) ≡ held_to s m + sum_by length (lists_to spans (suc number) m)
one_more s spans number zero = refl
one_more s spans number (suc m) =
    let n : m + 1 ≡ suc m = omega arith in
    let here = sum_by-map-range_with_len_more length (held_from (s ∷ spans) number) 0 m m (omega arith) in
    let there = sum_by-map-range_with_len_more length (held_from spans (suc number)) 0 m m (omega arith) in
    let here' : sum_by length (lists_to (s ∷ spans) number (suc m)) ≡ sum_by length (lists_to (s ∷ spans) number m) + length (held_from (s ∷ spans) number m) = ap (λ (k : ℕ). sum_by length (lists_to (s ∷ spans) number k)) (sym n) ∙ here in
    let there' : sum_by length (lists_to spans (suc number) (suc m)) ≡ sum_by length (lists_to spans (suc number) m) + length (held_from spans (suc number) m) = ap (λ (k : ℕ). sum_by length (lists_to spans (suc number) k)) (sym n) ∙ there in
    let l : length (held_from (s ∷ spans) number m) ≡ cond (is_in_span s m) 1 0 + length (held_from spans (suc number) m) = longer (is_in_span s m) number (held_from spans (suc number) m) in
    omega (arith, here', there', l, one_more s spans number m)

none_listed : (number m : ℕ) → sum_by length (lists_to [] number m) ≡ 0
none_listed number zero = refl
none_listed number (suc m) =
    let n : m + 1 ≡ suc m = omega arith in
    let here = sum_by-map-range_with_len_more length (held_from [] number) 0 m m (omega arith) in
    ap (λ (k : ℕ). sum_by length (lists_to [] number k)) (sym n) ∙ here ∙ ap (λ (k : ℕ). k + 0) (none_listed number m)

-- the lists have as many numbers as the spans hold places
pub listed_is : (spans : List Span) (number m : ℕ) → All (IsWithinCount m) spans → sum_by length (lists_to spans number m) ≡ total_held spans
listed_is [] number m h = none_listed number m
listed_is (s ∷ spans) number m h =
    let first = h 0 s (omega arith) in
    let rest = listed_is spans (suc number) m (λ k d less. h (suc k) d (omega arith)) in
    omega (arith, one_more s spans number m, held_all s m first.order first.within, rest, sum_by-cons (λ (s : Span). s.end - s.first) s spans)

-- lists that are those of the spans at each place
pub lists_are : (spans : List Span) (m : ℕ) (lists : List (List ℕ)) → length lists ≡ m → ((k : ℕ) → k < m → get_or lists k [] ≡ holding_lines spans k) → lists ≡ lists_to spans 0 m
lists_are spans m lists size each = ext_get_or [] lists (lists_to spans 0 m) (size ∙ sym (length-map-range_with_len (held_from spans 0) 0 m))
    (λ i less. let l : i < m = omega (arith, size) in each i l ∙ sym (get_or-map-range_with_len (held_from spans 0) 0 m i i [] l (omega arith)))

pub count_of_lists : (spans : List Span) (m : ℕ) → length (lists_to spans 0 m) ≡ m
count_of_lists spans m = length-map-range_with_len (held_from spans 0) 0 m

-- spans that end at 0 hold nothing
pub flat_hold_none : (spans : List Span) → All (λ s. s.end ≡ 0) spans → total_held spans ≡ 0
flat_hold_none spans h = let few = sum_by-le (λ (s : Span). s.end - s.first) 0 spans (λ k d less. let e = h k d less in omega (arith, e)) in omega (arith, few)

-- the lists of stretches are those of lines
pub by_lines : (cuts : List ℕ) (height : ℕ) (spans stretches : List Span) → ((y : ℕ) → y < height → holding_lines stretches (stretch_of cuts y) ≡ holding_lines spans y) → All (IsWithinCount (length cuts + 1)) stretches → (height ≡ 0 → All (λ s. s.end ≡ 0) stretches) → AreListsOf cuts height spans (lists_to stretches 0 (length cuts + 1))
by_lines cuts height spans stretches held within none = record {
  count = count_of_lists stretches (length cuts + 1);
  lists = λ y less. get_or-map-range_with_len (held_from stretches 0) 0 (length cuts + 1) (stretch_of cuts y) (stretch_of cuts y) [] (let w = stretch_within cuts y in omega (arith, w)) (omega arith) ∙ held y less;
  none = λ flat. listed_is stretches 0 (length cuts + 1) within ∙ flat_hold_none stretches (none flat);
}
