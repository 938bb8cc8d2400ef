-- Stretches of lines between cuts, and the spans that hold them.
use Rattle.std.proofs.Common.{◌≡◌, ℕ, zero, suc, ◌+◌, ◌-◌, ◌<◌, ◌≤◌, ◌&&◌, List, [], ◌∷◌, length, get_or, Bool, true, false, cond, refl, sym, ap, ◌∙◌, arith, ⊎_elim, ◌⊎◌, nat_lt, nat_le}
use Rattle.std.specs.List.{Contains, All, count_by}
use Rattle.std.specs.List.Sorted.{IsStrictlyIncreasing, IsNonDecreasingBy}
use Rattle.std.proofs.lemmas.Bool.{cases_lt}
use Rattle.std.proofs.lemmas.List.{get_or_default}
use Rattle.std.proofs.lemmas.Bool.Decides.{nat_tests}
use Rattle.std.proofs.lemmas.List.Kept.{AllPairs-from_increasing}
use Rattle.std.proofs.lemmas.List.Sums.{sum_by-cons, count_by-le-length}
use Rattle.std.proofs.lemmas.List.Elements.{Contains-get_or, All-contains}
use Rattle.mosaic_sources.specs.Rows.{stretch_of, is_in_span}
use Rattle.mosaic_sources.specs.Stretches.{holding_lines, HasEdges, IsEdge, IsEdgeOfOne}
use Rattle.mosaic_sources.specs.declared.spans.Span.{Span}
use Rattle.mosaic_sources.proofs.Passing.{tests_agree}

-- numbers that rise strictly don't fall
pub rising_keeps : (xs : List ℕ) → IsStrictlyIncreasing xs → IsNonDecreasingBy (λ (x : ℕ). x) xs
rising_keeps xs h i j d le less = ⊎_elim
    (λ (l : i < j). let e = AllPairs-from_increasing xs h i j d l less in omega (arith, e))
    (λ (l : j ≤ i). let e : i ≡ j = omega arith in let f : get_or xs i d ≡ get_or xs j d = ap (λ (k : ℕ). get_or xs k d) e in omega (arith, f))
    (cases_lt i j)

count_cons : (p : ℕ → Bool) (x : ℕ) (xs : List ℕ) → count_by p (x ∷ xs) ≡ cond (p x) 1 0 + count_by p xs
count_cons p x xs = sum_by-cons (λ y. cond (p y) 1 0) x xs

one_at : (p : ℕ → Bool) (x : ℕ) → p x ≡ true → ◌≡◌ {A = ℕ} (cond (p x) 1 0) 1
one_at p x e = ap (λ t. cond t 1 0) e

none_at : (p : ℕ → Bool) (x : ℕ) → p x ≡ false → ◌≡◌ {A = ℕ} (cond (p x) 1 0) 0
none_at p x e = ap (λ t. cond t 1 0) e

-- where those in front pass and no others, there are as many as stand in front
pub count_in_front : (p : ℕ → Bool) (xs : List ℕ) (i : ℕ) → i ≤ length xs → ((k d : ℕ) → 0 ≤ k → k < i → p (get_or xs k d) ≡ true) → ((k d : ℕ) → i ≤ k → k < length xs → p (get_or xs k d) ≡ false) → count_by p xs ≡ i
count_in_front p [] zero h front rest = refl
count_in_front p [] (suc i) h front rest = absurd (omega arith)
count_in_front p (x ∷ xs) zero h front rest =
    let e : ◌≡◌ {A = ℕ} (cond (p x) 1 0) 0 = none_at p x (rest 0 0 (omega arith) (omega arith)) in
    let r = count_in_front p xs 0 (omega arith) (λ k d a b. absurd (omega arith)) (λ k d a b. rest (suc k) d (omega arith) (omega arith)) in
    omega (arith, count_cons p x xs, e, r)
count_in_front p (x ∷ xs) (suc i) h front rest =
    let e : ◌≡◌ {A = ℕ} (cond (p x) 1 0) 1 = one_at p x (front 0 0 (omega arith) (omega arith)) in
    let r = count_in_front p xs i (omega arith) (λ k d a b. front (suc k) d (omega arith) (omega arith)) (λ k d a b. rest (suc k) d (omega arith) (omega arith)) in
    omega (arith, count_cons p x xs, e, r)

pub le_true : (a b : ℕ) → a ≤ b → nat_le a b ≡ true
le_true a b h = grind (arith, nat_tests)

pub le_false : (a b : ℕ) → b < a → nat_le a b ≡ false
le_false a b h = grind (arith, nat_tests)

pub from_le : (a b : ℕ) → nat_le a b ≡ true → a ≤ b
from_le a b h = grind (arith, nat_tests)

pub from_not_le : (a b : ℕ) → nat_le a b ≡ false → b < a
from_not_le a b h = grind (arith, nat_tests)

one_rises : (x a b : ℕ) → a ≤ b → cond (nat_le x a) 1 0 ≤ cond (nat_le x b) 1 0
one_rises x a b h = ⊎_elim
    (λ (l : a < x). let e = none_at (λ c. nat_le c a) x (le_false x a l) in omega (arith, e))
    (λ (l : x ≤ a). let e = one_at (λ c. nat_le c a) x (le_true x a l) in let f = one_at (λ c. nat_le c b) x (le_true x b (omega arith)) in omega (arith, e, f))
    (cases_lt a x)

-- a later line is in no earlier stretch
pub stretch_rises : (cuts : List ℕ) (a b : ℕ) → a ≤ b → stretch_of cuts a ≤ stretch_of cuts b
stretch_rises [] a b h = omega arith
stretch_rises (x ∷ xs) a b h = omega (arith, count_cons (λ c. nat_le c a) x xs, count_cons (λ c. nat_le c b) x xs, one_rises x a b h, stretch_rises xs a b h)

ends_at : (cuts : List ℕ) (y a k : ℕ) → k < length cuts → get_or cuts k a ≡ a → y < a → stretch_of cuts y < stretch_of cuts a
ends_at [] y a k less is l = absurd (omega arith)
ends_at (x ∷ xs) y a zero less is l =
    let before = none_at (λ c. nat_le c y) x (le_false x y (omega (arith, is))) in
    let behind = one_at (λ c. nat_le c a) x (le_true x a (omega (arith, is))) in
    omega (arith, count_cons (λ c. nat_le c y) x xs, count_cons (λ c. nat_le c a) x xs, before, behind, stretch_rises xs y a (omega arith))
ends_at (x ∷ xs) y a (suc k) less is l =
    omega (arith, count_cons (λ c. nat_le c y) x xs, count_cons (λ c. nat_le c a) x xs, one_rises x y a (omega arith), ends_at xs y a k (omega arith) is l)

-- as many stretches are behind a line as cuts are at or above it
pub stretch_at : (cuts : List ℕ) (i z : ℕ) → i ≤ length cuts → ((k d : ℕ) → k < i → get_or cuts k d ≤ z) → ((k d : ℕ) → i ≤ k → k < length cuts → z < get_or cuts k d) → stretch_of cuts z ≡ i
stretch_at cuts i z within before behind = count_in_front (λ c. nat_le c z) cuts i within (λ k d from less. le_true _ _ (before k d less)) (λ k d from less. le_false _ _ (behind k d from less))

-- up to the next cut the stretch is that of a line
pub same_before_cut : (cuts : List ℕ) (i y z : ℕ) → IsStrictlyIncreasing cuts → i < length cuts → ((k d : ℕ) → k < i → get_or cuts k d ≤ y) → y ≤ z → z < get_or cuts i 0 → stretch_of cuts z ≡ i
same_before_cut cuts i y z rising less before from below = stretch_at cuts i z (omega arith)
    (λ k d l. let e = before k d l in omega (arith, e))
    (λ k d l short. let e = rising_keeps cuts rising i k d l short in let f : get_or cuts i 0 ≡ get_or cuts i d = get_or_default cuts i 0 d less in omega (arith, e, f))

-- behind the last cut there is one stretch
pub same_at_end : (cuts : List ℕ) (i y z : ℕ) → i ≤ length cuts → length cuts ≤ i → ((k d : ℕ) → k < i → get_or cuts k d ≤ y) → y ≤ z → stretch_of cuts z ≡ i
same_at_end cuts i y z within end before from = stretch_at cuts i z within
    (λ k d l. let e = before k d l in omega (arith, e))
    (λ k d l short. absurd (omega (arith, l, short, end)))

-- a line before a cut is in an earlier stretch
pub stretch_ends : (cuts : List ℕ) (y a : ℕ) → Contains cuts a → y < a → stretch_of cuts y < stretch_of cuts a
stretch_ends cuts y a there l = ends_at cuts y a there.0 there.1 there.2 l

pub stretch_within : (cuts : List ℕ) (y : ℕ) → stretch_of cuts y ≤ length cuts
stretch_within cuts y = count_by-le-length (λ c. nat_le c y) cuts

pub and_true : (t u : Bool) → t ≡ true → u ≡ true → (t && u) ≡ true
and_true true u e f = f
and_true false u e f = cc

pub and_false_left : (t u : Bool) → t ≡ false → (t && u) ≡ false
and_false_left true u e = cc
and_false_left false u e = refl

pub and_false_right : (t u : Bool) → u ≡ false → (t && u) ≡ false
and_false_right true u e = e
and_false_right false u e = refl

pub lt_true : (a b : ℕ) → a < b → nat_lt a b ≡ true
lt_true a b h = grind (arith, nat_tests)

pub lt_false : (a b : ℕ) → b ≤ a → nat_lt a b ≡ false
lt_false a b h = grind (arith, nat_tests)

-- Where a span begins and ends at cuts, a line is in it exactly where the line's stretch is one of the span's.
pub held_by_stretch : (cuts : List ℕ) (height : ℕ) (s : Span) (end : ℕ) → HasEdges cuts height s → s.first < s.end → (s.end < height → end ≡ stretch_of cuts s.end) → (height ≤ s.end → end ≡ length cuts + 1) → (y : ℕ) → y < height
    → (nat_le (stretch_of cuts s.first) (stretch_of cuts y) && nat_lt (stretch_of cuts y) end) ≡ is_in_span s y
held_by_stretch cuts height s end edges some inner last y below = ⊎_elim
    (λ (l : y < s.first).
    let at_cut = edges.first some (omega arith) in
    and_false_left _ _ (le_false _ _ (stretch_ends cuts y s.first at_cut l)) ∙ sym (and_false_left _ _ (le_false _ _ l)))
    (λ (l : s.first ≤ y).
    let from = le_true _ _ (stretch_rises cuts s.first y l) in
    ⊎_elim
    (λ (m : y < s.end).
    let e : stretch_of cuts y < end = ⊎_elim
    (λ (n : s.end < height). let e = inner n in omega (arith, e, stretch_ends cuts y s.end (edges.end some n) m))
    (λ (n : height ≤ s.end). let e = last n in omega (arith, e, stretch_within cuts y))
    (cases_lt s.end height) in
    and_true _ _ from (lt_true _ _ e) ∙ sym (and_true _ _ (le_true _ _ l) (lt_true _ _ m)))
    (λ (m : s.end ≤ y).
    let e = inner (omega arith) in
    let f : end ≤ stretch_of cuts y = omega (arith, e, stretch_rises cuts s.end y m) in
    and_false_right _ _ (lt_false _ _ f) ∙ sym (and_false_right _ _ (lt_false _ _ m)))
    (cases_lt y s.end))
    (cases_lt y s.first)

-- a span without lines holds none
pub none_held : (s : Span) (y : ℕ) → s.end ≤ s.first → is_in_span s y ≡ false
none_held s y h = ⊎_elim
    (λ (l : y < s.first). and_false_left _ _ (le_false _ _ l))
    (λ (l : s.first ≤ y). let e : s.end ≤ y = omega arith in and_false_right _ _ (lt_false _ _ e))
    (cases_lt y s.first)

-- where no line is, a span has none
pub flat : (spans : List Span) (i : ℕ) (d : Span) (height : ℕ) → All (λ s. s.end ≤ height) spans → i < length spans → height ≡ 0 → (get_or spans i d).end ≤ (get_or spans i d).first
flat spans i d height h less none = let e = h i d less in omega (arith, e, none)

-- further cuts change nothing of what is there
pub edges_kept : (xs ys : List ℕ) (height : ℕ) (s : Span) → ((x : ℕ) → Contains xs x → Contains ys x) → HasEdges xs height s → HasEdges ys height s
edges_kept xs ys height s kept h = record { first = λ a b. kept s.first (h.first a b); end = λ a b. kept s.end (h.end a b) }

pub no_edges : (xs : List ℕ) (height : ℕ) (s : Span) → s.end ≤ s.first → HasEdges xs height s
no_edges xs height s h = record { first = λ a b. absurd (omega arith); end = λ a b. absurd (omega arith) }

-- the first stretch of a span isn't behind its end
pub stretches_in_order : (cuts : List ℕ) (height : ℕ) (s : Span) (first end : ℕ) → s.first < s.end → first ≡ stretch_of cuts s.first → (s.end < height → end ≡ stretch_of cuts s.end) → (height ≤ s.end → end ≡ length cuts + 1) → first ≤ end
stretches_in_order cuts height s first end some is inner last = ⊎_elim
    (λ (n : s.end < height). let e = inner n in omega (arith, is, e, stretch_rises cuts s.first s.end (omega arith)))
    (λ (n : height ≤ s.end). let e = last n in omega (arith, is, e, stretch_within cuts s.first))
    (cases_lt s.end height)

-- at an edge of a span the span's test changes
edge_changes : (s : Span) (y : ℕ) → IsEdge s y → 0 < y → is_in_span s (y - 1) ≡ is_in_span s y → ⊥
edge_changes s y edge low same = ⊎_elim
    (λ (e : s.first ≡ y).
    let before = and_false_left (nat_le s.first (y - 1)) (nat_lt (y - 1) s.end) (le_false s.first (y - 1) (omega (arith, e))) in
    let here = and_true (nat_le s.first y) (nat_lt y s.end) (le_true s.first y (omega (arith, e))) (lt_true y s.end (omega (arith, e, edge.some))) in
    let clash : false ≡ true = sym before ∙ same ∙ here in cc)
    (λ (e : s.end ≡ y).
    let before = and_true (nat_le s.first (y - 1)) (nat_lt (y - 1) s.end) (le_true s.first (y - 1) (omega (arith, e, edge.some))) (lt_true (y - 1) s.end (omega (arith, e))) in
    let here = and_false_right (nat_le s.first y) (nat_lt y s.end) (lt_false y s.end (omega (arith, e))) in
    let clash : true ≡ false = sym before ∙ same ∙ here in cc)
    edge.at

pub cut_changes : (spans : List Span) (y : ℕ) → IsEdgeOfOne spans y → 0 < y → holding_lines spans (y - 1) ≡ holding_lines spans y → ⊥
cut_changes spans y there low same =
    let k = there.0 in
    let s = there.1 in
    let less = there.2 in
    let is = there.3 in
    let edge = there.4 in
    edge_changes s y edge low (ap (λ s. is_in_span s (y - 1)) (sym is) ∙ tests_agree (λ s. is_in_span s (y - 1)) (λ s. is_in_span s y) spans 0 same k s less ∙ ap (λ s. is_in_span s y) is)

-- between cuts the stretch stays
stays_at : (x y : ℕ) → (x ≡ y → ⊥) → ◌≡◌ {A = ℕ} (cond (nat_le x (y - 1)) 1 0) (cond (nat_le x y) 1 0)
stays_at x y other = ⊎_elim
    (λ (l : x < y). let e = one_at (λ c. nat_le c (y - 1)) x (le_true x (y - 1) (omega arith)) in let f = one_at (λ c. nat_le c y) x (le_true x y (omega arith)) in e ∙ sym f)
    (λ (l : y ≤ x). ⊎_elim
    (λ (m : y < x). let e = none_at (λ c. nat_le c (y - 1)) x (le_false x (y - 1) (omega arith)) in let f = none_at (λ c. nat_le c y) x (le_false x y m) in e ∙ sym f)
    (λ (m : x ≤ y). absurd (other (omega arith)))
    (cases_lt y x))
    (cases_lt x y)

pub stretch_stays : (cuts : List ℕ) (y : ℕ) → (Contains cuts y → ⊥) → stretch_of cuts (y - 1) ≡ stretch_of cuts y
stretch_stays [] y other = refl
stretch_stays (x ∷ xs) y other =
    let e = stays_at x y (λ is. other (0, omega arith, is)) in
    let r = stretch_stays xs y (λ there. other (suc there.0, omega (arith, there.1), there.2)) in
    omega (arith, count_cons (λ c. nat_le c (y - 1)) x xs, count_cons (λ c. nat_le c y) x xs, e, r)

-- the edges of one span more
pub edges_from : (old new : List ℕ) (spans : List Span) (i : ℕ) (d : Span) → i < length spans → ((x : ℕ) → Contains new x → Contains old x ⊎ IsEdge (get_or spans i d) x) → All (IsEdgeOfOne spans) old → All (IsEdgeOfOne spans) new
edges_from old new spans i d less from before k e short =
    let x = get_or new k e in
    ⊎_elim
    (λ (there : Contains old x). All-contains (IsEdgeOfOne spans) old x before there)
    (λ (edge : IsEdge (get_or spans i d) x). let c = Contains-get_or spans i d less in (c.0, get_or spans i d, c.1, c.2, edge))
    (from x (Contains-get_or new k e short))
