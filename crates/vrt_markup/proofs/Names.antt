-- Names in order, each one once, are as many as before just where no attribute stands twice.
use Rattle.std.proofs.Common.{◌≡◌, ℕ, suc, ◌+◌, ◌<◌, ◌≤◌, Bool, true, false, cond, not, ◌||◌, ◌&&◌, List, [], ◌∷◌, ◌++◌, map, length, drop, Option, Some, None, refl, sym, ap, ◌∙◌, subst, arith, ◌==◌, IsPermutation, IsSorted}
use Rattle.std.specs.declared.cmp.Ordering.{Ordering}
use Rattle.std.specs.Ordering.{nat_cmp, eq_by_cmp, ordering_then}
use Rattle.std.specs.List.{prefix_len, list_any, AllByRecursion, IsDistinct, dedup, dedup_from}
use Rattle.std.specs.List.Sorted.{IsStrictlySortedBy}
use Rattle.std.specs.Cmp.{IsTotalOrder, then_total, on_total, nat_cmp_total, unsigned_ties, both_tied}
use Rattle.std.specs.Cmp.Lexicographic.{slice_cmp, on_texts, texts_ties, same_text}
use Rattle.std.proofs.lemmas.Bool.Decides.{nat_tests}
use Rattle.std.proofs.lemmas.List.{map-append, append_assoc}
use Rattle.std.proofs.lemmas.List.Kept.{IsStrictlySortedBy-dedup}
use Rattle.std.proofs.lemmas.List.Sorted.{IsPermutation-sym, length_permutation}
use Rattle.std.proofs.lemmas.Map.Keys.{IsDistinct-from_sorted, IsDistinct-IsPermutation, IsDistinct-head, IsDistinct-tail, IsDistinct-cons}
use Rattle.vrt_markup.specs.Items.{Pair, attribute, is_distinct, is_equal, is_some, spaces_at, pair_at, pairs, name_at, byte_at, value_at, trim_front, tag_end, tag_front, tag_at, Tag}
use Rattle.lists_and_answers.specs.Options.{◌>>=◌}
use Rattle.lists_and_answers.specs.Texts.{is_white}
use Rattle.vrt_markup.specs.Keys.{sort_key_of, name_number, number_of, apart, double_from, double_of}
use Rattle.vrt_markup.proofs.Shorter.{pairs_next, pairs_none}

both_ways : (a b : Bool) → (a ≡ true → b ≡ true) → (b ≡ true → a ≡ true) → a ≡ b
both_ways true b to from = sym (to refl)
both_ways false true to from = from refl
both_ways false false to from = refl

any_case : {X : Type 0} (p : X → Bool) (x : X) (xs : List X) (a b : Bool) → p x ≡ a → list_any p xs ≡ b → (list_any p xs ≡ false → AllByRecursion (λ y. p y ≡ false) xs) → (a || b) ≡ false → AllByRecursion (λ y. p y ≡ false) (x ∷ xs)
any_case p x xs true b e f ih h = absurd cc
any_case p x xs false true e f ih h = absurd cc
any_case p x xs false false e f ih h = (e, ih f)

none_same : {X : Type 0} (p : X → Bool) (xs : List X) → list_any p xs ≡ false → AllByRecursion (λ y. p y ≡ false) xs
none_same p [] h = tt
none_same p (x ∷ xs) h = any_case p x xs (p x) (list_any p xs) refl refl (none_same p xs) h

same_none : {X : Type 0} (p : X → Bool) (xs : List X) → AllByRecursion (λ y. p y ≡ false) xs → list_any p xs ≡ false
same_none p [] h = refl
same_none p (x ∷ xs) h = ap (λ b. b || list_any p xs) h.0 ∙ same_none p xs h.1

apart_case : {X : Type 0} (same : X → X → Bool) (x : X) (xs : List X) (a b : Bool) → list_any (same x) xs ≡ a → apart same xs ≡ b → (apart same xs ≡ true → IsDistinct same xs) → (not a && b) ≡ true → IsDistinct same (x ∷ xs)
apart_case same x xs true b e f ih h = absurd cc
apart_case same x xs false false e f ih h = absurd cc
apart_case same x xs false true e f ih h = IsDistinct-cons same x xs (none_same (same x) xs e) (ih f)

distinct_from_apart : {X : Type 0} (same : X → X → Bool) (xs : List X) → apart same xs ≡ true → IsDistinct same xs
unfolding IsDistinct
distinct_from_apart same [] h = tt
distinct_from_apart same (x ∷ xs) h = apart_case same x xs (list_any (same x) xs) (apart same xs) refl refl (distinct_from_apart same xs) h

apart_from_distinct : {X : Type 0} (same : X → X → Bool) (xs : List X) → IsDistinct same xs → apart same xs ≡ true
apart_from_distinct same [] d = refl
apart_from_distinct same (x ∷ xs) d = ap (λ b. not b && apart same xs) (same_none (same x) xs (IsDistinct-head same x xs d)) ∙ apart_from_distinct same xs (IsDistinct-tail same x xs d)

-- A list without two of the same stays as it is.
stays_from : {X : Type 0} (same : X → X → Bool) (flips : (x y : X) → same x y ≡ same y x) (k : X) (xs : List X) → AllByRecursion (λ y. same k y ≡ false) xs → IsDistinct same xs → dedup_from same k xs ≡ k ∷ xs
stays_from same flips k [] all d = refl
stays_from same flips k (x ∷ xs) all d =
    ap (λ b. cond b (dedup_from same k xs) (k ∷ dedup_from same x xs)) (flips x k ∙ all.0)
    ∙ ap (λ ys. k ∷ ys) (stays_from same flips x xs (IsDistinct-head same x xs d) (IsDistinct-tail same x xs d))

stays : {X : Type 0} (same : X → X → Bool) (flips : (x y : X) → same x y ≡ same y x) (xs : List X) → IsDistinct same xs → dedup same xs ≡ xs
stays same flips [] d = refl
stays same flips (x ∷ xs) d = stays_from same flips x xs (IsDistinct-head same x xs d) (IsDistinct-tail same x xs d)

-- No list gets longer, and one that gets no shorter stays as it is.
long_case : {X : Type 0} (b : Bool) (us vs : List X) (n : ℕ) → length us ≤ n → length vs ≤ n → length (cond b us vs) ≤ n
long_case true us vs n u v = u
long_case false us vs n u v = v

from_long : {X : Type 0} (same : X → X → Bool) (k : X) (xs : List X) → length (dedup_from same k xs) ≤ length xs + 1
from_long same k [] = omega arith
from_long same k (x ∷ xs) = long_case (same x k) (dedup_from same k xs) (k ∷ dedup_from same x xs) (length (x ∷ xs) + 1) (omega (arith, from_long same k xs)) (omega (arith, from_long same x xs))

whole_case : {X : Type 0} (b : Bool) (us vs : List X) (k x : X) (xs : List X) → length us ≤ length xs + 1 → (length vs ≡ length xs + 1 → vs ≡ x ∷ xs) → length (cond b us (k ∷ vs)) ≡ length xs + 2 → cond b us (k ∷ vs) ≡ k ∷ x ∷ xs
whole_case true us vs k x xs le ih e = absurd (omega (arith, le, e))
whole_case false us vs k x xs le ih e = ap (λ ys. k ∷ ys) (ih (omega (arith, e)))

whole_from : {X : Type 0} (same : X → X → Bool) (k : X) (xs : List X) → length (dedup_from same k xs) ≡ length xs + 1 → dedup_from same k xs ≡ k ∷ xs
whole_from same k [] e = refl
whole_from same k (x ∷ xs) e = whole_case (same x k) (dedup_from same k xs) (dedup_from same x xs) k x xs (from_long same k xs) (whole_from same x xs) (omega (arith, e))

whole : {X : Type 0} (same : X → X → Bool) (xs : List X) → length (dedup same xs) ≡ length xs → dedup same xs ≡ xs
whole same [] e = refl
whole same (x ∷ xs) e = whole_from same x xs (omega (arith, e))

-- What is left of a list in order tells whether the list had two of the same.
pub left_tells : {X : Type 0} {R : X → X → Ordering} (o : IsTotalOrder R) (same : X → X → Bool) (ties : (x y : X) → same x y ≡ eq_by_cmp R x y) (flips : (x y : X) → same x y ≡ same y x) (xs ys : List X) → IsPermutation xs ys → IsSorted R ys → (length (dedup same ys) == length xs) ≡ apart same xs
left_tells {X} {R} o same ties flips xs ys moved sorted = both_ways (length (dedup same ys) == length xs) (apart same xs) to from
  where
    to : (length (dedup same ys) == length xs) ≡ true → apart same xs ≡ true
    to e =
        let stood = whole same ys (grind (arith, nat_tests, e, length_permutation xs ys moved)) in
        let rises = IsDistinct-from_sorted R ys (subst (IsStrictlySortedBy R) stood (IsStrictlySortedBy-dedup o ties ys sorted)) in
        let own : IsDistinct same ys = subst (λ e. IsDistinct e ys) (λ i x y. sym (ties x y) i) rises in
        apart_from_distinct same xs (IsDistinct-IsPermutation same flips ys xs (IsPermutation-sym xs ys moved) own)

    from : apart same xs ≡ true → (length (dedup same ys) == length xs) ≡ true
    from e =
        let own = IsDistinct-IsPermutation same flips xs ys moved (distinct_from_apart same xs e) in
        grind (arith, nat_tests, ap length (stays same flips ys own), length_permutation xs ys moved)

apart_map : {X Y : Type 0} (f : X → Y) (same : Y → Y → Bool) (xs : List X) → apart (λ x y. same (f x) (f y)) xs ≡ apart same (map f xs)
apart_map f same [] = refl
apart_map f same (x ∷ xs) = ap (λ b. not b && apart (λ x y. same (f x) (f y)) xs) (any_map xs) ∙ ap (λ b. not (list_any (same (f x)) (map f xs)) && b) (apart_map f same xs)
  where
    any_map : (ys : List _) → list_any (λ y. same (f x) (f y)) ys ≡ list_any (same (f x)) (map f ys)
    any_map [] = refl
    any_map (y ∷ ys) = ap (λ b. same (f x) (f y) || b) (any_map ys)

-- keys of names
abbrev pub same_key : ℕ × List ℕ → ℕ × List ℕ → Bool
same_key x y = (x.0 == y.0) && is_equal x.1 y.1

nat_flips : (x y : ℕ) → (x == y) ≡ (y == x)
nat_flips x y = grind (arith, nat_tests)

equal_flips : (a b : List ℕ) → is_equal a b ≡ is_equal b a
equal_flips [] [] = refl
equal_flips [] (y ∷ ys) = refl
equal_flips (x ∷ xs) [] = refl
equal_flips (x ∷ xs) (y ∷ ys) = ap (λ b. b && is_equal xs ys) (nat_flips x y) ∙ ap (λ b. (y == x) && b) (equal_flips xs ys)

same_itself : (n : ℕ) → (n == n) ≡ true
same_itself n = grind (arith, nat_tests)

same_names : (a b : List ℕ) → ((name_number a == name_number b) && is_equal a b) ≡ is_equal b a
same_names a b = by_case (is_equal a b) refl ∙ equal_flips a b
  where
    and_false : (x : Bool) → (x && false) ≡ false
    and_false true = refl
    and_false false = refl

    and_true : (x : Bool) → x ≡ true → (x && true) ≡ true
    and_true x e = ap (λ y. y && true) e

    by_case : (t : Bool) → is_equal a b ≡ t → ((name_number a == name_number b) && is_equal a b) ≡ is_equal a b
    by_case true e = ap (λ y. (name_number a == name_number b) && y) e ∙ and_true (name_number a == name_number b) (ap (λ n. name_number a == name_number n) (sym (same_text a b (sym e))) ∙ same_itself (name_number a)) ∙ sym e
    by_case false e = ap (λ y. (name_number a == name_number b) && y) e ∙ and_false (name_number a == name_number b) ∙ sym e

any_name : (p : Pair) (ps : List Pair) → list_any (same_key (sort_key_of p)) (map sort_key_of ps) ≡ is_some (attribute p.name ps)
any_name p [] = refl
any_name p (q ∷ qs) = ap (λ b. b || list_any (same_key (sort_key_of p)) (map sort_key_of qs)) (same_names p.name q.name) ∙ ap (λ b. is_equal q.name p.name || b) (any_name p qs) ∙ found (is_equal q.name p.name) (attribute p.name qs)
  where
    found : (b : Bool) (o : Option (List ℕ)) → (b || is_some o) ≡ is_some (cond b (Some q.value) o)
    found true o = refl
    found false o = refl

apart_names : (ps : List Pair) → apart same_key (map sort_key_of ps) ≡ is_distinct ps
apart_names [] = refl
apart_names (p ∷ ps) = ap (λ b. not b && apart same_key (map sort_key_of ps)) (any_name p ps) ∙ ap (λ b. not (is_some (attribute p.name ps)) && b) (apart_names ps)

-- One attribute more gives its key.
pub keys_more : {K : Type 0} (f : K → ℕ × List ℕ) (ks ms : List K) (k : K) (t : List ℕ) (p : Pair) (r : List ℕ) → ms ≡ ks ++ k ∷ [] → f k ≡ sort_key_of p → pair_at t ≡ Some (p, r) → map f ms ++ map sort_key_of (pairs r).0 ≡ map f ks ++ map sort_key_of (pairs t).0
keys_more f ks ms k t p r more same e =
    ap (λ xs. map f xs ++ map sort_key_of (pairs r).0) more
    ∙ ap (λ xs. xs ++ map sort_key_of (pairs r).0) (map-append f ks (k ∷ []))
    ∙ append_assoc (map f ks) (f k ∷ []) (map sort_key_of (pairs r).0)
    ∙ ap (λ x. map f ks ++ x ∷ map sort_key_of (pairs r).0) same
    ∙ ap (λ (x : List Pair × List ℕ). map f ks ++ map sort_key_of x.0) (sym (pairs_next t p r e))

-- What is left of the keys in order tells whether no attribute stands twice.
pub keys_tell : {K : Type 0} (f : K → ℕ × List ℕ) (xs ys zs : List K) (ps : List Pair) → map f xs ≡ map sort_key_of ps → IsPermutation xs ys → IsSorted (λ x y. ordering_then (nat_cmp (f x).0 (f y).0) (slice_cmp nat_cmp (f x).1 (f y).1)) ys → zs ≡ dedup (λ x y. same_key (f x) (f y)) ys → (length zs == length xs) ≡ is_distinct ps
keys_tell f xs ys zs ps keys moved sorted left =
    ap (λ ws. length ws == length xs) left
    ∙ left_tells (then_total (on_total (λ x. (f x).0) nat_cmp_total) (on_texts (λ x. (f x).1))) (λ x y. same_key (f x) (f y)) (λ x y. both_tied _ _ (nat_cmp (f x).0 (f y).0) (slice_cmp nat_cmp (f x).1 (f y).1) (unsigned_ties (f x).0 (f y).0) (texts_ties (f x).1 (f y).1)) (λ x y. ap (λ b. b && is_equal (f x).1 (f y).1) (nat_flips (f x).0 (f y).0) ∙ ap (λ b. ((f y).0 == (f x).0) && b) (equal_flips (f x).1 (f y).1)) xs ys moved sorted
    ∙ apart_map f same_key xs ∙ ap (apart same_key) keys ∙ apart_names ps

-- The same of numbers alone: one number more, and names whose numbers all differ.
pub numbers_more : (ns ms : List ℕ) (n : ℕ) (t : List ℕ) (p : Pair) (r : List ℕ) → ms ≡ ns ++ n ∷ [] → n ≡ number_of p → pair_at t ≡ Some (p, r) → ms ++ map number_of (pairs r).0 ≡ ns ++ map number_of (pairs t).0
numbers_more ns ms n t p r more same e =
    ap (λ xs. xs ++ map number_of (pairs r).0) more
    ∙ append_assoc ns (n ∷ []) (map number_of (pairs r).0)
    ∙ ap (λ x. ns ++ x ∷ map number_of (pairs r).0) same
    ∙ ap (λ (x : List Pair × List ℕ). ns ++ map number_of x.0) (sym (pairs_next t p r e))

single_case : (b : Bool) (k : ℕ) (us vs ws : List ℕ) (o : Option ℕ) → cond b (Some k) o ≡ None → (o ≡ None → vs ≡ ws) → cond b us (k ∷ vs) ≡ k ∷ ws
single_case true k us vs ws o h ih = absurd cc
single_case false k us vs ws o h ih = ap (λ zs. k ∷ zs) (ih h)

single_from : (k : ℕ) (xs : List ℕ) → double_from k xs ≡ None → dedup_from (λ x y. x == y) k xs ≡ k ∷ xs
single_from k [] h = refl
single_from k (x ∷ xs) h = single_case (x == k) k (dedup_from (λ x y. x == y) k xs) (dedup_from (λ x y. x == y) x xs) (x ∷ xs) (double_from x xs) h (single_from x xs)

single : (xs : List ℕ) → double_of xs ≡ None → dedup (λ x y. x == y) xs ≡ xs
single [] h = refl
single (x ∷ xs) h = single_from x xs h

-- Numbers in order, none of which is the one in front of it, all differ.
pub no_double : (xs ys : List ℕ) → IsPermutation xs ys → IsSorted nat_cmp ys → double_of ys ≡ None → apart (λ x y. x == y) xs ≡ true
no_double xs ys moved sorted none =
    sym (left_tells nat_cmp_total (λ x y. x == y) (λ x y. unsigned_ties x y) (λ x y. nat_flips x y) xs ys moved sorted)
    ∙ grind (arith, nat_tests, ap length (single ys none), length_permutation xs ys moved)

and_both : (a b : Bool) → (a && b) ≡ true → (a ≡ true) × (b ≡ true)
and_both true true h = (refl, refl)
and_both true false h = absurd cc
and_both false b h = absurd cc

or_both : (a b : Bool) → (a || b) ≡ false → (a ≡ false) × (b ≡ false)
or_both false false h = (refl, refl)
or_both false true h = absurd cc
or_both true b h = absurd cc

not_true : (a : Bool) → not a ≡ true → a ≡ false
not_true false h = refl
not_true true h = absurd cc

absent_case : (number : List ℕ → ℕ) (p q : Pair) (qs : List Pair) (b : Bool) → is_equal q.name p.name ≡ b → (number p.name == number q.name) ≡ false → is_some (attribute p.name qs) ≡ false → is_some (cond b (Some q.value) (attribute p.name qs)) ≡ false
absent_case number p q qs true e apart later =
    let hit : (number p.name == number q.name) ≡ true = ap (λ n. number p.name == number n) (same_text q.name p.name (sym e)) ∙ same_itself (number p.name) in
    absurd cc
absent_case number p q qs false e apart later = later

absent : (number : List ℕ → ℕ) (p : Pair) (ps : List Pair) → list_any (λ n. number p.name == n) (map (λ (q : Pair). number q.name) ps) ≡ false → is_some (attribute p.name ps) ≡ false
absent number p [] h = refl
absent number p (q ∷ qs) h =
    let both = or_both (number p.name == number q.name) (list_any (λ n. number p.name == n) (map (λ (q : Pair). number q.name) qs)) h in
    absent_case number p q qs (is_equal q.name p.name) refl both.0 (absent number p qs both.1)

-- Names whose numbers differ, whatever number each name has.
pub numbers_differ : (number : List ℕ → ℕ) (ps : List Pair) → apart (λ x y. x == y) (map (λ (p : Pair). number p.name) ps) ≡ true → is_distinct ps ≡ true
numbers_differ number [] h = refl
numbers_differ number (p ∷ ps) h =
    let numbers = map (λ (q : Pair). number q.name) ps in
    let both = and_both (not (list_any (λ n. number p.name == n) numbers)) (apart (λ x y. x == y) numbers) h in
    ap (λ b. not b && is_distinct ps) (absent number p ps (not_true (list_any (λ n. number p.name == n) numbers) both.0)) ∙ numbers_differ number ps both.1

pub numbers_tell : (ps : List Pair) → apart (λ x y. x == y) (map number_of ps) ≡ true → is_distinct ps ≡ true
numbers_tell ps h = numbers_differ name_number ps h

-- one name alone
pub few_differ : (ps : List Pair) (ns : List ℕ) → ns ≡ map number_of ps → length ns < 2 → is_distinct ps ≡ true
few_differ [] ns e less = refl
few_differ (p ∷ []) ns e less = refl
few_differ (p ∷ q ∷ qs) ns e less = absurd (omega (arith, ap length e, less))

and_none : (a : Bool) → (a && false) ≡ false
and_none true = refl
and_none false = refl

-- a name that stands twice among what is left, or first here and then once more
pub twice_later : (t : List ℕ) (p : Pair) (r : List ℕ) → pair_at t ≡ Some (p, r) → is_distinct (pairs r).0 ≡ false → is_distinct (pairs t).0 ≡ false
twice_later t p r e h =
    ap (λ (x : List Pair × List ℕ). is_distinct x.0) (pairs_next t p r e)
    ∙ ap (λ b. not (is_some (attribute p.name (pairs r).0)) && b) h
    ∙ and_none (not (is_some (attribute p.name (pairs r).0)))

pub twice_here : (t : List ℕ) (p : Pair) (r : List ℕ) → pair_at t ≡ Some (p, r) → is_some (attribute p.name (pairs r).0) ≡ true → is_distinct (pairs t).0 ≡ false
twice_here t p r e h =
    ap (λ (x : List Pair × List ℕ). is_distinct x.0) (pairs_next t p r e)
    ∙ ap (λ b. not b && is_distinct (pairs r).0) h

-- why a text begins with no tag: it has no name, no end, or an attribute twice
abbrev pub front_by : List ℕ × List ℕ → Option (Bool × List ℕ) → Option (Tag × List ℕ)
front_by n end = end >>= λ e. Some (record { name = n.0; pairs = (pairs n.1).0; empty = e.0 }, e.1)

abbrev pub tag_by : Option (List ℕ × List ℕ) → Option (Tag × List ℕ)
tag_by name = (name >>= λ n. front_by n (tag_end (trim_front (pairs n.1).1))) >>= λ x. cond (is_distinct x.0.pairs) (Some x) None

pub by_tag : (t : List ℕ) → tag_at t ≡ tag_by (name_at t)
unfolding tag_at tag_front
by_tag t = refl

pub tag_nameless : (t : List ℕ) → name_at t ≡ None → tag_at t ≡ None
tag_nameless t h = by_tag t ∙ ap tag_by h

pub tag_endless : (t name rest : List ℕ) → name_at t ≡ Some (name, rest) → tag_end (trim_front (pairs rest).1) ≡ None → tag_at t ≡ None
tag_endless t name rest e h = by_tag t ∙ ap tag_by e ∙ ap (λ end. front_by (name, rest) end >>= λ x. cond (is_distinct x.0.pairs) (Some x) None) h

twice_case : (n : List ℕ × List ℕ) (end : Option (Bool × List ℕ)) → is_distinct (pairs n.1).0 ≡ false → (front_by n end >>= λ x. cond (is_distinct x.0.pairs) (Some x) None) ≡ None
twice_case n None h = refl
twice_case n (Some e) h = ap (λ b. cond b (Some (record { name = n.0; pairs = (pairs n.1).0; empty = e.0 }, e.1)) None) h

pub tag_twice : (t name rest : List ℕ) → name_at t ≡ Some (name, rest) → is_distinct (pairs rest).0 ≡ false → tag_at t ≡ None
tag_twice t name rest e h = by_tag t ∙ ap tag_by e ∙ twice_case (name, rest) (tag_end (trim_front (pairs rest).1)) h

-- an attribute begins with white space
pub space_tells : (c : ℕ) (cs : List ℕ) → is_white c ≡ is_some (spaces_at (c ∷ cs))
space_tells c cs = by_case (is_white c) (prefix_len is_white cs)
  where
    by_case : (b : Bool) (n : ℕ) → b ≡ is_some (cond (cond b (1 + n) 0 == 0) None (Some (drop (cond b (1 + n) 0) (c ∷ cs))))
    by_case true n =
        let some : (1 + n == 0) ≡ false = grind (arith, nat_tests) in
        sym (ap (λ b. is_some (cond b None (Some (drop (1 + n) (c ∷ cs))))) some)
    by_case false n = refl

-- without the first white space the rest is trimmed
pub spaces_next : (c : ℕ) (cs : List ℕ) → is_some (spaces_at (c ∷ cs)) ≡ true → spaces_at (c ∷ cs) ≡ Some (trim_front cs)
spaces_next c cs h = by_case (is_white c) (prefix_len is_white cs) h
  where
    by_case : (b : Bool) (n : ℕ) → is_some (cond (cond b (1 + n) 0 == 0) None (Some (drop (cond b (1 + n) 0) (c ∷ cs)))) ≡ true → cond (cond b (1 + n) 0 == 0) None (Some (drop (cond b (1 + n) 0) (c ∷ cs))) ≡ Some (drop n cs)
    by_case true n h =
        let some : (1 + n == 0) ≡ false = grind (arith, nat_tests) in
        let one : 1 + n ≡ suc n = omega arith in
        ap (λ b. cond b None (Some (drop (1 + n) (c ∷ cs)))) some ∙ ap (λ k. Some (drop k (c ∷ cs))) one
    by_case false n h = absurd cc

pub none_of : {A : Type 0} (o : Option A) → is_some o ≡ false → o ≡ None
none_of None h = refl
none_of (Some x) h = absurd cc

no_pair : (t : List ℕ) → spaces_at t ≡ None → pair_at t ≡ None
unfolding pair_at
no_pair t h = ap (λ o. o >>= λ front. name_at front >>= λ name. byte_at 61 (trim_front name.1) >>= λ equals. value_at (trim_front equals) >>= λ value. Some (record { name = name.0; value = value.0 }, value.1)) h

pub spaceless : (t : List ℕ) → is_some (spaces_at t) ≡ false → pairs t ≡ ([], t)
spaceless t h = pairs_none t (no_pair t (none_of (spaces_at t) h))
