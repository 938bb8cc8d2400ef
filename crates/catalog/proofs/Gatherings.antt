-- The names of a mosaic's sources, gathered: whether they rise, or have other hashes.
use Rattle.std.proofs.Common.{◌≡◌, ◌∙◌, ap, sym, refl, true, false, cond, not, ◌||◌, ◌&&◌, zero, suc, ◌<◌, ◌==◌, ℕ, Bool, List, [], ◌∷◌, ◌++◌, map, drop, length, Some, bytes_eq, arith}
use Rattle.std.specs.Prelude.{slice_get}
use Rattle.std.specs.declared.cmp.Ordering.{Ordering}
use Rattle.std.specs.declared.cmp.Ordering.TheVariants.{Less, Equal, Greater}
use Rattle.std.specs.Ordering.{is_eq, is_gt, nat_cmp, ordering_reverse}
use Rattle.std.specs.Cmp.Lexicographic.{slice_cmp, nat_list_cmp_total}
use Rattle.std.specs.List.{filter, list_any}
use Rattle.std.proofs.lemmas.Bool.Decides.{nat_tests}
use Rattle.std.proofs.lemmas.Map.Text.{is_eq-slice_cmp}
use Rattle.std.proofs.lemmas.Slice.Eq.{bytes_eq-Decides}
use Rattle.lists_and_answers.specs.Lists.{is_among, with_name}
use Rattle.vrt_markup.specs.Hashes.{text_hash}
use Rattle.vrt_markup.specs.Keys.{apart}
use Rattle.catalog.specs.declared.gathered.Gathered.{Gathered}
use Rattle.catalog.specs.Mosaics.{distinct}
use Rattle.catalog.specs.Gathered.{HasGathered, last_order, order_behind, rises, is_rising}
use Rattle.catalog.proofs.Mosaics.{distinct_with, among_distinct}

-- no name yet
pub gathered_none : (own : List ℕ) (g : Gathered) → g.files ≡ own ∷ [] → g.rising ≡ true → HasGathered own [] g
gathered_none own g files rising = record { kept = []; files = files; rising = rising; same = refl }

pub or_true : (a : Bool) → (a || true) ≡ true
or_true true = refl
or_true false = refl

some_same : {X : Type 0} (x y : X) → Some x ≡ Some y → x ≡ y
some_same x y e = cc

-- the order behind some names
order_one : (own x : List ℕ) (kept : List (List ℕ)) (at : ℕ) (y : List ℕ) → slice_get (own ∷ kept) at ≡ Some y → length kept ≡ at → last_order own kept x ≡ slice_cmp nat_cmp x y
order_one own x [] zero y e l = ap (slice_cmp nat_cmp x) (some_same own y e)
order_one own x [] (suc at) y e l = absurd (omega (arith, l))
order_one own x (n ∷ ns) zero y e l = absurd (omega (arith, l))
order_one own x (n ∷ ns) (suc at) y e l = order_one n x ns at y e (omega (arith, l))

pub order_at : (files : List (List ℕ)) (x : List ℕ) (at : ℕ) (y : List ℕ) → 0 < at → slice_get files at ≡ Some y → length files ≡ suc at → slice_cmp nat_cmp x y ≡ order_behind files x
order_at [] x at y some e l = absurd (omega (arith, l))
order_at (own ∷ []) x at y some e l = absurd (omega (arith, some, l))
order_at (own ∷ n ∷ ns) x zero y some e l = absurd (omega (arith, some))
order_at (own ∷ n ∷ ns) x (suc at) y some e l = sym (order_one n x ns at y e (omega (arith, l)))

-- a name that is the last one already
same_order : (n x : List ℕ) → is_eq (slice_cmp nat_cmp x n) ≡ true → bytes_eq n x ≡ true
same_order n x e = (bytes_eq-Decides n x).1 (sym ((bytes_eq-Decides x n).0 (sym (is_eq-slice_cmp x n) ∙ e)))

last_order_among : (n : List ℕ) (ns : List (List ℕ)) (x : List ℕ) → is_eq (last_order n ns x) ≡ true → is_among (n ∷ ns) x ≡ true
last_order_among n [] x e = ap (λ b. b || is_among [] x) (same_order n x e)
last_order_among n (m ∷ ms) x e = ap (λ b. bytes_eq n x || b) (last_order_among m ms x e) ∙ or_true (bytes_eq n x)

order_among : (own : List ℕ) (kept : List (List ℕ)) (x : List ℕ) → is_eq (order_behind (own ∷ kept) x) ≡ true → is_among kept x ≡ true
order_among own [] x e = absurd cc
order_among own (n ∷ ns) x e = last_order_among n ns x e

pub gathered_again : (own : List ℕ) (names : List (List ℕ)) (g : Gathered) (x : List ℕ) → is_among (distinct names) x ≡ true → HasGathered own names g → HasGathered own (names ++ x ∷ []) g
gathered_again own names g x among h =
    record { kept = h.kept; files = h.files; rising = h.rising; same = h.same ∙ sym (distinct_with names x ∙ ap (λ b. cond b (distinct names) (distinct names ++ x ∷ [])) among) }

pub gathered_last : (own : List ℕ) (names : List (List ℕ)) (g : Gathered) (x : List ℕ) → is_eq (order_behind g.files x) ≡ true → HasGathered own names g → HasGathered own (names ++ x ∷ []) g
gathered_last own names g x last h =
    let among : is_among (distinct names) x ≡ true = ap (λ l. is_among l x) (sym h.same) ∙ among_distinct h.kept x ∙ order_among own h.kept x (ap (λ l. is_eq (order_behind l x)) (sym h.files) ∙ last) in
    gathered_again own names g x among h

-- the same of its bytes
pub last_is : (files : List (List ℕ)) (x : List ℕ) (at : ℕ) (y : List ℕ) → 0 < at → slice_get files at ≡ Some y → length files ≡ suc at → x ≡ y → is_eq (order_behind files x) ≡ true
last_is files x at y some e l same = ap is_eq (sym (order_at files x at y some e l)) ∙ is_eq-slice_cmp x y ∙ (bytes_eq-Decides x y).1 same

-- a new name
and_none : (b : Bool) → (b && true) ≡ b
and_none true = refl
and_none false = refl

and_moved : (a b c : Bool) → (a && (b && c)) ≡ ((a && b) && c)
and_moved true b c = refl
and_moved false b c = refl

rises_more : (n : List ℕ) (ns : List (List ℕ)) (x : List ℕ) → rises n (ns ++ x ∷ []) ≡ (rises n ns && is_gt (last_order n ns x))
rises_more n [] x = and_none (is_gt (slice_cmp nat_cmp x n))
rises_more n (m ∷ ms) x = ap (λ b. is_gt (slice_cmp nat_cmp m n) && b) (rises_more m ms x) ∙ and_moved (is_gt (slice_cmp nat_cmp m n)) (rises m ms) (is_gt (last_order m ms x))

rising_more : (own : List ℕ) (kept : List (List ℕ)) (x : List ℕ) → is_rising (kept ++ x ∷ []) ≡ (is_rising kept && is_gt (order_behind (own ∷ kept) x))
rising_more own [] x = refl
rising_more own (n ∷ ns) x = rises_more n ns x

pub gathered_more : (own : List ℕ) (names : List (List ℕ)) (old new : Gathered) (x : List ℕ) → new.rising ≡ (old.rising && is_gt (order_behind old.files x)) → new.files ≡ old.files ++ x ∷ [] → HasGathered own names old → HasGathered own (names ++ x ∷ []) new
gathered_more own names old new x rising files h =
    record {
      kept = h.kept ++ x ∷ [];
      files = files ∙ ap (λ l. l ++ x ∷ []) h.files;
      rising = rising ∙ ap (λ b. b && is_gt (order_behind old.files x)) h.rising ∙ ap (λ l. is_rising h.kept && is_gt (order_behind l x)) h.files ∙ sym (rising_more own h.kept x);
      same = distinct_with h.kept x ∙ ap (λ l. with_name l x) h.same ∙ sym (distinct_with names x);
    }

-- one more, where they don't rise
pub gathered_unordered : (own : List ℕ) (names : List (List ℕ)) (old new : Gathered) (x : List ℕ) → old.rising ≡ false → new.rising ≡ old.rising → new.files ≡ old.files ++ x ∷ [] → HasGathered own names old → HasGathered own (names ++ x ∷ []) new
gathered_unordered own names old new x unordered kept files h =
    gathered_more own names old new x (kept ∙ unordered ∙ sym (ap (λ b. b && is_gt (order_behind old.files x)) unordered)) files h

-- names that rise are distinct
and_true : (a b : Bool) → (a && b) ≡ true → (a ≡ true) × (b ≡ true)
and_true true true h = (refl, refl)
and_true true false h = absurd cc
and_true false b h = absurd cc

turned_less : (r : Ordering) → is_gt r ≡ true → ordering_reverse r ≡ Less
turned_less Less e = absurd cc
turned_less Equal e = absurd cc
turned_less Greater e = refl

below : (x y : List ℕ) → is_gt (slice_cmp nat_cmp y x) ≡ true → slice_cmp nat_cmp x y ≡ Less
below x y e = nat_list_cmp_total.antisymm x y ∙ turned_less (slice_cmp nat_cmp y x) e

less_differs : (x y : List ℕ) → slice_cmp nat_cmp x y ≡ Less → bytes_eq x y ≡ false
less_differs x y e = sym (is_eq-slice_cmp x y) ∙ ap is_eq e

rises_stay : (l n : List ℕ) (ns : List (List ℕ)) → slice_cmp nat_cmp l n ≡ Less → rises n ns ≡ true → filter (λ k. not (bytes_eq l k)) (n ∷ ns) ≡ n ∷ ns
rises_stay l n [] less h = ap (λ b. cond (not b) (n ∷ []) []) (less_differs l n less)
rises_stay l n (m ∷ ms) less h =
    let both = and_true (is_gt (slice_cmp nat_cmp m n)) (rises m ms) h in
    ap (λ b. cond (not b) (n ∷ filter (λ k. not (bytes_eq l k)) (m ∷ ms)) (filter (λ k. not (bytes_eq l k)) (m ∷ ms))) (less_differs l n less)
    ∙ ap (λ k. n ∷ k) (rises_stay l m ms (nat_list_cmp_total.trans l n m less (below n m both.0)) both.1)

rises_distinct : (n : List ℕ) (ns : List (List ℕ)) → rises n ns ≡ true → distinct (n ∷ ns) ≡ n ∷ ns
rises_distinct n [] h = refl
rises_distinct n (m ∷ ms) h =
    let both = and_true (is_gt (slice_cmp nat_cmp m n)) (rises m ms) h in
    ap (λ l. n ∷ filter (λ k. not (bytes_eq n k)) l) (rises_distinct m ms both.1) ∙ ap (λ l. n ∷ l) (rises_stay n m ms (below n m both.0) both.1)

pub rising_distinct : (ns : List (List ℕ)) → is_rising ns ≡ true → distinct ns ≡ ns
rising_distinct [] h = refl
rising_distinct (n ∷ ns) h = rises_distinct n ns h

-- names whose hashes differ are distinct
or_none : (a b : Bool) → (a || b) ≡ false → (a ≡ false) × (b ≡ false)
or_none false false h = (refl, refl)
or_none false true h = absurd cc
or_none true b h = absurd cc

and_both : (a b : Bool) → (not a && b) ≡ true → (a ≡ false) × (b ≡ true)
and_both false true h = (refl, refl)
and_both false false h = absurd cc
and_both true b h = absurd cc

pub number_flips : (m n : ℕ) → (m == n) ≡ (n == m)
number_flips m n = grind (arith, nat_tests)

number_same : (n : ℕ) → (n == n) ≡ true
number_same n = grind (arith, nat_tests)

other_name : (key : ℕ) (n k : List ℕ) (same : Bool) → bytes_eq n k ≡ same → (text_hash key n == text_hash key k) ≡ false → bytes_eq n k ≡ false
other_name key n k true e differ =
    let hit : (text_hash key n == text_hash key k) ≡ true = ap (λ m. text_hash key n == text_hash key m) (sym ((bytes_eq-Decides n k).0 e)) ∙ number_same (text_hash key n) in
    absurd cc
other_name key n k false e differ = e

all_stay : (key : ℕ) (n : List ℕ) (ks : List (List ℕ)) → list_any (λ m. text_hash key n == m) (map (text_hash key) ks) ≡ false → filter (λ k. not (bytes_eq n k)) ks ≡ ks
all_stay key n [] h = refl
all_stay key n (k ∷ ks) h =
    let both = or_none (text_hash key n == text_hash key k) (list_any (λ m. text_hash key n == m) (map (text_hash key) ks)) h in
    ap (λ b. cond (not b) (k ∷ filter (λ k. not (bytes_eq n k)) ks) (filter (λ k. not (bytes_eq n k)) ks)) (other_name key n k (bytes_eq n k) refl both.0)
    ∙ ap (λ l. k ∷ l) (all_stay key n ks both.1)

pub apart_distinct : (key : ℕ) (ns : List (List ℕ)) → apart (λ x y. x == y) (map (text_hash key) ns) ≡ true → distinct ns ≡ ns
apart_distinct key [] h = refl
apart_distinct key (n ∷ ns) h =
    let both = and_both (list_any (λ m. text_hash key n == m) (map (text_hash key) ns)) (apart (λ x y. x == y) (map (text_hash key) ns)) h in
    ap (λ l. n ∷ filter (λ k. not (bytes_eq n k)) l) (apart_distinct key ns both.1) ∙ ap (λ l. n ∷ l) (all_stay key n ns both.0)

-- what was gathered, each name once
pub listed_apart : (own : List ℕ) (names : List (List ℕ)) (g : Gathered) → ((g.rising ≡ true → is_rising (drop 1 g.files) ≡ true) → distinct (drop 1 g.files) ≡ drop 1 g.files) → HasGathered own names g → g.files ≡ own ∷ distinct names
listed_apart own names g told h =
    let behind : drop 1 g.files ≡ h.kept = ap (drop 1) h.files in
    let kept : distinct h.kept ≡ h.kept = ap distinct (sym behind) ∙ told (λ rising. ap is_rising behind ∙ sym h.rising ∙ rising) ∙ behind in
    h.files ∙ ap (λ l. own ∷ l) (sym kept ∙ h.same)

pub listed_once : (own : List ℕ) (names files : List (List ℕ)) (g : Gathered) → files ≡ own ∷ distinct (drop 1 g.files) → HasGathered own names g → files ≡ own ∷ distinct names
listed_once own names files g is h = is ∙ ap (λ l. own ∷ distinct (drop 1 l)) h.files ∙ ap (λ l. own ∷ l) h.same
