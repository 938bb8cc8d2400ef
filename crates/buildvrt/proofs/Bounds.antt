-- What holds of every mosaic.
use Rattle.std.proofs.Common.{◌≡◌, ◌∙◌, sym, ap, ℕ, zero, suc, ℤ, pos, negsuc, neg_ℤ, ◌+◌, ◌*◌, ◌<◌, ◌≤◌, ◌<ℤ◌, ◌≤ℤ◌, ◌≢◌, Bool, true, false, cond, List, [], ◌∷◌, length, length-append, refl, arith, Result, Ok, Err}
use Rattle.std.specs.Prelude.{◌+ℤ◌, ◌-ℤ◌, ◌*ℤ◌, int_lt}
use Rattle.std.specs.List.{AllByRecursion}
use Rattle.std.proofs.lemmas.Int.{ints}
use Rattle.std.proofs.Math.IntN.{suc_ℤ, suc_ℤ-*ℤ, negsuc-*ℤ-pos, pos-*ℤ-negsuc}
use Rattle.std.proofs.lemmas.Bool.Decides.{nat_tests}
use Rattle.geotransform.specs.Geo.{IsRaster}
use Rattle.geotransform.specs.Places.{rounded_up}
use Rattle.geotransform.proofs.Floors.{floor_only}
use Rattle.catalog.specs.Dataset.{DatasetHead}
use Rattle.buildvrt.specs.Options.{Options}
use Rattle.buildvrt.specs.Tiles.{TileValue}
use Rattle.buildvrt.specs.declared.faults.Reason.{Reason}
use Rattle.buildvrt.specs.declared.grid.Measure.{Measure}
use Rattle.buildvrt.specs.Judging.{JudgedValue, joined, one_judged, first_judged, judged_alone, judged_beside, judged_behind, judged_from, judged_of}
use Rattle.buildvrt.specs.Grids.{GridValue, IsGrid, measure, less_of, greater_of, least_from, greatest_from, least, greatest, some_pixels}
use Rattle.buildvrt.specs.declared.patch.PixelRect.{PixelRect}
use Rattle.buildvrt.specs.Rectangles.{rectangle_of}

-- each input is judged once
one_is_one : (n : ℕ) (v : Result TileValue Reason) → length (one_judged n v).tiles + length (one_judged n v).skipped ≡ 1
one_is_one n (Ok t) = refl
one_is_one n (Err r) = refl

joined_count : (a b : JudgedValue) → length (joined a b).tiles + length (joined a b).skipped ≡ (length a.tiles + length a.skipped) + (length b.tiles + length b.skipped)
joined_count a b = omega (arith, length-append a.tiles b.tiles, length-append a.skipped b.skipped)

behind_count : (o : Options) (r : DatasetHead) (n : ℕ) (hs : List DatasetHead) → length (judged_behind o r n hs).tiles + length (judged_behind o r n hs).skipped ≡ length hs
behind_count o r n [] = refl
behind_count o r n (h ∷ hs) =
    let one = one_is_one n (judged_beside o r h) in
    let more = behind_count o r (suc n) hs in
    let all = joined_count (one_judged n (judged_beside o r h)) (judged_behind o r (suc n) hs) in
    omega (arith, one, more, all)

first_count : (n m : ℕ) (v : Result TileValue Reason) (behind later : JudgedValue) → length behind.tiles + length behind.skipped ≡ m → length later.tiles + length later.skipped ≡ m → length (first_judged n v behind later).tiles + length (first_judged n v behind later).skipped ≡ suc m
first_count n m (Ok t) behind later p q = let all = joined_count (one_judged n (Ok t)) behind in omega (arith, all, p)
first_count n m (Err r) behind later p q = let all = joined_count (one_judged n (Err r)) later in omega (arith, all, q)

from_count : (o : Options) (n : ℕ) (hs : List DatasetHead) → length (judged_from o n hs).tiles + length (judged_from o n hs).skipped ≡ length hs
from_count o n [] = refl
from_count o n (h ∷ hs) = first_count n (length hs) (judged_alone o h) (judged_behind o h (suc n) hs) (judged_from o (suc n) hs) (behind_count o h (suc n) hs) (from_count o (suc n) hs)

pub judged_count : (o : Options) (hs : List DatasetHead) → length (judged_of o hs).tiles + length (judged_of o hs).skipped ≡ length hs
judged_count o hs = from_count o 0 hs

-- what a test of two signed numbers says
below_is : (x y : ℤ) → int_lt x y ≡ true → x <ℤ y
below_is (pos a) (pos b) e = let h : a < b = grind (arith, nat_tests) in omega (arith, ints)
below_is (pos a) (negsuc b) e = absurd cc
below_is (negsuc a) (pos b) e = omega (arith, ints)
below_is (negsuc a) (negsuc b) e = let h : b < a = grind (arith, nat_tests) in omega (arith, ints)

not_below_is : (x y : ℤ) → int_lt x y ≡ false → y ≤ℤ x
not_below_is (pos a) (pos b) e = let h : b ≤ a = grind (arith, nat_tests) in omega (arith, ints)
not_below_is (pos a) (negsuc b) e = omega (arith, ints)
not_below_is (negsuc a) (pos b) e = absurd cc
not_below_is (negsuc a) (negsuc b) e = let h : a ≤ b = grind (arith, nat_tests) in omega (arith, ints)

less_by : (x y : ℤ) (b : Bool) → int_lt y x ≡ b → (cond b y x ≤ℤ x) × (cond b y x ≤ℤ y)
less_by x y true e = let h : y <ℤ x = below_is y x e in (omega (arith, ints), omega (arith, ints))
less_by x y false e = let h : x ≤ℤ y = not_below_is y x e in (omega (arith, ints), omega (arith, ints))

less_both : (x y : ℤ) → (less_of x y ≤ℤ x) × (less_of x y ≤ℤ y)
less_both x y = less_by x y (int_lt y x) refl

greater_by : (x y : ℤ) (b : Bool) → int_lt x y ≡ b → (x ≤ℤ cond b y x) × (y ≤ℤ cond b y x)
greater_by x y true e = let h : x <ℤ y = below_is x y e in (omega (arith, ints), omega (arith, ints))
greater_by x y false e = let h : y ≤ℤ x = not_below_is x y e in (omega (arith, ints), omega (arith, ints))

greater_both : (x y : ℤ) → (x ≤ℤ greater_of x y) × (y ≤ℤ greater_of x y)
greater_both x y = greater_by x y (int_lt x y) refl

-- none lies below the least
least_low : (m : Measure) (x : ℤ) (ts : List TileValue) → least_from m x ts ≤ℤ x
least_low m x [] = omega (arith, ints)
least_low m x (t ∷ ts) =
    let more : least_from m (less_of x (measure m t)) ts ≤ℤ less_of x (measure m t) = least_low m (less_of x (measure m t)) ts in
    let one : less_of x (measure m t) ≤ℤ x = (less_both x (measure m t)).0 in
    omega (arith, ints, more, one)

le_trans : (a b c : ℤ) → a ≤ℤ b → b ≤ℤ c → a ≤ℤ c
le_trans a b c p q = omega (arith, ints)

least_all : (m : Measure) (x : ℤ) (ts : List TileValue) → AllByRecursion (λ t. least_from m x ts ≤ℤ measure m t) ts
least_all m x [] = tt
least_all m x (t ∷ ts) = (le_trans _ _ _ (least_low m (less_of x (measure m t)) ts) (less_both x (measure m t)).1, least_all m (less_of x (measure m t)) ts)

pub least_is : (m : Measure) (ts : List TileValue) → AllByRecursion (λ t. least m ts ≤ℤ measure m t) ts
least_is m [] = tt
least_is m (t ∷ ts) = (least_low m (measure m t) ts, least_all m (measure m t) ts)

greatest_high : (m : Measure) (x : ℤ) (ts : List TileValue) → x ≤ℤ greatest_from m x ts
greatest_high m x [] = omega (arith, ints)
greatest_high m x (t ∷ ts) = le_trans _ _ _ (greater_both x (measure m t)).0 (greatest_high m (greater_of x (measure m t)) ts)

greatest_all : (m : Measure) (x : ℤ) (ts : List TileValue) → AllByRecursion (λ t. measure m t ≤ℤ greatest_from m x ts) ts
greatest_all m x [] = tt
greatest_all m x (t ∷ ts) = (le_trans _ _ _ (greater_both x (measure m t)).1 (greatest_high m (greater_of x (measure m t)) ts), greatest_all m (greater_of x (measure m t)) ts)

pub greatest_is : (m : Measure) (ts : List TileValue) → AllByRecursion (λ t. measure m t ≤ℤ greatest m ts) ts
greatest_is m [] = tt
greatest_is m (t ∷ ts) = (greatest_high m (measure m t) ts, greatest_all m (measure m t) ts)

-- so many whole steps are rounded to their number
not_zero : (b : ℕ) → 0 < b → pos b ≢ pos 0
not_zero b h = λ e. absurd (omega (arith, ints, e))

next : (k : ℤ) → k +ℤ pos 1 ≡ suc_ℤ k
next (pos n) = omega (arith, ints)
next (negsuc zero) = refl
next (negsuc (suc n)) = omega (arith, ints)

twice_negative : (m : ℕ) → pos 2 *ℤ neg_ℤ (pos m) ≡ neg_ℤ (pos (2 * m))
twice_negative zero = refl
twice_negative (suc m) = pos-*ℤ-negsuc 2 m

negative_times : (q b : ℕ) → neg_ℤ (pos q) *ℤ pos b ≡ neg_ℤ (pos (q * b))
negative_times zero b = omega (arith, ints)
negative_times (suc q) b = negsuc-*ℤ-pos q b

twice : (k : ℤ) (s : ℕ) → k *ℤ pos (2 * s) ≡ pos 2 *ℤ (k *ℤ pos s)
twice (pos n) s = ap pos (omega arith)
twice (negsuc n) s = negsuc-*ℤ-pos n (2 * s) ∙ (ap (λ (x : ℕ). neg_ℤ (pos x)) (omega arith) ∙ (sym (twice_negative (suc n * s)) ∙ ap (λ (z : ℤ). pos 2 *ℤ z) (sym (negsuc-*ℤ-pos n s))))

twice_more : (k : ℤ) (s : ℕ) → (k +ℤ pos 1) *ℤ pos (2 * s) ≡ pos 2 *ℤ (k *ℤ pos s) +ℤ pos (2 * s)
twice_more k s = ap (λ (z : ℤ). z *ℤ pos (2 * s)) (next k) ∙ (suc_ℤ-*ℤ k (pos (2 * s)) ∙ ap (λ (z : ℤ). z +ℤ pos (2 * s)) (twice k s))

le_by : (a p s : ℤ) → a ≡ p → pos 0 <ℤ s → a ≤ℤ (p +ℤ s)
le_by a p s e h = omega (arith, ints)

lt_by : (a p : ℤ) (s : ℕ) → a ≡ p +ℤ pos (2 * s) → 0 < s → (p +ℤ pos s) <ℤ a
lt_by a p s e h = omega (arith, ints)

whole_by : (k : ℤ) (s : ℕ) → 0 < s → rounded_up (k *ℤ pos s) (pos s) ≡ k
whole_by k s h = floor_only (pos 2 *ℤ (k *ℤ pos s) +ℤ pos s) (pos (2 * s)) k (not_zero (2 * s) (omega arith)) (record {
  positive = λ p. (le_by (k *ℤ pos (2 * s)) (pos 2 *ℤ (k *ℤ pos s)) (pos s) (twice k s) (omega (arith, ints)), lt_by ((k +ℤ pos 1) *ℤ pos (2 * s)) (pos 2 *ℤ (k *ℤ pos s)) s (twice_more k s) h);
  negative = λ n. absurd (omega (arith, ints));
})

whole_steps : (k s : ℤ) → pos 0 <ℤ s → rounded_up (k *ℤ s) s ≡ k
whole_steps k (pos s) h = whole_by k s (omega (arith, ints))
whole_steps k (negsuc s) h = absurd (omega (arith, ints))

greater_is : (a : ℤ) (b : Bool) → pos 1 ≤ℤ a → int_lt (pos 1) a ≡ b → cond b a (pos 1) ≡ a
greater_is a true h e = refl
greater_is a false h e = let l : a ≤ℤ pos 1 = not_below_is (pos 1) a e in omega (arith, ints)

some_steps : (n : ℕ) (s : ℤ) → 0 < n → pos 0 <ℤ s → some_pixels (pos n *ℤ s) s ≡ pos n
some_steps n s some h = ap (λ (x : ℤ). greater_of (pos 1) x) (whole_steps (pos n) s h) ∙ greater_is (pos n) (int_lt (pos 1) (pos n)) (omega (arith, ints)) refl

-- an input whose pixels lie on those of the mosaic
offset_by : (p g k s : ℤ) → p ≡ g +ℤ (k *ℤ s) → pos 0 <ℤ s → rounded_up (p -ℤ g) s ≡ k
offset_by p g k s e h =
    let way : p -ℤ g ≡ k *ℤ s = omega (arith, ints, e) in
    ap (λ (x : ℤ). rounded_up x s) way ∙ whole_steps k s h

size_by : (n : ℕ) (d s : ℤ) → d ≡ s → 0 < n → pos 0 <ℤ s → some_pixels (pos n *ℤ d) s ≡ pos n
size_by n d s e some h = ap (λ (x : ℤ). some_pixels (pos n *ℤ x) s) e ∙ some_steps n s some h

same_rect : (x y w h k l m n : ℤ) → x ≡ k → y ≡ l → w ≡ m → h ≡ n → (r : PixelRect) → r ≡ record { x = x; y = y; w = w; h = h } → r ≡ record { x = k; y = l; w = m; h = n }
same_rect x y w h k l m n p q r s v e = e ∙ rw (p, q, r, s) refl

pub aligned : (g : GridValue) (t : TileValue) (k l : ℤ) → IsGrid g → IsRaster t.head.size → t.place.dx ≡ g.dx → neg_ℤ t.place.dy ≡ g.dy → t.place.ox ≡ g.left +ℤ (k *ℤ g.dx) → g.top ≡ t.place.oy +ℤ (l *ℤ g.dy) → rectangle_of g t ≡ record { x = k; y = l; w = pos t.head.size.w; h = pos t.head.size.h }
aligned g t k l rules size dx dy left top =
    same_rect _ _ _ _ k l (pos t.head.size.w) (pos t.head.size.h)
    (offset_by t.place.ox g.left k g.dx left rules.column.above)
    (offset_by g.top t.place.oy l g.dy top rules.line.above)
    (size_by t.head.size.w t.place.dx g.dx dx size.some_columns rules.column.above)
    (size_by t.head.size.h (neg_ℤ t.place.dy) g.dy dy size.some_lines rules.line.above)
    (rectangle_of g t) refl
