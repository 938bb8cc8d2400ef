-- The judging of the inputs, one after the other.
use Rattle.std.proofs.Common.{◌≡◌, ◌∙◌, sym, ap, subst, ℕ, zero, suc, ◌+◌, ◌<◌, List, [], ◌∷◌, ◌++◌, length, drop, get_or, refl, arith, add-one, drop-cons, append_assoc, Result, Ok, Err}
use Rattle.std.specs.List.{All, range_with_len}
use Rattle.std.proofs.lemmas.List.Elements.{All-push}
use Rattle.std.specs.Prelude.{pos, true, ◌<ℤ◌}
use Rattle.std.proofs.lemmas.Int.{ints}
use Rattle.std.proofs.lemmas.Bool.Decides.{nat_tests}
use Rattle.geotransform.specs.Geo.{Transform, is_north_up}
use Rattle.catalog.specs.Dataset.{DatasetHead}
use Rattle.buildvrt.specs.Options.{Options, IsBandNumber}
use Rattle.buildvrt.specs.Tiles.{TileValue}
use Rattle.buildvrt.specs.declared.faults.Reason.{Reason}
use Rattle.buildvrt.specs.Judging.{JudgedValue, joined, one_judged, first_judged, judged_alone, judged_beside, judged_behind, judged_from}

-- one number more
range_more : (a n : ℕ) → range_with_len a (suc n) ≡ range_with_len a n ++ (a + n) ∷ []
range_more a zero = ap (λ (k : ℕ). k ∷ []) (omega arith)
range_more a (suc n) = ap (λ (l : List ℕ). a ∷ l) (range_more (a + 1) n ∙ ap (λ (k : ℕ). range_with_len (a + 1) n ++ k ∷ []) (omega arith))

pub numbers_next : (n : ℕ) (xs ys : List ℕ) → xs ≡ range_with_len 1 n → ys ≡ xs ++ (n + 1) ∷ [] → ys ≡ range_with_len 1 (n + 1)
numbers_next n xs ys e f = f ∙ ap (λ (l : List ℕ). l ++ (n + 1) ∷ []) e ∙ ap (λ (k : ℕ). range_with_len 1 n ++ k ∷ []) (omega arith) ∙ sym (range_more 1 n) ∙ ap (range_with_len 1) (sym (add-one n))

pub rules_next : (n : ℕ) (xs ys : List ℕ) → n < 256 → All IsBandNumber xs → ys ≡ xs ++ (n + 1) ∷ [] → All IsBandNumber ys
rules_next n xs ys less all f = subst (All IsBandNumber) (sym f) (All-push IsBandNumber xs (n + 1) all (record { from_one = omega arith; few = omega arith }))

-- verdicts before verdicts
joined_twice : (a b c : JudgedValue) → joined (joined a b) c ≡ joined a (joined b c)
joined_twice a b c = simp append_assoc

-- behind the reference
behind_more : (o : Options) (r : DatasetHead) (n i : ℕ) (hs : List DatasetHead) (h : DatasetHead) → i < length hs → h ≡ get_or hs i h → joined (one_judged n (judged_beside o r h)) (judged_behind o r (n + 1) (drop (i + 1) hs)) ≡ judged_behind o r n (drop i hs)
behind_more o r n i hs h less is =
    ap (λ (d : DatasetHead). joined (one_judged n (judged_beside o r d)) (judged_behind o r (n + 1) (drop (i + 1) hs))) is
    ∙ rw (add-one n, add-one i, drop-cons hs i h) refl

pub behind_next : (o : Options) (r : DatasetHead) (n i : ℕ) (hs : List DatasetHead) (h : DatasetHead) (j k : JudgedValue) → i < length hs → h ≡ get_or hs i h → k ≡ joined j (one_judged n (judged_beside o r h)) → joined k (judged_behind o r (n + 1) (drop (i + 1) hs)) ≡ joined j (judged_behind o r n (drop i hs))
behind_next o r n i hs h j k less is e =
    ap (λ (x : JudgedValue). joined x (judged_behind o r (n + 1) (drop (i + 1) hs))) e
    ∙ (joined_twice j _ _ ∙ ap (joined j) (behind_more o r n i hs h less is))

-- before there is a reference
from_more : (o : Options) (n i : ℕ) (hs : List DatasetHead) (h : DatasetHead) → i < length hs → h ≡ get_or hs i h → first_judged n (judged_alone o h) (judged_behind o h (n + 1) (drop (i + 1) hs)) (judged_from o (n + 1) (drop (i + 1) hs)) ≡ judged_from o n (drop i hs)
from_more o n i hs h less is =
    ap (λ (d : DatasetHead). first_judged n (judged_alone o d) (judged_behind o d (n + 1) (drop (i + 1) hs)) (judged_from o (n + 1) (drop (i + 1) hs))) is
    ∙ rw (add-one n, add-one i, drop-cons hs i h) refl

pub from_found : (o : Options) (n i : ℕ) (hs : List DatasetHead) (h : DatasetHead) (t : TileValue) (j k : JudgedValue) → i < length hs → h ≡ get_or hs i h → judged_alone o h ≡ Ok t → k ≡ joined j (one_judged n (Ok t)) → joined k (judged_behind o h (n + 1) (drop (i + 1) hs)) ≡ joined j (judged_from o n (drop i hs))
from_found o n i hs h t j k less is ok e =
    ap (λ (x : JudgedValue). joined x (judged_behind o h (n + 1) (drop (i + 1) hs))) e
    ∙ (joined_twice j _ _
    ∙ ap (joined j) (ap (λ (v : Result TileValue Reason). first_judged n v (judged_behind o h (n + 1) (drop (i + 1) hs)) (judged_from o (n + 1) (drop (i + 1) hs))) (sym ok) ∙ from_more o n i hs h less is))

pub from_skipped : (o : Options) (n i : ℕ) (hs : List DatasetHead) (h : DatasetHead) (r : Reason) (j k : JudgedValue) → i < length hs → h ≡ get_or hs i h → judged_alone o h ≡ Err r → k ≡ joined j (one_judged n (Err r)) → joined k (judged_from o (n + 1) (drop (i + 1) hs)) ≡ joined j (judged_from o n (drop i hs))
from_skipped o n i hs h r j k less is err e =
    ap (λ (x : JudgedValue). joined x (judged_from o (n + 1) (drop (i + 1) hs))) e
    ∙ (joined_twice j _ _
    ∙ ap (joined j) (ap (λ (v : Result TileValue Reason). first_judged n v (judged_behind o h (n + 1) (drop (i + 1) hs)) (judged_from o (n + 1) (drop (i + 1) hs))) (sym err) ∙ from_more o n i hs h less is))

-- a raster whose columns go east and whose lines go south
pub east_and_south : (g : Transform) → is_north_up g ≡ true → (pos 0 <ℤ g.dx) × (g.dy <ℤ pos 0)
east_and_south g h = grind (arith, nat_tests, ints)
