-- What is told of samples and of one more.
use Rattle.std.proofs.Common.{◌≡◌, ◌∙◌, ap, sym, refl, ℕ, ℤ, pos, ◌+◌, ◌≤◌, ◌<◌, ◌+ℤ◌, Bool, true, false, List, [], ◌∷◌, ◌++◌, length, take, get_or, cond, not, arith, append_assoc, length-append}
use Rattle.std.specs.Int.{int_min, int_max}
use Rattle.std.specs.Ordering.{int_eq}
use Rattle.std.proofs.lemmas.List.{append-nil, take_more}
use Rattle.std.proofs.lemmas.List.Elements.{filter-append}
use Rattle.std.proofs.lemmas.List.Sums.{fold-append}
use Rattle.synthetic_rasters.specs.Tiles.{nodata}
use Rattle.synthetic_rasters.specs.Tally.{Totals, values_of, sum_of, least_of, greatest_of, totals_of, tally_of}

one_value : (n : ℤ) (b : Bool) → int_eq n nodata ≡ b → values_of (n ∷ []) ≡ cond (not b) (n ∷ []) []
one_value n b is = ap (λ (x : Bool). cond (not x) (n ∷ []) []) is

-- a value is one more, and NODATA is none
values_more : (seen : List ℤ) (n : ℤ) → int_eq n nodata ≡ false → values_of (seen ++ n ∷ []) ≡ values_of seen ++ n ∷ []
values_more seen n is = filter-append (λ (m : ℤ). not (int_eq m nodata)) seen (n ∷ []) ∙ ap (λ (l : List ℤ). values_of seen ++ l) (one_value n false is)

pub nodata_added : (seen : List ℤ) (n : ℤ) → int_eq n nodata ≡ true → tally_of (seen ++ n ∷ []) ≡ tally_of seen
unfolding tally_of
nodata_added seen n is = ap totals_of (filter-append (λ (m : ℤ). not (int_eq m nodata)) seen (n ∷ []) ∙ ap (λ (l : List ℤ). values_of seen ++ l) (one_value n true is) ∙ append-nil (values_of seen))

sum_more : (values : List ℤ) (n : ℤ) → sum_of (values ++ n ∷ []) ≡ sum_of values +ℤ n
sum_more values n = fold-append (λ (a m : ℤ). a +ℤ m) (pos 0) values (n ∷ [])

-- the least and the greatest of one value more, where there is none before and where there is one
pub least_first : (values : List ℤ) (n : ℤ) → 0 ≡ length values → least_of (values ++ n ∷ []) ≡ n
least_first [] n none = refl
least_first (v ∷ values) n none = absurd (omega (arith, none))

pub least_more : (values : List ℤ) (n : ℤ) → 0 < length values → least_of (values ++ n ∷ []) ≡ int_min (least_of values) n
least_more [] n some = absurd (omega (arith, some))
least_more (v ∷ values) n some = fold-append int_min v values (n ∷ [])

pub greatest_first : (values : List ℤ) (n : ℤ) → 0 ≡ length values → greatest_of (values ++ n ∷ []) ≡ n
greatest_first [] n none = refl
greatest_first (v ∷ values) n none = absurd (omega (arith, none))

pub greatest_more : (values : List ℤ) (n : ℤ) → 0 < length values → greatest_of (values ++ n ∷ []) ≡ int_max (greatest_of values) n
greatest_more [] n some = absurd (omega (arith, some))
greatest_more (v ∷ values) n some = fold-append int_max v values (n ∷ [])

-- one value more
pub value_added : (seen : List ℤ) (n : ℤ) (old : Totals) (sum least greatest : ℤ) → int_eq n nodata ≡ false → old ≡ tally_of seen
    → sum ≡ old.sum +ℤ n
    → ((values : List ℤ) → old.count ≡ length values → old.least ≡ least_of values → least ≡ least_of (values ++ n ∷ []))
    → ((values : List ℤ) → old.count ≡ length values → old.greatest ≡ greatest_of values → greatest ≡ greatest_of (values ++ n ∷ []))
    → record { count = old.count + 1; sum = sum; least = least; greatest = greatest } ≡ tally_of (seen ++ n ∷ [])
unfolding tally_of
value_added seen n old sum least greatest is same sum_is least_is greatest_is =
    let values : List ℤ = values_of seen in
    let count : old.count ≡ length values = ap (λ (t : Totals). t.count) same in
    let counted : old.count + 1 ≡ length (values ++ n ∷ []) = omega (arith, count, length-append values (n ∷ [])) in
    let summed : sum ≡ sum_of (values ++ n ∷ []) = sum_is ∙ ap (λ (t : Totals). t.sum +ℤ n) same ∙ sym (sum_more values n) in
    let l : least ≡ least_of (values ++ n ∷ []) = least_is values count (ap (λ (t : Totals). t.least) same) in
    let g : greatest ≡ greatest_of (values ++ n ∷ []) = greatest_is values count (ap (λ (t : Totals). t.greatest) same) in
    built _ _ _ _ (values ++ n ∷ []) counted summed l g ∙ ap totals_of (sym (values_more seen n is))
  where
    built : (c : ℕ) (s l g : ℤ) (values : List ℤ) → c ≡ length values → s ≡ sum_of values → l ≡ least_of values → g ≡ greatest_of values → record { count = c; sum = s; least = l; greatest = g } ≡ totals_of values
    built c s l g values p q r t = cc

-- there are at most as many values as samples
few : (samples : List ℤ) → length (values_of samples) ≤ length samples
few [] = omega arith
few (n ∷ samples) = by (not (int_eq n nodata)) (few samples)
  where
    by : (b : Bool) → length (values_of samples) ≤ length samples → length (cond b (n ∷ values_of samples) (values_of samples)) ≤ length (n ∷ samples)
    by true h = omega (arith, h)
    by false h = omega (arith, h)

pub count_few : (samples : List ℤ) → (tally_of samples).count ≤ length samples
unfolding tally_of
count_few samples = few samples

-- one sample more, behind the first of a list
pub added_more : (seen samples : List ℤ) (i : ℕ) (d : ℤ) (t : Totals) → i < length samples → t ≡ tally_of ((seen ++ take i samples) ++ get_or samples i d ∷ []) → t ≡ tally_of (seen ++ take (i + 1) samples)
added_more seen samples i d t less is = is ∙ ap tally_of (append_assoc seen (take i samples) (get_or samples i d ∷ []) ∙ ap (λ (l : List ℤ). seen ++ l) (sym (take_more samples i d less)))
