-- The sources that are wanted.
use Rattle.std.proofs.Common.{ℕ, ◌+◌, ◌<◌, ◌≤◌, List, length, get_or, sym, ◌∙◌, ◌++◌, ◌≡◌, arith, subst, nat_le, true, ⊎_elim}
use Rattle.std.specs.List.{All, Contains, range_with_len}
use Rattle.std.specs.List.Sorted.{IsStrictlyIncreasing}
use Rattle.std.proofs.lemmas.Bool.{cases_lt}
use Rattle.std.proofs.lemmas.Bool.Decides.{nat_tests}
use Rattle.std.proofs.lemmas.List.Elements.{All-append, All-contains, All-contains_itself, All-weaker, Contains-append_left, Contains-append_right}
use Rattle.std.proofs.lemmas.List.FromFn.{length-range_with_len, get_or-range_with_len}
use Rattle.geotransform.specs.declared.types.Rect.{Rect}
use Rattle.geotransform.specs.declared.types.Size.{Size}
use Rattle.vrt_profile.specs.Values.{SourceValue}
use Rattle.mosaic_sources.specs.Rows.{Rows, IsIndexOf, list_at}
use Rattle.mosaic_sources.proofs.OfLines.{listed_there}
use Rattle.mosaic_sources.proofs.Passing.{rises}
use Rattle.nearest_window.specs.Wanted.{IsLineOf, IsListedIn, IsWanted}

-- the number at a place of all
pub number_at : (count k d : ℕ) → k < count → get_or (range_with_len 0 count) k d ≡ k
number_at count k d less = let e : 0 + k ≡ k = omega arith in get_or-range_with_len 0 count k d less ∙ e

-- all sources are enough
pub every_wanted : (sources : List SourceValue) (count : ℕ) (size : Size) (rect : Rect) → count ≡ length sources → IsWanted sources size rect (range_with_len 0 count)
every_wanted sources count size rect is =
    let n = length-range_with_len 0 count in
    record {
      rising = λ k less. omega (arith, number_at count k 0 (omega (arith, less, n)), number_at count (k + 1) 0 (omega (arith, less, n)));
      below = λ k d less. omega (arith, less, n, is, number_at count k d (omega (arith, less, n)));
      listed = λ y at number there.
          let low = listed_there sources number size y there in
          (number, omega (arith, low, n, is), number_at count number number (omega (arith, low, is)));
    }

-- the lists of an index rise
pub lists_rise : (sources : List SourceValue) (size : Size) (r : Rows) → IsIndexOf sources size r → (y : ℕ) → y < r.height → IsStrictlyIncreasing (list_at r y)
lists_rise sources size r index y less = subst IsStrictlyIncreasing (sym (index.lists y (omega (arith, index.height, less)))) (rises sources size y)

-- the sources in the lists of the lines are enough
pub listed_wanted : (sources : List SourceValue) (size : Size) (rect : Rect) (r : Rows) (numbers : List ℕ) → IsIndexOf sources size r → rect.y + rect.h ≤ size.h → IsStrictlyIncreasing numbers → ((n : ℕ) → IsListedIn r rect n → Contains numbers n) → All (IsListedIn r rect) numbers → IsWanted sources size rect numbers
listed_wanted sources size rect r numbers index within rising all from = record {
  rising = rising;
  below = All-weaker (IsListedIn r rect) (λ (n : ℕ). n < length sources) (λ n there. listed_there sources n size there.line (subst (λ (l : List ℕ). Contains l n) (index.lists there.line (omega (arith, there.within.bottom, within))) there.listed)) numbers from;
  listed = λ y at n there. all n (record { line = y; within = at; listed = subst (λ (l : List ℕ). Contains l n) (sym (index.lists y (omega (arith, at.bottom, within)))) there });
}

pub within_end : (a b : ℕ) → nat_le a b ≡ true → a ≤ b
within_end a b h = grind (arith, nat_tests)

-- the list of one stretch more
pub gathered_all : (r : Rows) (low y next : ℕ) (old more new : List ℕ) → new ≡ old ++ more → more ≡ list_at r y → ((z : ℕ) → low ≤ z → z < y → (n : ℕ) → Contains (list_at r z) n → Contains old n) → ((z : ℕ) → y ≤ z → z < next → list_at r z ≡ list_at r y)
    → (z : ℕ) → low ≤ z → z < next → (n : ℕ) → Contains (list_at r z) n → Contains new n
gathered_all r low y next old more new added is before same z from below n there = subst (λ (l : List ℕ). Contains l n) (sym added) (⊎_elim
    (λ (l : z < y). Contains-append_left old more n (before z from l n there))
    (λ (l : y ≤ z). Contains-append_right old more n (subst (λ (l : List ℕ). Contains l n) (same z l below ∙ sym is) there))
    (cases_lt z y))

pub line_from : (r : Rows) (rect : Rect) (y : ℕ) (list : List ℕ) → IsLineOf rect y → list ≡ list_at r y → All (IsListedIn r rect) list
line_from r rect y list at is = All-weaker (Contains list) (IsListedIn r rect) (λ n there. record { line = y; within = at; listed = subst (λ (l : List ℕ). Contains l n) is there }) list (All-contains_itself list)

pub gathered_from : (r : Rows) (rect : Rect) (y : ℕ) (old more new : List ℕ) → new ≡ old ++ more → more ≡ list_at r y → IsLineOf rect y → All (IsListedIn r rect) old → All (IsListedIn r rect) new
gathered_from r rect y old more new added is at before = subst (All (IsListedIn r rect)) (sym added) (All-append (IsListedIn r rect) old more before (line_from r rect y more at is))

-- the list of the only stretch
pub line_all : (r : Rows) (rect : Rect) (y : ℕ) (list : List ℕ) → list ≡ list_at r y → ((z : ℕ) → IsLineOf rect z → list_at r z ≡ list_at r y) → (n : ℕ) → IsListedIn r rect n → Contains list n
line_all r rect y list is same n there = subst (λ (l : List ℕ). Contains l n) (same there.line there.within ∙ sym is) there.listed

-- sorted, the numbers are still in the lists
pub sorted_from : (r : Rows) (rect : Rect) (old new : List ℕ) → All (IsListedIn r rect) old → ((n : ℕ) → Contains new n → Contains old n) → All (IsListedIn r rect) new
sorted_from r rect old new before from = All-weaker (Contains new) (IsListedIn r rect) (λ n there. All-contains (IsListedIn r rect) old n before (from n there)) new (All-contains_itself new)
