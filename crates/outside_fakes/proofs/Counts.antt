-- Counts of a gate: those of the folder behind it, and its own.
use Rattle.std.proofs.Common.{◌≡◌, ◌≤◌, ℕ, Result, Ok, Err, OnErr, inl, inr, arith}
use Rattle.std.proofs.lemmas.Bool.{cases_lt}
use Rattle.std.proofs.lemmas.Result.{on_err_weaker}
use Rattle.outside.specs.Causes.{one_more, added, Rose, HasCause, FailsWith, Absorbed}
use Rattle.outside_fakes.specs.Gates.{with_more}

pub with_none : (i : ℕ) → with_more i 0 ≡ i
with_none i = omega arith

pub more_later : (i j f : ℕ) → i ≤ j → with_more i f ≤ with_more j f
more_later i j f le = omega arith

pub more_rose : (i j f : ℕ) → i ≤ j → Rose i j → Rose (with_more i f) (with_more j f)
more_rose i j f le rose = omega arith

-- a call that failed at the gate
pub gate_later : (i j f g : ℕ) → i ≤ j → g ≡ one_more f → with_more i f ≤ with_more j g
gate_later i j f g le is = omega arith

pub gate_rose : (i j f g : ℕ) → i ≤ j → g ≡ one_more f → Rose (with_more i f) (with_more j g)
gate_rose i j f g le is = omega arith

-- a call that the folder behind the gate answered
pub has_cause : {T E : Type 0} (fault : E) (i j f : ℕ) (result : Result T E) → HasCause fault i j result → HasCause fault (with_more i f) (with_more j f) result
has_cause fault i j f result h = record {
  later = more_later i j f h.later;
  failed = λ is. more_rose i j f h.later (h.failed is);
}

pub fails_with : {T E : Type 0} (i j f : ℕ) (result : Result T E) → FailsWith i j result → FailsWith (with_more i f) (with_more j f) result
fails_with i j f result h = record {
  later = more_later i j f h.later;
  failed = on_err_weaker result (λ (rose : Rose i j). more_rose i j f h.later rose) h.failed;
}

pub on_err : {T E P : Type 0} (result : Result T E) → P → OnErr result P
on_err (Ok x) p = tt
on_err (Err e) p = p

-- a view's counts
pub counts_added : (i j v f g w : ℕ) → j ≡ added i v → g ≡ added f w → with_more j g ≡ added (with_more i f) (with_more v w)
counts_added i j v f g w is here = omega arith

counts_later : (i j f g w : ℕ) → i ≤ j → g ≡ added f w → with_more i f ≤ with_more j g
counts_later i j f g w le here = omega arith

behind_rose : (i j f g w : ℕ) → i ≤ j → Rose i j → g ≡ added f w → Rose (with_more i f) (with_more j g)
behind_rose i j f g w le rose here = omega arith

here_rose : (i j f g w : ℕ) → i ≤ j → 1 ≤ w → g ≡ added f w → Rose (with_more i f) (with_more j g)
here_rose i j f g w le some here = omega arith

none_behind : (v w : ℕ) → with_more v w ≡ 0 → v ≡ 0
none_behind v w none = omega arith

none_here : (v w : ℕ) → with_more v w ≡ 0 → w ≡ 0
none_here v w none = omega arith

some_here : (v w : ℕ) → v ≤ 0 → 1 ≤ with_more v w → 1 ≤ w
some_here v w none some = omega arith

counts_same : (i j f g w : ℕ) → j ≡ i → w ≡ 0 → g ≡ added f w → with_more j g ≡ with_more i f
counts_same i j f g w is none here = omega arith

pub counts_absorbed : (i j v f g w : ℕ) → Absorbed i v j → g ≡ added f w → Absorbed (with_more i f) (with_more v w) (with_more j g)
counts_absorbed i j v f g w h here =
    record {
      later = counts_later i j f g w h.later here;
      risen = λ some. elim (cases_lt 0 v) [
        | inl behind ↦ behind_rose i j f g w h.later (h.risen (omega arith)) here
        | inr none ↦ here_rose i j f g w h.later (some_here v w none some) here
      ];
      same = λ none. counts_same i j f g w (h.same (none_behind v w none)) (none_here v w none) here;
    }
