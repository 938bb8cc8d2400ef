-- Counts that rise, up to the end of a u64.
use Rattle.std.specs.Prelude.{ℕ, ◌+◌, ◌≤◌, ◌≡◌, min, Result, Err, OnErr}

-- the greatest count
abbrev pub last_count : ℕ
last_count = 18446744073709551615

-- one more, up to the end
abbrev pub one_more : ℕ → ℕ
one_more n = min (n + 1) last_count

-- two counts together, up to the end
abbrev pub added : ℕ → ℕ → ℕ
added a b = min (a + b) last_count

-- the count rose, or stands at its end
abbrev pub Rose : ℕ → ℕ → Type 0
Rose before now = one_more before ≤ now

-- the count rises by one where this holds, and stays otherwise
pub record CountsWhere (P : Type 0) (before now : ℕ) : Type 0 where
  pub rises : P → now ≡ one_more before
  pub stays : ¬ P → now ≡ before

-- the count doesn't fall, and has risen where the call answers this fault
pub record HasCause {T E : Type 0} (fault : E) (before now : ℕ) (result : Result T E) : Type 0 where
  pub later : before ≤ now
  pub failed : result ≡ Err fault → Rose before now

-- the count doesn't fall, and has risen where the call fails
pub record FailsWith {T E : Type 0} (before now : ℕ) (result : Result T E) : Type 0 where
  pub later : before ≤ now
  pub failed : OnErr result (Rose before now)

-- what a view's count adds to the folder's
pub record Absorbed (before view now : ℕ) : Type 0 where
  pub later : before ≤ now
  pub risen : 1 ≤ view → Rose before now
  pub same : view ≡ 0 → now ≡ before
