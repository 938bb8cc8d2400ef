-- What is found step by step.
use Rattle.std.specs.Prelude.{Option, Some, None}

-- the second answer where the first is found, else none
infixl 10 ◌>>=◌
abbrev pub ◌>>=◌ : {A B : Type 0} → Option A → (A → Option B) → Option B
(Some x) >>= f = f x
None >>= f = None
