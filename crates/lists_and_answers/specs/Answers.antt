-- A call's answer beside the answer that a definition gives.
use Rattle.std.specs.Prelude.{◌≡◌, ◌⊎◌, Bool, if◌then◌else◌, Result, Ok, Err}

-- the second answer where the first is Ok, else the first fault
infixl 10 ◌>>=◌
abbrev pub ◌>>=◌ : {E A B : Type 0} → Result A E → (A → Result B E) → Result B E
(Ok x) >>= f = f x
(Err e) >>= f = Err e

-- nothing, or the fault where something doesn't hold
abbrev pub wants : {E : Type 0} → Bool → E → Result (Unit {0}) E
wants holds fault = if holds then Ok tt else Err fault

-- seen by a view, a call gives what the definition gives, or a fault that is free of it
abbrev pub Gives : {E X Y : Type 0} → (E → Type 0) → (X → Y) → Result X E → Result Y E → Type 0
Gives IsFree view (Ok x) d = d ≡ Ok (view x)
Gives IsFree view (Err e) d = IsFree e ⊎ (d ≡ Err e)
