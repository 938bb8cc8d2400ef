-- Answers that were had one after the other.
use Rattle.std.proofs.Common.{◌≡◌, refl, ap, ◌⊎◌, inl, inr, Result, Ok, Err, Option, Some, None}
use Rattle.std.specs.Prelude.{ok_or}
use Rattle.lists_and_answers.specs.Answers.{◌>>=◌}

-- what the first answer was, and the second one from it
pub record Found {E A B : Type 0} (m : Result A E) (f : A → Result B E) (b : B) : Type 0 where
  pub value : A
  pub found : m ≡ Ok value
  pub rest : f value ≡ Ok b

pub bind_is : {E A B : Type 0} (m : Result A E) (f : A → Result B E) (b : B) → (m >>= f) ≡ Ok b → Found m f b
bind_is (Err e) f b h = absurd cc
bind_is (Ok a) f b h = record { value = a; found = refl; rest = h }

pub ok_same : {E A : Type 0} (v w : A) (r : Result A E) → r ≡ Ok v → r ≡ Ok w → v ≡ w
ok_same v w r a b = cc

pub some_of : {E A : Type 0} (o : Option A) (e : E) (a : A) → ok_or o e ≡ Ok a → o ≡ Some a
some_of None e a is = let no : ⊥ = cc in absurd no
some_of (Some x) e a is = let one : x ≡ a = cc in ap Some one

-- which of the two was refused
pub one_refused : {E A B : Type 0} (d : Result A E) (k : A → Result B E) (f : E) → (d >>= k) ≡ Err f → (d ≡ Err f) ⊎ ((a : A) × (d ≡ Ok a) × (k a ≡ Err f))
one_refused (Ok a) k f is = inr (a, refl, is)
one_refused (Err e) k f is = let same : e ≡ f = cc in inl (ap Err same)
