-- What a closure does that is called with a `&mut` to a value, or to each of some values.
use Rattle.std.specs.Prelude.{ℕ, ◌≡◌, ◌+◌, ◌<◌, List, length, get_or}
use Rattle.std.specs.Fork.{AcceptsAt, ChangesAt}
use denote.Ref.{MutBor}
use denote.Param.Members.{Shared}

module _ {F T : Type 0} (g : Shared F (MutBor T × Unit {0}) (Unit {0} × (MutBor T × Unit {0}))) (f : F) where
  -- f may be called with a `&mut` to x
  abbrev pub Accepts : T → Type 0
  Accepts x = (p : MutBor T) → p.now ≡ x → g.pre f (p, tt)

  -- a call of f with a `&mut` to x may leave y there
  pub record Changes (x y : T) : Type 0 where
    pub argument : MutBor T
    pub argument_is : argument.now ≡ x
    pub after_call : MutBor T
    pub call : g.post f (argument, tt) (tt, (after_call, tt))
    pub left : after_call.now ≡ y

module _ {F T : Type 0} (g : Shared F (ℕ × (MutBor T × Unit {0})) (Unit {0} × (MutBor T × Unit {0}))) (f : F) where
  -- f may be called with a `&mut` to each of some values, and with its number, where the first has the number `from`
  abbrev pub AcceptsFrom : ℕ → List T → Type 0
  AcceptsFrom from xs = (i : ℕ) (d : T) → i < length xs → AcceptsAt g f (from + i) (get_or xs i d)

  -- such calls of f may leave these values there
  abbrev pub ChangesFrom : ℕ → List T → List T → Type 0
  ChangesFrom from xs ys = (i : ℕ) (d : T) → i < length xs → ChangesAt g f (from + i) (get_or xs i d) (get_or ys i d)

  -- a call of f with the number of the one value of a list may leave this list there
  pub record ChangesOne (from : ℕ) (xs ys : List T) : Type 0 where
    pub count : length ys ≡ length xs
    pub changes : (d : T) → ChangesAt g f from (get_or xs 0 d) (get_or ys 0 d)

  -- such calls may leave this list there, of as many values
  pub record ChangesAll (from : ℕ) (xs ys : List T) : Type 0 where
    pub count : length ys ≡ length xs
    pub changes : ChangesFrom from xs ys
