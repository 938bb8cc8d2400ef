-- Of several answers, of which one is a refusal, there is one first refusal and no other.
use Rattle.std.proofs.Common.{◌≡◌, ◌∙◌, sym, ap, refl, ◌<◌, ℕ, zero, suc, List, [], ◌∷◌, Option, Some, None, Ok, Err, arith}
use Rattle.std.specs.Prelude.{slice_get}
use Rattle.catalog.proofs.Found.{some_is}
use Rattle.band_blocks.specs.declared.fault.LoadFault.{LoadFault}
use Rattle.lane_teams.specs.Refusals.{Answer, first_refusal, IsFirstRefusal}

none≢some : {X : Type 0} {x : X} → None ≡ Some x → ⊥
none≢some e = cc

abbrev refused : LoadFault → Answer
refused f = Err f

fault_is : (d e : LoadFault) → refused d ≡ refused e → d ≡ e
fault_is d e is = cc

not_refused : (f : LoadFault) → refused f ≡ Ok tt → ⊥
not_refused f is = cc

not_both : (o : Option Answer) (f : LoadFault) → o ≡ Some (Err f) → o ≡ Some (Ok tt) → ⊥
not_both o f is done = not_refused f (some_is (sym is ∙ done))

nothing_there : (o : Option Answer) (f : LoadFault) → o ≡ Some (Err f) → o ≡ None → ⊥
nothing_there o f is none = none≢some (sym none ∙ is)

-- behind a lane that didn't refuse
behind : (a : Answer) (rest : List Answer) (k : ℕ) (f : LoadFault) → IsFirstRefusal (a ∷ rest) (suc k) f → IsFirstRefusal rest k f
behind a rest k f is = record { here = is.here; before = λ i less. is.before (suc i) (omega arith) }

before_more : (rest : List Answer) (k : ℕ) → ((i : ℕ) → i < k → slice_get rest i ≡ Some (Ok tt)) → (i : ℕ) → i < suc k → slice_get (Ok tt ∷ rest) i ≡ Some (Ok tt)
before_more rest k before zero less = refl
before_more rest k before (suc i) less = before i (omega arith)

-- a refusal that is told is one of the answers', and the first
pub found : (answers : List Answer) (f : LoadFault) → first_refusal answers ≡ Err f → (k : ℕ) × IsFirstRefusal answers k f
found [] f is = absurd (not_refused f (sym is))
found (Ok x ∷ rest) f is = let r = found rest f is in (suc r.0, record { here = r.1.here; before = before_more rest r.0 r.1.before })
found (Err d ∷ rest) f is = (0, record { here = ap (λ (a : Answer). Some a) is; before = λ i less. absurd (omega arith) })

-- the first refusal is told
pub told : (answers : List Answer) (k : ℕ) (f : LoadFault) → IsFirstRefusal answers k f → first_refusal answers ≡ Err f
told [] k f is = absurd (nothing_there None f is.here refl)
told (Ok x ∷ rest) zero f is = absurd (not_both (Some (Ok tt)) f is.here refl)
told (Ok x ∷ rest) (suc k) f is = told rest k f (behind (Ok x) rest k f is)
told (Err d ∷ rest) zero f is = some_is is.here
told (Err d ∷ rest) (suc k) f is = absurd (not_both (Some (Err d)) d refl (is.before 0 (omega arith)))

-- no two refusals are the first
pub only : (answers : List Answer) (k l : ℕ) (d e : LoadFault) → IsFirstRefusal answers k d → IsFirstRefusal answers l e → (k ≡ l) × (d ≡ e)
only answers k l d e one other = (place answers k l d e one other, fault_is d e (sym (told answers k d one) ∙ told answers l e other))
  where
    place : (answers : List Answer) (k l : ℕ) (d e : LoadFault) → IsFirstRefusal answers k d → IsFirstRefusal answers l e → k ≡ l
    place [] k l d e one other = absurd (nothing_there None d one.here refl)
    place (a ∷ rest) zero zero d e one other = refl
    place (a ∷ rest) zero (suc l) d e one other = absurd (not_both (Some a) d one.here (other.before 0 (omega arith)))
    place (a ∷ rest) (suc k) zero d e one other = absurd (not_both (Some a) e other.here (one.before 0 (omega arith)))
    place (a ∷ rest) (suc k) (suc l) d e one other = ap suc (place rest k l d e (behind a rest k d one) (behind a rest l e other))
