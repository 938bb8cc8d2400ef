-- How far the publishing of one text goes.
use Rattle.std.proofs.Common.{◌≡◌, ap, subst, refl, sym, inl, inr, ℕ, List, [], ◌∷◌, Result, Ok, Err, Option, Some}
use Rattle.std.specs.FinMap.{insert}
use Rattle.std.specs.Result.{IsErr, IsErrAnd}
use Rattle.outside.specs.Outside.{Files}
use Rattle.outside.proofs.Sinks.{gets-none}
use Rattle.error_lines.specs.declared.faults.Fault.{Fault}
use Rattle.error_lines.specs.Faults.{IsOutside}
use Rattle.error_lines.specs.Steps.{Publishes, all_done, Goes}
use Rattle.published_files.specs.Documents.{IsOfFolder}

-- what a refused call hands on
pub err_is : {U E : Type 0} (r : Result U E) (f : E) → IsErr r × IsErrAnd r (λ e. e ≡ f) → r ≡ Err f
err_is (Ok x) f h = absurd h.1
err_is (Err e) f h = ap Err h.1

outside_of : (f : Fault) → IsOfFolder f → IsOutside f
outside_of f (inl is) = subst IsOutside (sym is) tt
outside_of f (inr is) = subst IsOutside (sym is) tt

-- the text stands under the name
pub text_goes : (m : Files) (name text : List ℕ) (names : Option Files) (old : Option (List ℕ)) → names ≡ Some (insert m name text) → Goes (all_done (Publishes name text ∷ [])) m (Ok tt) names old old
text_goes m name text names old is = (refl, record { printed = gets-none old; published = is })

-- it wasn't published
pub text_stops : (m : Files) (name text : List ℕ) (r : Result (Unit {0}) Fault) (f : Fault) (names : Option Files) (old : Option (List ℕ)) → r ≡ Err f → names ≡ Some m → IsOfFolder f → Goes (all_done (Publishes name text ∷ [])) m r names old old
text_stops m name text r f names old so is out =
    subst (λ (e : Result (Unit {0}) Fault). Goes (all_done (Publishes name text ∷ [])) m e names old old) (sym so)
    (inr (outside_of f out, ([], (0, 0, refl), record { printed = gets-none old; published = is })))
