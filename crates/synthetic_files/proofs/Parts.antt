-- How far several files were published, and how far a run goes that publishes them.
use Rattle.std.proofs.Common.{◌≡◌, ◌∙◌, ap, sym, subst, refl, inl, inr, ℕ, zero, suc, ◌<◌, List, [], ◌∷◌, ◌++◌, length, Option, Some, Result, Ok, Err, append_assoc, arith}
use Rattle.std.specs.Prelude.{flat_map, IfErr}
use Rattle.std.specs.FinMap.{insert}
use Rattle.std.specs.List.{range_with_len}
use Rattle.std.specs.Result.{IsErr, IsErrAnd}
use Rattle.std.proofs.lemmas.List.{append-nil}
use Rattle.outside.specs.Outside.{Files}
use Rattle.outside.specs.Streams.{Gets}
use Rattle.outside.proofs.Sinks.{gets-none}
use Rattle.error_lines.specs.declared.faults.Fault.{Fault}
use Rattle.error_lines.specs.Faults.{IsOutside}
use Rattle.error_lines.specs.Steps.{Step, Publishes, publishes, published, printed, begun, cut_short, applied, all_done, Goes, AreDone}
use Rattle.published_files.specs.Documents.{IsOfFolder}
use Rattle.synthetic_files.specs.Publishing.{ArePublished}

abbrev pub Named : Type 0
Named = List (List ℕ × List ℕ)

-- what a refused call hands on
pub err_is : {U E : Type 0} (r : Result U E) (f : E) → IsErr r × IsErrAnd r (λ e. e ≡ f) → r ≡ Err f
err_is (Ok x) f h = absurd h.1
err_is (Err e) f h = ap Err h.1

-- none of the files
pub none_is : (files : Named) (m : Files) (r : Result (Unit {0}) Fault) (f : Fault) (names : Option Files) → r ≡ Err f → names ≡ Some m → ArePublished files m r names
none_is files m r f names so is = subst (λ (e : Result (Unit {0}) Fault). ArePublished files m e names) (sym so) ([], (files, refl, is))

-- those of one list, and then those of another
applied_append : (a b : Named) (m : Files) → applied (a ++ b) m ≡ applied b (applied a m)
applied_append [] b m = refl
applied_append (file ∷ a) b m = applied_append a b (insert m file.0 file.1)

pub then_is : (a b : Named) (m : Files) (r : Result (Unit {0}) Fault) (mid names : Option Files) → mid ≡ Some (applied a m) → ((k : Files) → mid ≡ Some k → ArePublished b k r names) → ArePublished (a ++ b) m r names
then_is a b m (Ok done) mid names first second = second (applied a m) first ∙ ap Some (sym (applied_append a b m))
then_is a b m (Err f) mid names first second =
    let found = second (applied a m) first in
    (a ++ found.0, (found.1.0, append_assoc a found.0 found.1.0 ∙ ap (λ (l : Named). a ++ l) found.1.1, found.1.2 ∙ ap Some (sym (applied_append a found.0 m))))

-- the first of one list, and so of it and another
pub stop_is : (a b : Named) (m : Files) (r : Result (Unit {0}) Fault) (f : Fault) (names : Option Files) → r ≡ Err f → ArePublished a m (Err f) names → ArePublished (a ++ b) m r names
stop_is a b m r f names so found = subst (λ (e : Result (Unit {0}) Fault). ArePublished (a ++ b) m e names) (sym so)
    (found.0, (found.1.0 ++ b, sym (append_assoc found.0 found.1.0 b) ∙ ap (λ (l : Named). l ++ b) found.1.1, found.1.2))

-- the files of the first tiles, of one more, and of the rest
pub rest_of : (f : ℕ → Named) → ℕ → Named
rest_of f zero = f 1 ++ (f 2 ++ (f 3 ++ []))
rest_of f (suc zero) = f 2 ++ (f 3 ++ [])
rest_of f (suc (suc zero)) = f 3 ++ []
rest_of f (suc (suc (suc n))) = []

all_of : (f : ℕ → Named) (t : ℕ) → t < 4 → (flat_map f (range_with_len 0 t) ++ f t) ++ rest_of f t ≡ flat_map f (range_with_len 0 4)
unfolding rest_of
all_of f zero less = refl
all_of f (suc zero) less = simp (append_assoc, append-nil)
all_of f (suc (suc zero)) less = simp (append_assoc, append-nil)
all_of f (suc (suc (suc zero))) less = simp (append_assoc, append-nil)
all_of f (suc (suc (suc (suc n)))) less = absurd (omega (arith, less))

pub among_all : (f : ℕ → Named) (t : ℕ) (m : Files) (r : Result (Unit {0}) Fault) (e : Fault) (mid names : Option Files) → t < 4 → r ≡ Err e → mid ≡ Some (applied (flat_map f (range_with_len 0 t)) m) → ((k : Files) → mid ≡ Some k → ArePublished (f t) k (Err e) names) → ArePublished (flat_map f (range_with_len 0 4)) m r names
among_all f t m r e mid names less so first second = subst (λ (l : Named). ArePublished l m r names) (all_of f t less)
    (stop_is (flat_map f (range_with_len 0 t) ++ f t) (rest_of f t) m r e names so (then_is (flat_map f (range_with_len 0 t)) (f t) m (Err e) mid names first second))

-- one tile more
pub one_more : (f : ℕ → Named) (g : Named) (t : ℕ) (m : Files) (mid names : Option Files) → g ≡ flat_map f (range_with_len 0 t) ++ f t → mid ≡ Some (applied (flat_map f (range_with_len 0 t)) m) → ((k : Files) → mid ≡ Some k → ArePublished (f t) k (Ok tt) names) → names ≡ Some (applied g m)
one_more f g t m mid names more first second = then_is (flat_map f (range_with_len 0 t)) (f t) m (Ok tt) mid names first second ∙ ap (λ (l : Named). Some (applied l m)) (sym more)

-- a run that publishes files
outside_of : (f : Fault) → IsOfFolder f → IsOutside f
outside_of f (inl is) = subst IsOutside (sym is) tt
outside_of f (inr is) = subst IsOutside (sym is) tt

published_of : (files : Named) → published (publishes files) ≡ files
published_of [] = refl
published_of (file ∷ files) = ap (λ (l : Named). file ∷ l) (published_of files)

nothing_printed : (files : Named) → printed (publishes files) ≡ []
nothing_printed [] = refl
nothing_printed (file ∷ files) = nothing_printed files

nothing_begun : (files : Named) → begun 0 (publishes files) ≡ []
nothing_begun [] = refl
nothing_begun (file ∷ files) = refl

cut_at : (first rest : Named) → publishes first ≡ cut_short (length first) 0 (publishes (first ++ rest))
cut_at [] rest = sym (nothing_begun rest)
cut_at (file ∷ first) rest = ap (λ (s : List Step). Publishes file.0 file.1 ∷ s) (cut_at first rest)

done : (files : Named) (m : Files) (names : Option Files) (old : Option (List ℕ)) → names ≡ Some (applied files m) → AreDone (publishes files) m names old old
done files m names old is = record {
  printed = subst (λ (t : List ℕ). Gets t old old) (sym (nothing_printed files)) (gets-none old);
  published = is ∙ ap (λ (l : Named). Some (applied l m)) (sym (published_of files));
}

pub published_goes : (files : Named) (m : Files) (r : Result (Unit {0}) Fault) (names : Option Files) (old : Option (List ℕ)) → IfErr r IsOfFolder → ArePublished files m r names → Goes (all_done (publishes files)) m r names old old
published_goes files m (Ok x) names old faults is = (refl, done files m names old is)
published_goes files m (Err f) names old faults found =
    inr (outside_of f faults, (publishes found.0, (length found.0, 0, cut_at found.0 found.1.0 ∙ ap (λ (l : Named). cut_short (length found.0) 0 (publishes l)) found.1.1), done found.0 m names old found.1.2))

-- a run that publishes none of its files
pub none_goes : (files : Named) (m : Files) (r : Result (Unit {0}) Fault) (f : Fault) (names : Option Files) (old : Option (List ℕ)) → r ≡ Err f → IsOfFolder f → names ≡ Some m → Goes (all_done (publishes files)) m r names old old
none_goes files m r f names old so faults is = subst (λ (e : Result (Unit {0}) Fault). Goes (all_done (publishes files)) m e names old old) (sym so) (published_goes files m (Err f) names old faults (none_is files m (Err f) f names refl is))
