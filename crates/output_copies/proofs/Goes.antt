-- How far a run goes whose parts are done one after another.
use Rattle.std.proofs.Common.{◌≡◌, ◌∙◌, ap, sym, subst, refl, inl, inr, ℕ, zero, suc, Bool, true, false, List, [], ◌∷◌, ◌++◌, append_assoc, length, take, Result, Ok, Err, Option, Some, None}
use Rattle.std.proofs.lemmas.List.{append-nil}
use Rattle.std.proofs.Math.Seq.{take-length}
use Rattle.std.specs.FinMap.{insert}
use Rattle.outside.specs.Outside.{Files}
use Rattle.outside.specs.Streams.{Gets, GetsPart}
use Rattle.outside.proofs.Sinks.{gets-none, gets-then}
use Rattle.error_lines.specs.declared.faults.Fault.{Fault}
use Rattle.error_lines.specs.Faults.{IsOutside}
use Rattle.error_lines.specs.Steps.{Step, Prints, Warns, Publishes, printed, published, publishes, cut_short, applied, all_done, IsFirstPart, AreDone, Goes}
use Rattle.output_copies.specs.Copying.{spoken}
use Rattle.output_copies.specs.Steps.{unless_quiet}
use Rattle.write_back.specs.Files.{with_files}

printed_both : (a b : List Step) → printed (a ++ b) ≡ printed a ++ printed b
printed_both [] b = refl
printed_both (Prints text ∷ a) b = ap (λ (t : List ℕ). text ++ t) (printed_both a b) ∙ sym (append_assoc text (printed a) (printed b))
printed_both (Warns line ∷ a) b = printed_both a b
printed_both (Publishes name bytes ∷ a) b = printed_both a b

published_both : (a b : List Step) → published (a ++ b) ≡ published a ++ published b
published_both [] b = refl
published_both (Prints text ∷ a) b = published_both a b
published_both (Warns line ∷ a) b = published_both a b
published_both (Publishes name bytes ∷ a) b = ap (λ (files : List (List ℕ × List ℕ)). (name, bytes) ∷ files) (published_both a b)

applied_both : (a b : List (List ℕ × List ℕ)) (m : Files) → applied (a ++ b) m ≡ applied b (applied a m)
applied_both [] b m = refl
applied_both (file ∷ a) b m = applied_both a b (insert m file.0 file.1)

-- steps that are done behind others
pub done_both : (a b : List Step) (m n : Files) (names : Option Files) (before mid after : Option (List ℕ)) → AreDone a m (Some n) before mid → AreDone b n names mid after → AreDone (a ++ b) m names before after
done_both a b m n names before mid after first second =
    let then : n ≡ applied (published a) m = cc in
    record {
      printed = subst (λ (t : List ℕ). Gets t before after) (sym (printed_both a b)) (gets-then (printed a) (printed b) before mid after first.printed second.printed);
      published = second.published ∙ ap (λ (k : Files). Some (applied (published b) k)) then ∙ ap (λ (k : Files). Some k) (sym (applied_both (published a) (published b) m)) ∙ ap (λ (files : List (List ℕ × List ℕ)). Some (applied files m)) (sym (published_both a b));
    }

-- so many steps behind others
behind : List Step → ℕ → ℕ
behind [] n = n
behind (step ∷ a) n = suc (behind a n)

cut_behind : (a b : List Step) (n k : ℕ) → cut_short (behind a n) k (a ++ b) ≡ a ++ cut_short n k b
unfolding behind
cut_behind [] b n k = refl
cut_behind (step ∷ a) b n k = ap (λ (s : List Step). step ∷ s) (cut_behind a b n k)

part_behind : (a b part : List Step) → IsFirstPart part b → IsFirstPart (a ++ part) (a ++ b)
part_behind a b part first = (behind a first.0, first.1, ap (λ (s : List Step). a ++ s) first.2 ∙ sym (cut_behind a b first.0 first.1))

-- a run behind steps that were done
pub goes_then : (a b : List Step) (m n : Files) (result : Result (Unit {0}) Fault) (names : Option Files) (before mid after : Option (List ℕ)) → AreDone a m (Some n) before mid → Goes (all_done b) n result names mid after → Goes (all_done (a ++ b)) m result names before after
goes_then a b m n (Ok done) names before mid after first h = (refl, done_both a b m n names before mid after first h.1)
goes_then a b m n (Err f) names before mid after first (inl h) = absurd cc
goes_then a b m n (Err f) names before mid after first (inr h) = inr (h.0, (a ++ h.1.0, part_behind a b h.1.0 h.1.1, done_both a h.1.0 m n names before mid after first h.1.2))

-- two lists of steps do the same
abbrev AreSame : List Step → List Step → Type 0
AreSame a b = (printed a ≡ printed b) × (published a ≡ published b)

same_behind : (step : Step) (a b : List Step) → AreSame a b → AreSame (step ∷ a) (step ∷ b)
same_behind (Prints text) a b same = (ap (λ (t : List ℕ). text ++ t) same.0, same.1)
same_behind (Warns line) a b same = same
same_behind (Publishes name bytes) a b same = (same.0, ap (λ (files : List (List ℕ × List ℕ)). (name, bytes) ∷ files) same.1)

done_same : (a b : List Step) (m : Files) (names : Option Files) (before after : Option (List ℕ)) → AreSame a b → AreDone b m names before after → AreDone a m names before after
done_same a b m names before after same done = record {
  printed = subst (λ (t : List ℕ). Gets t before after) (sym same.0) done.printed;
  published = done.published ∙ ap (λ (files : List (List ℕ × List ℕ)). Some (applied files m)) (sym same.1);
}

-- nothing is begun
cut_none : (steps : List Step) → AreSame (cut_short 0 0 steps) []
cut_none [] = (refl, refl)
cut_none (Prints text ∷ steps) = (refl, refl)
cut_none (Warns line ∷ steps) = (refl, refl)
cut_none (Publishes name bytes ∷ steps) = (refl, refl)

begun_front : (k : ℕ) (step : Step) (a b : List Step) → AreSame (cut_short 0 k (step ∷ (a ++ b))) (cut_short 0 k (step ∷ a))
begun_front k (Prints text) a b = (refl, refl)
begun_front k (Warns line) a b = (refl, refl)
begun_front k (Publishes name bytes) a b = (refl, refl)

-- a first part of steps is one of more steps
cut_front : (a b : List Step) (n k : ℕ) → (i : ℕ) × (j : ℕ) × AreSame (cut_short i j (a ++ b)) (cut_short n k a)
cut_front [] b zero k = (0, 0, cut_none b)
cut_front [] b (suc n) k = (0, 0, cut_none b)
cut_front (step ∷ a) b zero k = (0, k, begun_front k step a b)
cut_front (step ∷ a) b (suc n) k =
    let more = cut_front a b n k in
    (suc more.0, more.1, same_behind step (cut_short more.0 more.1 (a ++ b)) (cut_short n k a) more.2)

-- a run that the outside ended before more steps
pub goes_stop : (a b : List Step) (m : Files) (f : Fault) (names : Option Files) (before after : Option (List ℕ)) → Goes (all_done a) m (Err f) names before after → Goes (all_done (a ++ b)) m (Err f) names before after
goes_stop a b m f names before after (inl h) = absurd cc
goes_stop a b m f names before after (inr h) =
    let at = cut_front a b h.1.1.0 h.1.1.1 in
    let same : AreSame (cut_short at.0 at.1 (a ++ b)) h.1.0 = subst (λ (s : List Step). AreSame (cut_short at.0 at.1 (a ++ b)) s) (sym h.1.1.2) at.2 in
    inr (h.0, (cut_short at.0 at.1 (a ++ b), (at.0, at.1, refl), done_same (cut_short at.0 at.1 (a ++ b)) h.1.0 m names before after same h.1.2))

-- the outside failed before the first step
pub goes_nowhere : (steps : List Step) (m : Files) (f : Fault) (names : Option Files) (old : Option (List ℕ)) → names ≡ Some m → IsOutside f → Goes (all_done steps) m (Err f) names old old
goes_nowhere steps m f names old is out =
    inr (out, (cut_short 0 0 steps, (0, 0, refl), done_same (cut_short 0 0 steps) [] m names old old (cut_none steps) (record { printed = gets-none old; published = is })))

pub goes_refused : (steps : List Step) (m : Files) (r : Result (Unit {0}) Fault) (f : Fault) (names : Option Files) (old : Option (List ℕ)) → r ≡ Err f → names ≡ Some m → IsOutside f → Goes (all_done steps) m r names old old
goes_refused steps m r f names old is told out = subst (λ (e : Result (Unit {0}) Fault). Goes (all_done steps) m e names old old) (sym is) (goes_nowhere steps m f names old told out)

-- a text was put, but for a quiet translation
pub spoken_done : (quiet : Bool) (told : List ℕ) (m : Files) (names : Option Files) (before after : Option (List ℕ)) → names ≡ Some m → Gets (spoken quiet told) before after → AreDone (unless_quiet quiet told) m names before after
spoken_done true told m names before after is got = record { printed = got; published = is }
spoken_done false told m names before after is got = record { printed = subst (λ (t : List ℕ). Gets t before after) (sym (append-nil told)) got; published = is }

-- a first part of it was put
take_none : (j : ℕ) → take {A = ℕ} j [] ≡ []
take_none zero = refl
take_none (suc j) = refl

pub spoken_stops : (quiet : Bool) (told : List ℕ) (f : Fault) (m : Files) (names : Option Files) (before after : Option (List ℕ)) → names ≡ Some m → IsOutside f → GetsPart (spoken quiet told) before after → Goes (all_done (unless_quiet quiet told)) m (Err f) names before after
spoken_stops true told f m names before after is out part = inr (
  out,
  (
    [],
    (0, 0, refl),
    record {
      printed = λ g at. let here = part g at in here.1 ∙ ap (λ (t : List ℕ). Some (g ++ t)) (take_none here.0);
      published = is;
    },
  ),
)
spoken_stops false told f m names None after is out part = inr (
  out,
  (
    Prints (take 0 told) ∷ [],
    (0, 0, refl),
    record {
      printed = λ g at. let no : ⊥ = cc in absurd no;
      published = is;
    },
  ),
)
spoken_stops false told f m names (Some old) after is out part =
    let here = part old refl in
    inr (
      out,
      (
        Prints (take here.0 told) ∷ [],
        (0, here.0, refl),
        record {
          printed = λ g at. let one : old ≡ g = cc in here.1 ∙ ap (λ (o : List ℕ). Some (o ++ take here.0 told)) one ∙ ap (λ (t : List ℕ). Some (g ++ t)) (sym (append-nil (take here.0 told)));
          published = is;
        },
      ),
    )

-- files that are published
publishes_published : (files : List (List ℕ × List ℕ)) → published (publishes files) ≡ files
publishes_published [] = refl
publishes_published (file ∷ files) = ap (λ (l : List (List ℕ × List ℕ)). file ∷ l) (publishes_published files)

publishes_printed : (files : List (List ℕ × List ℕ)) → printed (publishes files) ≡ []
publishes_printed [] = refl
publishes_printed (file ∷ files) = publishes_printed files

cut_publishes : (n : ℕ) (files : List (List ℕ × List ℕ)) → publishes (take n files) ≡ cut_short n 0 (publishes files)
cut_publishes zero [] = refl
cut_publishes zero (file ∷ files) = refl
cut_publishes (suc n) [] = refl
cut_publishes (suc n) (file ∷ files) = ap (λ (s : List Step). Publishes file.0 file.1 ∷ s) (cut_publishes n files)

applied_with : (files : List (List ℕ × List ℕ)) (m : Files) → with_files files m ≡ applied files m
applied_with [] m = refl
applied_with (file ∷ files) m = applied_with files (insert m file.0 file.1)

publishes_done : (files : List (List ℕ × List ℕ)) (m : Files) (names : Option Files) (old : Option (List ℕ)) → names ≡ Some (with_files files m) → AreDone (publishes files) m names old old
publishes_done files m names old is = record {
  printed = subst (λ (t : List ℕ). Gets t old old) (sym (publishes_printed files)) (gets-none old);
  published = is ∙ ap (λ (k : Files). Some k) (applied_with files m) ∙ ap (λ (l : List (List ℕ × List ℕ)). Some (applied l m)) (sym (publishes_published files));
}

-- the first of the files were published, or all of them
pub publishes_goes : (files : List (List ℕ × List ℕ)) (m : Files) (names : Option Files) (old : Option (List ℕ)) → names ≡ Some (with_files (take (length files) files) m) → Goes (all_done (publishes files)) m (Ok tt) names old old
publishes_goes files m names old is = (refl, publishes_done files m names old (is ∙ ap (λ (l : List (List ℕ × List ℕ)). Some (with_files l m)) (take-length files)))

pub publishes_stops : (files : List (List ℕ × List ℕ)) (m : Files) (n : ℕ) (f : Fault) (names : Option Files) (old : Option (List ℕ)) → names ≡ Some (with_files (take n files) m) → IsOutside f → Goes (all_done (publishes files)) m (Err f) names old old
publishes_stops files m n f names old is out = inr (out, (publishes (take n files), (n, 0, cut_publishes n files), publishes_done (take n files) m names old is))
