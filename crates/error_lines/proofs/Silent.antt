-- Steps among which no warning stands.
use Rattle.std.proofs.Common.{◌≡◌, ◌∙◌, refl, sym, ap, ℕ, List, [], ◌∷◌, ◌++◌, take, drop, Option, Some, None, Result, Ok, Err, false, inl, inr, ◌⊎◌}
use Rattle.std.proofs.lemmas.List.{take-append-drop}
use Rattle.outside.specs.Outside.{Files}
use Rattle.error_lines.specs.declared.faults.Fault.{Fault}
use Rattle.error_lines.specs.Faults.{IsOutside}
use Rattle.error_lines.specs.Steps.{Step, Prints, Warns, Publishes, Done, AreWarned, AreDone, IsFirstPart, Goes, GoesWarning, warned, begun, cut_short, prints, publishes}
use Rattle.error_lines.proofs.Warned.{warned_both, none_warned}

-- texts and files are no warnings
pub prints_silent : (texts : List (List ℕ)) → warned (prints texts) ≡ []
prints_silent [] = refl
prints_silent (text ∷ texts) = prints_silent texts

pub publishes_silent : (files : List (List ℕ × List ℕ)) → warned (publishes files) ≡ []
publishes_silent [] = refl
publishes_silent (file ∷ files) = publishes_silent files

-- nor is either of two lists of steps, where together they have none
left_none : (a b : List ℕ) → a ++ b ≡ [] → a ≡ []
left_none [] b is = refl
left_none (x ∷ a) b is = cc

pub both_silent : (a b : List Step) → warned a ≡ [] → warned b ≡ [] → warned (a ++ b) ≡ []
both_silent a b first second = warned_both a b ∙ ap (λ (t : List ℕ). t ++ warned b) first ∙ second

begun_silent : (count : ℕ) (steps : List Step) → warned (begun count steps) ≡ []
begun_silent count [] = refl
begun_silent count (Prints text ∷ steps) = refl
begun_silent count (Warns line ∷ steps) = refl
begun_silent count (Publishes name bytes ∷ steps) = refl

take_silent : (whole : ℕ) (steps : List Step) → warned steps ≡ [] → warned (take whole steps) ≡ []
take_silent whole steps none = left_none (warned (take whole steps)) (warned (drop whole steps)) (sym (warned_both (take whole steps) (drop whole steps)) ∙ ap warned (take-append-drop whole steps) ∙ none)

-- a first part of steps without warnings has none
pub part_silent : (part steps : List Step) → IsFirstPart part steps → warned steps ≡ [] → warned part ≡ []
part_silent part steps is none = ap warned is.2 ∙ both_silent (take is.0 steps) (begun is.1 (drop is.0 steps)) (take_silent is.0 steps none) (begun_silent is.1 (drop is.0 steps))

-- so far as a run without warnings went, whatever holds of steps without warnings holds of those that it did
pub goes_with : (W : List Step → Type 0) (r : Done) (m : Files) (result : Result (Unit {0}) Fault) (names : Option Files) (before after : Option (List ℕ)) → ((part : List Step) → warned part ≡ [] → W part) → warned r.steps ≡ [] → Goes r m result names before after → GoesWarning r m result names before after W
goes_with W r m (Ok done) names before after holds none goes = (goes.0, goes.1, holds r.steps none)
goes_with W r m (Err fault) names before after holds none (inl ended) = inl (ended.0, ended.1, holds r.steps none)
goes_with W r m (Err fault) names before after holds none (inr cut) =
    let far = cut.1 in
    inr (cut.0, (far.0, far.1, far.2, holds far.0 (part_silent far.0 r.steps far.1 none)))

-- a run without warnings leaves the error stream as it was
pub goes_silent : (r : Done) (m : Files) (result : Result (Unit {0}) Fault) (names : Option Files) (before after : Option (List ℕ)) (faults : ℕ) (got : Option (List ℕ)) → warned r.steps ≡ [] → Goes r m result names before after → GoesWarning r m result names before after (λ steps. AreWarned steps false faults faults got got)
goes_silent r m result names before after faults got none goes = goes_with (λ steps. AreWarned steps false faults faults got got) r m result names before after (λ part is. none_warned part faults got is) none goes
