-- How far a run goes that is followed by another.
use Rattle.std.proofs.Common.{◌≡◌, ◌∙◌, sym, subst, refl, inl, inr, ℕ, List, ◌++◌, Result, Ok, Err, Option, Some, None}
use Rattle.std.specs.Prelude.{IfErr}
use Rattle.outside.specs.Outside.{Files}
use Rattle.error_lines.specs.declared.faults.Fault.{Fault}
use Rattle.error_lines.specs.Faults.{IsOutside}
use Rattle.error_lines.specs.Steps.{Step, Done, published, applied, all_done, AreDone, Goes}
use Rattle.output_copies.proofs.Goes.{goes_then, goes_stop}
use Rattle.synth_runs.specs.Runs.{followed, then_run}

-- a run's steps alone, as far as they went
steps_alone : (r : Done) (m : Files) (result : Result (Unit {0}) Fault) (names : Option Files) (before after : Option (List ℕ)) → r.fault ≡ None → Goes r m result names before after → Goes (all_done r.steps) m result names before after
steps_alone r m (Ok done) names before after calm h = (refl, h.1)
steps_alone r m (Err f) names before after calm (inl h) = let no : ⊥ = (let one : Some f ≡ None = sym h.0 ∙ calm in cc) in absurd no
steps_alone r m (Err f) names before after calm (inr h) = inr h

-- a run behind steps that were done
behind : (a : List Step) (r : Done) (m n : Files) (result : Result (Unit {0}) Fault) (names : Option Files) (before mid after : Option (List ℕ)) → AreDone a m (Some n) before mid → Goes r n result names mid after → Goes (record { steps = a ++ r.steps; fault = r.fault }) m result names before after
behind a r m n (Ok done) names before mid after first h = (h.0, (goes_then a r.steps m n (Ok tt) names before mid after first (refl, h.1)).1)
behind a r m n (Err f) names before mid after first (inl h) = inl (h.0, (goes_then a r.steps m n (Ok tt) names before mid after first (refl, h.1)).1)
behind a r m n (Err f) names before mid after first (inr h) = stopped (goes_then a r.steps m n (Err f) names before mid after first (inr h))
  where
    stopped : Goes (all_done (a ++ r.steps)) m (Err f) names before after → Goes (record { steps = a ++ r.steps; fault = r.fault }) m (Err f) names before after
    stopped (inl failed) = absurd cc
    stopped (inr at) = inr at

-- where the first run went to its end, both go as far as the second
pub then_goes : (m : Files) (first : Done) (next : Files → Done) (result : Result (Unit {0}) Fault) (mid names : Option Files) (before between after : Option (List ℕ)) → Goes first m (Ok tt) mid before between → ((k : Files) → mid ≡ Some k → Goes (next k) k result names between after) → Goes (then_run m first next) m result names before after
unfolding then_run
then_goes m first next result mid names before between after h second =
    let k : Files = applied (published first.steps) m in
    subst (λ (fault : Option Fault). Goes (followed first.steps fault (next k)) m result names before after) (sym h.0)
    (behind first.steps (next k) m k result names before between after (subst (λ (told : Option Files). AreDone first.steps m told before between) h.1.published h.1) (second k h.1.published))

-- where the first run ended with a fault, so did both
stopped_at : (first : Done) (fault : Option Fault) (r : Done) (m : Files) (f : Fault) (names : Option Files) (before after : Option (List ℕ)) → first.fault ≡ fault → Goes first m (Err f) names before after → Goes (followed first.steps fault r) m (Err f) names before after
stopped_at first (Some e) r m f names before after is (inl h) = inl (sym is ∙ h.0, h.1)
stopped_at first (Some e) r m f names before after is (inr h) = inr h
stopped_at first None r m f names before after is h = more (goes_stop first.steps r.steps m f names before after (steps_alone first m (Err f) names before after is h))
  where
    more : Goes (all_done (first.steps ++ r.steps)) m (Err f) names before after → Goes (record { steps = first.steps ++ r.steps; fault = r.fault }) m (Err f) names before after
    more (inl failed) = absurd cc
    more (inr at) = inr at

pub then_stops : (m : Files) (first : Done) (next : Files → Done) (f : Fault) (names : Option Files) (before after : Option (List ℕ)) → Goes first m (Err f) names before after → Goes (then_run m first next) m (Err f) names before after
unfolding then_run
then_stops m first next f names before after h = stopped_at first first.fault (next (applied (published first.steps) m)) m f names before after refl h

-- a run without a fault ends only as the outside ends it
pub goes_outside : (r : Done) (m : Files) (result : Result (Unit {0}) Fault) (names : Option Files) (before after : Option (List ℕ)) → r.fault ≡ None → Goes r m result names before after → IfErr result IsOutside
goes_outside r m (Ok done) names before after calm h = tt
goes_outside r m (Err f) names before after calm (inl h) = let no : ⊥ = (let one : Some f ≡ None = sym h.0 ∙ calm in cc) in absurd no
goes_outside r m (Err f) names before after calm (inr h) = h.0
