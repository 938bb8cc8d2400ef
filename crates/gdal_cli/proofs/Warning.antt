-- What the error stream gets of a run.
use Rattle.std.proofs.Common.{◌≡◌, ◌∙◌, ap, sym, subst, refl, inl, inr, ◌≤◌, ℕ, Bool, true, false, List, [], length, arith, Result, Ok, Err, Option, Some}
use Rattle.outside.specs.Outside.{Files}
use Rattle.outside.specs.Causes.{Rose}
use Rattle.outside.specs.Streams.{Gets, GetsPart}
use Rattle.outside.proofs.Sinks.{gets-then, gets-then-part, part-first}
use Rattle.error_lines.specs.declared.faults.Fault.{Fault}
use Rattle.error_lines.specs.Faults.{IsOutside, status_of}
use Rattle.error_lines.specs.Steps.{Step, Done, cut_short, prints, warned, AreDone, AreWarned, Goes, GoesWarning, IsFirstPart}
use Rattle.error_lines.specs.Texts.{error_line_of}
use Rattle.error_lines.proofs.Silent.{goes_with, prints_silent}
use Rattle.error_lines.proofs.Warned.{none_warned}
use Rattle.mosaic_builds.specs.Steps.{warns}
use Rattle.translation_runs.specs.Ends.{ended}
use Rattle.gdal_cli.specs.Run.{AreTold, TellsFault}
use Rattle.gdal_cli.specs.Jobs.{Ends, MayWarn}
use Rattle.gdal_cli.proofs.Cuts.{cut_silent, cut_whole}
use Rattle.gdal_cli.proofs.Outcomes.{nothing_done, outside_status, printing_goes}

-- how far a run went, whatever was warned of
pub goes_of : (r : Done) (m : Files) (result : Result (Unit {0}) Fault) (names : Option Files) (before after : Option (List ℕ)) (W : List Step → Type 0) → GoesWarning r m result names before after W → Goes r m result names before after
goes_of r m (Ok done) names before after W h = (h.0, h.1)
goes_of r m (Err f) names before after W (inl h) = inl (h.0, h.1)
goes_of r m (Err f) names before after W (inr h) = inr (h.0, (h.1.0, h.1.1, h.1.2))

-- the outside failed before the first step
pub nowhere_warned : (r : Done) (m : Files) (f : Fault) (names : Option Files) (old : Option (List ℕ)) (W : List Step → Type 0) → names ≡ Some m → IsOutside f → ((part : List Step) → warned part ≡ [] → W part) → GoesWarning r m (Err f) names old old W
nowhere_warned r m f names old W is out holds = inr (out, (cut_short 0 0 r.steps, (0, 0, refl), nothing_done r.steps m names old is, holds (cut_short 0 0 r.steps) (cut_silent r.steps)))

-- the same of another way to say the run
pub warning_as : (r q : Done) (m : Files) (result : Result (Unit {0}) Fault) (names : Option Files) (before after : Option (List ℕ)) (W : List Step → Type 0) → GoesWarning r m result names before after W → r ≡ q → GoesWarning q m result names before after W
warning_as r q m result names before after W goes same = subst (λ (x : Done). GoesWarning x m result names before after W) same goes

-- where the status is 0 or 1, all that it warns of was told
pub whole_warned : (r : Done) (m : Files) (result : Result (Unit {0}) Fault) (names : Option Files) (before after : Option (List ℕ)) (W : List Step → Type 0) → status_of (ended result) ≤ 1 → GoesWarning r m result names before after W → W r.steps
whole_warned r m (Ok done) names before after W low h = h.2
whole_warned r m (Err f) names before after W low (inl h) = h.2
whole_warned r m (Err f) names before after W low (inr h) = let high = outside_status f h.0 in absurd (omega arith)

-- where it is 2 or 3, what the first of its steps warn of
pub early_warned : (r : Done) (m : Files) (result : Result (Unit {0}) Fault) (names : Option Files) (before after : Option (List ℕ)) (W : List Step → Type 0) → 2 ≤ status_of (ended result) → GoesWarning r m result names before after W → (part : List Step) × IsFirstPart part r.steps × AreDone part m names before after × W part
early_warned r m (Ok done) names before after W high h = absurd (omega arith)
early_warned r m (Err f) names before after W high (inl h) = (r.steps, (length r.steps, 0, sym (cut_whole 0 r.steps)), h.1, h.2)
early_warned r m (Err f) names before after W high (inr h) = h.1

-- the line of the fault behind warnings, on a stream that may have failed
pub told_behind : (steps : List Step) (fault : Option Fault) (failed : Bool) (first mid last : ℕ) (start old new : Option (List ℕ)) → AreWarned steps failed first mid start old
    → (failed ≡ false → (Rose mid last → ⊥) → Gets (error_line_of fault) old new) → (failed ≡ false → GetsPart (error_line_of fault) old new) → (failed ≡ true → new ≡ old) → mid ≤ last
    → AreTold steps fault first last start new
told_behind steps fault false first mid last start old new w whole part same later = record {
  whole = λ calm. gets-then (warned steps) (error_line_of fault) start old new (w.whole refl) (whole refl (λ rose. calm (let before = w.later in omega (arith, rose, before))));
  part = gets-then-part (warned steps) (error_line_of fault) start old new (w.whole refl) (part refl);
}
told_behind steps fault true first mid last start old new w whole part same later = record {
  whole = λ calm. absurd (calm (let rose = w.rose refl in omega (arith, rose, later)));
  part = part-first (warned steps) (error_line_of fault) start new (subst (λ (o : Option (List ℕ)). GetsPart (warned steps) start o) (sym (same refl)) w.part);
}

-- nothing was warned of
pub silent_steps : (failed : Bool) (faults : ℕ) (got : Option (List ℕ)) → failed ≡ false → (part : List Step) → warned part ≡ [] → AreWarned part failed faults faults got got
silent_steps failed faults got fresh part none = subst (λ (b : Bool). AreWarned part b faults faults got got) (sym fresh) (none_warned part faults got none)

-- a run without warnings
module _ (r q : Done) (m : Files) (result : Result (Unit {0}) Fault) (names : Option Files) (before after : Option (List ℕ)) (failed : Bool) (faults : ℕ) (got : Option (List ℕ)) (fresh : failed ≡ false) where
  pub silent_as : Goes r m result names before after → warned r.steps ≡ [] → r ≡ q → GoesWarning q m result names before after (λ steps. AreWarned steps failed faults faults got got)
  silent_as goes none same =
      warning_as r q m result names before after (λ steps. AreWarned steps failed faults faults got got)
      (goes_with (λ steps. AreWarned steps failed faults faults got got) r m result names before after (silent_steps failed faults got fresh) none goes) same

  -- one that prints
  pub printing_as : Ends r result before after → ((texts : List (List ℕ)) × (r.steps ≡ prints texts)) → r ≡ q → names ≡ Some m → GoesWarning q m result names before after (λ steps. AreWarned steps failed faults faults got got)
  printing_as ends printing same is =
      silent_as (printing_goes r printing.0 result m names before after printing.1 is ends)
      (ap warned printing.1 ∙ prints_silent printing.0) same

pub silent_may : (able : Bool) (fault : Option Fault) (failed : Bool) (faults : ℕ) (got : Option (List ℕ)) → failed ≡ false → MayWarn able fault failed faults faults got got
silent_may able fault failed faults got fresh = record {
  warnings = [];
  told = silent_steps failed faults got fresh [] refl;
  none = λ is. refl;
  refused = λ is. refl;
}

-- the line of the fault behind them
pub fault_behind : (able failed : Bool) (fault : Option Fault) (first mid last : ℕ) (start old new : Option (List ℕ)) → MayWarn able fault failed first mid start old
    → (failed ≡ false → (Rose mid last → ⊥) → Gets (error_line_of fault) old new) → (failed ≡ false → GetsPart (error_line_of fault) old new) → (failed ≡ true → new ≡ old) → mid ≤ last
    → TellsFault able fault first last start new
fault_behind able failed fault first mid last start old new may whole part same later =
    let told = told_behind (warns may.warnings) fault failed first mid last start old new may.told whole part same later in
    record { warnings = may.warnings; whole = told.whole; part = told.part; none = may.none; refused = may.refused }
