-- How far translations go.
use Rattle.std.proofs.Common.{◌≡◌, ◌∙◌, ap, sym, subst, refl, ◌⊎◌, inl, inr, ℕ, Bool, false, List, [], ◌∷◌, length, Result, Ok, Err, Option, Some, None}
use Rattle.std.specs.Prelude.{slice_get, option_map}
use Rattle.lists_and_answers.specs.Answers.{◌>>=◌}
use Rattle.outside.specs.Outside.{Files}
use Rattle.outside.proofs.Sinks.{gets-none}
use Rattle.geotransform.specs.declared.faults.PlanFault.{PlanFault}
use Rattle.catalog.specs.Outcomes as outcomes
use Rattle.catalog.specs.Dataset.{DatasetHead}
use Rattle.catalog.specs.Drivers.{Dataset}
use Rattle.catalog.specs.Heads.{dataset_in}
use Rattle.catalog.specs.Walk.{walked, dataset_number_in, IsWalked}
use Rattle.catalog.proofs.Found.{found}
use Rattle.catalog.specs.declared.faults.WalkFault.{WalkFault}
use Rattle.catalog.specs.declared.faults.WalkFault.TheVariants as walk
use Rattle.translate_plan.specs.Options.{Options}
use Rattle.translate_plan.specs.Plan.{Planned, plan_of, fits_in}
use Rattle.translate_plan.specs.Bands.{all_known, count_of, asked_bands}
use Rattle.translate_plan.specs.Window.{asked_in, window_in, inside_in, sides_of, size_in}
use Rattle.translate_plan.specs.Fits.{band_count_in, geo_in, place_in}
use Rattle.error_lines.specs.declared.faults.Fault.{Fault}
use Rattle.error_lines.specs.declared.faults.Fault.TheVariants.{Changed, Memory}
use Rattle.error_lines.specs.Faults.{fault_of, by_walk, IsOutside}
use Rattle.error_lines.specs.Steps.{Step, Done, Prints, Warns, Publishes, all_done, applied, cut_short, printed, published, AreDone, Goes}
use Rattle.output_copies.specs.Steps.{translation_steps}
use Rattle.published_files.specs.Names.{unless_read}
use Rattle.translation_runs.specs.Judged.{Judged, by_plan, translation_done, translation_judged, translation_run}
use Rattle.translation_runs.specs.Published.{names_written}
use Rattle.translation_runs.proofs.Bound.{bind_is, ok_same}
use Rattle.translation_runs.proofs.Reached.{told_of, walked_read}

-- what was walked, and the dataset that its name has
pub record Walked (m : Files) (verify : Bool) (src : List ℕ) (cat : List Dataset) (id : ℕ) (head : DatasetHead) : Type 0 where
  pub dataset : Dataset
  pub at : slice_get cat id ≡ Some dataset
  pub walk : walked m verify [] src ≡ Ok cat
  pub read : dataset_in m false src ≡ Ok dataset
  pub headed : head ≡ dataset.head

pub walked_so : (m : Files) (verify : Bool) (src : List ℕ) (old cat : List Dataset) (id : ℕ) (head : DatasetHead) → old ≡ [] → walked m verify old src ≡ Ok cat → (IsWalked m old → IsWalked m cat) → dataset_number_in cat src ≡ Some id → option_map (λ (d : Dataset). d.head) (slice_get cat id) ≡ Some head → Walked m verify src cat id head
walked_so m verify src old cat id head empty walk more number is =
    let d = found cat src id number in
    record {
      dataset = d.dataset;
      at = d.at;
      walk = subst (λ (c : List Dataset). walked m verify c src ≡ Ok cat) empty walk;
      read = walked_read m old cat src id d.dataset empty more d.at d.named;
      headed = sym (told_of (λ (d : Dataset). d.head) cat id d.dataset head d.at is);
    }

-- the driver of a plan is the one that is asked for
pub planned_driver : (o : Options) (h : DatasetHead) (p : Planned) → plan_of o h ≡ Ok p → p.driver ≡ o.driver
unfolding plan_of
planned_driver o h p found =
    let known = bind_is (all_known o.bands (length h.bands)) _ p found in
    let asked = bind_is (asked_in o.view h.size h.geo) _ p known.rest in
    let v = bind_is (window_in asked.value) _ p asked.rest in
    let inside = bind_is (inside_in o.epo o.eco v.value h.size) _ p v.rest in
    let size = bind_is (size_in (sides_of o.outsize v.value.size)) _ p inside.rest in
    let few = bind_is (band_count_in o.driver (count_of o.bands (length h.bands))) _ p size.rest in
    let geo = bind_is (geo_in o.driver h.geo v.value size.value) _ p few.rest in
    let place = bind_is (place_in o.driver geo.value) _ p geo.rest in
    let held = bind_is (fits_in o (asked_bands o h) size.value geo.value) _ p place.rest in
    sym (ap (λ (q : Planned). q.driver) (ok_same {E = PlanFault} _ p _ refl held.rest))

-- nothing was done
cut_none : (steps : List Step) → (printed (cut_short 0 0 steps) ≡ []) × (published (cut_short 0 0 steps) ≡ [])
cut_none [] = (refl, refl)
cut_none (Prints text ∷ steps) = (refl, refl)
cut_none (Warns line ∷ steps) = (refl, refl)
cut_none (Publishes name bytes ∷ steps) = (refl, refl)

nothing_done : (steps : List Step) (m : Files) (names : Option Files) (old : Option (List ℕ)) → names ≡ Some m → AreDone (cut_short 0 0 steps) m names old old
nothing_done steps m names old is =
    let none = cut_none steps in
    record {
      printed = rw none.0 (gets-none old);
      published = is ∙ ap (λ (files : List (List ℕ × List ℕ)). Some (applied files m)) (sym none.1);
    }

-- the outside failed before the first step, or the run was refused
goes_nowhere : (r : Done) (m : Files) (f : Fault) (names : Option Files) (old : Option (List ℕ)) → names ≡ Some m → IsOutside f → Goes r m (Err f) names old old
goes_nowhere r m f names old is out = inr (out, (cut_short 0 0 r.steps, (0, 0, refl), nothing_done r.steps m names old is))

-- a fault of the outside of a walk is one of the run
outside_walk : (f : WalkFault) → outcomes.IsOutside f → IsOutside (fault_of f)
outside_walk walk.FolderFault h = tt
outside_walk walk.Memory h = tt
outside_walk f h = absurd h

-- what a walk answers ends a translation that goes on from it
walk_fails : {T : Type 0} (f : WalkFault) (d : Result T WalkFault) (k : T → Result Judged Fault) → outcomes.IsOutside f ⊎ (d ≡ Err f) → IsOutside (fault_of f) ⊎ ((by_walk d >>= k) ≡ Err (fault_of f))
walk_fails f d k (inl out) = inl (outside_walk f out)
walk_fails {T} f d k (inr is) = inr (ap (λ (e : Result T WalkFault). by_walk e >>= k) is)

-- a translation that was refused, or that the outside ended so before anything was done
refused_goes : (f : Fault) (d : Result Judged Fault) (m : Files) (out : List ℕ) (quiet : Bool) (names : Option Files) (old : Option (List ℕ)) → names ≡ Some m → IsOutside f ⊎ (d ≡ Err f) → Goes (translation_done m out quiet d) m (Err f) names old old
refused_goes f d m out quiet names old is (inl outside) = goes_nowhere (translation_done m out quiet d) m f names old is outside
refused_goes f d m out quiet names old is (inr refused) = subst (λ (e : Result Judged Fault). Goes (translation_done m out quiet e) m (Err f) names old old) (sym refused) (inl (refl, record { printed = gets-none old; published = is }))

-- what is planned, as the run has it
pub plan_is : {T : Type 0} (d : Result T PlanFault) (x : T) → by_plan d ≡ Ok x → d ≡ Ok x
plan_is (Ok y) x is = let same : y ≡ x = cc in ap Ok same
plan_is (Err e) x is = let no : ⊥ = cc in absurd no

pub planned_so : (o : Options) (head read : DatasetHead) (planned : Result Planned PlanFault) (r : Result Planned Fault) → head ≡ read → planned ≡ plan_of o head → r ≡ by_plan planned → by_plan (plan_of o read) ≡ r
planned_so o head read planned r headed is so = ap (λ (h : DatasetHead). by_plan (plan_of o h)) (sym headed) ∙ ap (λ (d : Result Planned PlanFault). by_plan d) (sym is) ∙ sym so

abbrev judged : Dataset → Planned → Result Judged Fault
judged d p = Ok (record { dataset = d; plan = p })

module _ (m : Files) (verify : Bool) (src : List ℕ) (options : Options) (quiet : Bool) where
  abbrev work : Result Judged Fault
  work = translation_judged m verify src options

  abbrev run : Done
  run = translation_run m verify src options quiet

  -- a translation ends with what the walk answers
  pub walk_goes : (f : WalkFault) (names : Option Files) (old : Option (List ℕ)) → names ≡ Some m → outcomes.IsOutside f ⊎ (walked m verify [] src ≡ Err f) → Goes run m (Err (fault_of f)) names old old
  unfolding translation_judged
  walk_goes f names old is h = refused_goes (fault_of f) _ m options.out quiet names old is (walk_fails f (walked m verify [] src) (λ cat. by_walk (dataset_in m false src) >>= (λ d. by_plan (plan_of options d.head) >>= (λ p. unless_read cat (names_written options) >>= (λ free. judged d p)))) h)

  module _ (cat : List Dataset) (d : Dataset) (is : walked m verify [] src ≡ Ok cat) (read : dataset_in m false src ≡ Ok d) where
    abbrev freed : Planned → Unit {0} → Result Judged Fault
    freed p free = judged d p

    abbrev planned : Planned → Result Judged Fault
    planned p = unless_read cat (names_written options) >>= freed p

    walked_to : work ≡ (by_plan (plan_of options d.head) >>= planned)
    unfolding translation_judged
    walked_to =
        ap (λ (e : Result (List Dataset) WalkFault). by_walk e >>= (λ (c : List Dataset). by_walk (dataset_in m false src) >>= (λ (x : Dataset). by_plan (plan_of options x.head) >>= (λ (p : Planned). unless_read c (names_written options) >>= (λ free. judged x p))))) is
        ∙ ap (λ (e : Result Dataset WalkFault). by_walk e >>= (λ (x : Dataset). by_plan (plan_of options x.head) >>= (λ (p : Planned). unless_read cat (names_written options) >>= (λ free. judged x p)))) read

    -- with the refusal of the plan
    pub plan_goes : (f : Fault) (names : Option Files) (old : Option (List ℕ)) → names ≡ Some m → by_plan (plan_of options d.head) ≡ Err f → Goes run m (Err f) names old old
    plan_goes f names old told refused = refused_goes f work m options.out quiet names old told (inr (walked_to ∙ ap (λ (e : Result Planned Fault). e >>= planned) refused))

    module _ (p : Planned) (plan : by_plan (plan_of options d.head) ≡ Ok p) where
      planned_to : work ≡ (unless_read cat (names_written options) >>= freed p)
      planned_to = walked_to ∙ ap (λ (e : Result Planned Fault). e >>= planned) plan

      outside_memory : (f : Fault) → (f ≡ Memory) ⊎ (unless_read cat (names_written options) ≡ Err f) → IsOutside f ⊎ (work ≡ Err f)
      outside_memory f (inl free) = inl (subst IsOutside (sym free) tt)
      outside_memory f (inr refused) = inr (planned_to ∙ ap (λ (e : Result (Unit {0}) Fault). e >>= freed p) refused)

      -- with a name that is read
      pub same_goes : (f : Fault) (names : Option Files) (old : Option (List ℕ)) → names ≡ Some m → (f ≡ Memory) ⊎ (unless_read cat (names_written options) ≡ Err f) → Goes run m (Err f) names old old
      same_goes f names old told h = refused_goes f work m options.out quiet names old told (outside_memory f h)

      -- or it is done
      pub done_goes : (result : Result (Unit {0}) Fault) (names : Option Files) (before after : Option (List ℕ)) → unless_read cat (names_written options) ≡ Ok tt → Goes (all_done (translation_steps quiet m d p options.out)) m result names before after → Goes run m result names before after
      done_goes result names before after free goes =
          subst (λ (e : Result Judged Fault). Goes (translation_done m options.out quiet e) m result names before after) (sym (planned_to ∙ ap (λ (e : Result (Unit {0}) Fault). e >>= freed p) free)) goes

-- a run that isn't refused ends for no length that changed, where its folder tells its files
pub goes_unchanged : (d : Done) (m : Files) (result : Result (Unit {0}) Fault) (names : Option Files) (before after : Option (List ℕ)) → d.fault ≡ None → Goes d m result names before after → (name : List ℕ) (was : ℕ) (now : Option ℕ) → result ≡ Err (Changed name was now) → ⊥
goes_unchanged d m (Ok done) names before after calm goes name was now is = cc
goes_unchanged d m (Err f) names before after calm (inl goes) name was now is = let refused = goes.0 in cc
goes_unchanged d m (Err f) names before after calm (inr goes) name was now is = let same : f ≡ Changed name was now = cc in subst IsOutside same goes.0
