-- How a walk goes on.
use Rattle.std.proofs.Common.{◌≡◌, ◌∙◌, ◌⊎◌, inl, inr, ◌+◌, ◌<◌, ◌≤◌, ap, sym, subst, refl, cond, ℕ, zero, suc, List, [], ◌∷◌, ◌++◌, length, Bool, true, false, Some, None, Result, Ok, Err, arith}
use Rattle.std.specs.Prelude.{nat_lt}
use Rattle.std.proofs.lemmas.Bool.Decides.{nat_tests}
use Rattle.lists_and_answers.specs.Answers.{◌>>=◌}
use Rattle.lists_and_answers.specs.Lists.{is_among}
use Rattle.outside.specs.Outside.{Files}
use Rattle.vrt_profile.specs.Value.{is_plain}
use Rattle.vrt_profile.specs.Values.{SourceValue}
use Rattle.catalog.specs.declared.kind.Kind.{Kind}
use Rattle.catalog.specs.declared.kind.Kind.TheVariants as kinds
use Rattle.catalog.specs.declared.faults.LimitKind.TheVariants as limits
use Rattle.catalog.specs.declared.faults.WalkFault.{WalkFault}
use Rattle.catalog.specs.declared.faults.WalkFault.TheVariants.{Cycle, TooDeep, Limit}
use Rattle.catalog.specs.Outcomes.{IsOutside}
use Rattle.catalog.specs.Drivers.{Dataset}
use Rattle.catalog.specs.Heads.{kind_in, dataset_by, resolved}
use Rattle.catalog.specs.Walk.{Met, dataset_number_in, dataset_named, sources_in, unless_on, room_for, one_more_source, unless_no_samples, again_below, again_step, again, visit_source, visit_sources, first_met, met_or_first, visit_step, visit}
use Rattle.catalog.proofs.Again.{again_begins}

-- names of no kind

step_unknown : (below : List (List ℕ) → Met → List ℕ → Result Met WalkFault) (m : Files) (verify : Bool) (room : ℕ) (path : List (List ℕ)) (met : Met) (name : List ℕ) (fault : WalkFault) → kind_in name ≡ Err fault → visit_step below m verify room path met name ≡ Err fault
unfolding visit_step
step_unknown below m verify room path met name fault is = ap (λ r. r >>= λ kind. unless_on path name >>= λ free. room_for room kind name >>= λ shallow. met_or_first below m verify room kind path met name (dataset_number_in met.datasets name)) is

pub visit_unknown : (m : Files) (verify : Bool) (room : ℕ) (path : List (List ℕ)) (met : Met) (name : List ℕ) (fault : WalkFault) → kind_in name ≡ Err fault → visit m verify room path met name ≡ Err fault
visit_unknown m verify zero path met name fault is = step_unknown (λ p a n. Ok a) m verify zero path met name fault is
visit_unknown m verify (suc room) path met name fault is = step_unknown (λ p a n. visit m verify room p a n) m verify (suc room) path met name fault is

-- names on the path

step_cycle : (below : List (List ℕ) → Met → List ℕ → Result Met WalkFault) (m : Files) (verify : Bool) (room : ℕ) (path : List (List ℕ)) (met : Met) (name : List ℕ) (kind : Kind) → kind_in name ≡ Ok kind → is_among path name ≡ true → visit_step below m verify room path met name ≡ Err (Cycle name)
unfolding visit_step
step_cycle below m verify room path met name kind is on =
    ap (λ r. r >>= λ kind. unless_on path name >>= λ free. room_for room kind name >>= λ shallow. met_or_first below m verify room kind path met name (dataset_number_in met.datasets name)) is
    ∙ ap (λ b. cond b (Err (Cycle name)) (Ok tt) >>= λ free. room_for room kind name >>= λ shallow. met_or_first below m verify room kind path met name (dataset_number_in met.datasets name)) on

pub visit_cycle : (m : Files) (verify : Bool) (room : ℕ) (path : List (List ℕ)) (met : Met) (name : List ℕ) (kind : Kind) → kind_in name ≡ Ok kind → is_among path name ≡ true → visit m verify room path met name ≡ Err (Cycle name)
visit_cycle m verify zero path met name kind is on = step_cycle (λ p a n. Ok a) m verify zero path met name kind is on
visit_cycle m verify (suc room) path met name kind is on = step_cycle (λ p a n. visit m verify room p a n) m verify (suc room) path met name kind is on

-- other names
step_begins : (below : List (List ℕ) → Met → List ℕ → Result Met WalkFault) (m : Files) (verify : Bool) (room : ℕ) (path : List (List ℕ)) (met : Met) (name : List ℕ) (kind : Kind) → kind_in name ≡ Ok kind → is_among path name ≡ false
    → visit_step below m verify room path met name ≡ (room_for room kind name >>= λ shallow. met_or_first below m verify room kind path met name (dataset_number_in met.datasets name))
unfolding visit_step
step_begins below m verify room path met name kind is off =
    ap (λ r. r >>= λ kind. unless_on path name >>= λ free. room_for room kind name >>= λ shallow. met_or_first below m verify room kind path met name (dataset_number_in met.datasets name)) is
    ∙ ap (λ b. cond b (Err (Cycle name)) (Ok tt) >>= λ free. room_for room kind name >>= λ shallow. met_or_first below m verify room kind path met name (dataset_number_in met.datasets name)) off

-- a mosaic for which there is no room
pub visit_deep : (m : Files) (verify : Bool) (path : List (List ℕ)) (met : Met) (name : List ℕ) → kind_in name ≡ Ok kinds.Vrt → is_among path name ≡ false → visit m verify 0 path met name ≡ Err (TooDeep name)
visit_deep m verify path met name is off = step_begins (λ p a n. Ok a) m verify zero path met name kinds.Vrt is off

-- a name that was met: where there is no room for it, its own checks say so too
step_again : (below : List (List ℕ) → Met → List ℕ → Result Met WalkFault) (down : List (List ℕ) → List ℕ → Result (Unit {0}) WalkFault) (m : Files) (verify : Bool) (room : ℕ) (path : List (List ℕ)) (met : Met) (name : List ℕ) (kind : Kind) (id : ℕ) → kind_in name ≡ Ok kind → is_among path name ≡ false → dataset_number_in met.datasets name ≡ Some id
    → again_step down room met.datasets path name ≡ again room met.datasets path name → visit_step below m verify room path met name ≡ (again room met.datasets path name >>= λ checked. Ok met)
step_again below down m verify room path met name kind id is off number begins =
    step_begins below m verify room path met name kind is off
    ∙ ap (λ o. room_for room kind name >>= λ shallow. met_or_first below m verify room kind path met name o) number
    ∙ by_room (room_for room kind name) (sym begins ∙ again_begins down room met.datasets path name kind is off)
  where
    by_room : (r : Result (Unit {0}) WalkFault) → again room met.datasets path name ≡ (r >>= λ shallow. again_below down path (dataset_named met.datasets name)) → (r >>= λ shallow. again room met.datasets path name >>= λ checked. Ok met) ≡ (again room met.datasets path name >>= λ checked. Ok met)
    by_room (Ok done) e = refl
    by_room (Err fault) e = sym (ap (λ r. r >>= λ checked. Ok met) e)

pub visit_again : (m : Files) (verify : Bool) (room : ℕ) (path : List (List ℕ)) (met : Met) (name : List ℕ) (kind : Kind) (id : ℕ) → kind_in name ≡ Ok kind → is_among path name ≡ false → dataset_number_in met.datasets name ≡ Some id
    → visit m verify room path met name ≡ (again room met.datasets path name >>= λ checked. Ok met)
visit_again m verify zero path met name kind id is off number = step_again (λ p a n. Ok a) (λ p n. Ok tt) m verify zero path met name kind id is off number refl
visit_again m verify (suc room) path met name kind id is off number = step_again (λ p a n. visit m verify room p a n) (λ p n. again room met.datasets p n) m verify (suc room) path met name kind id is off number refl

-- names that are met for the first time

step_first : (below : List (List ℕ) → Met → List ℕ → Result Met WalkFault) (m : Files) (verify : Bool) (room : ℕ) (path : List (List ℕ)) (met : Met) (name : List ℕ) (kind : Kind) → kind_in name ≡ Ok kind → is_among path name ≡ false → room_for room kind name ≡ Ok tt → dataset_number_in met.datasets name ≡ None
    → visit_step below m verify room path met name ≡ first_met below m verify kind path met name
step_first below m verify room path met name kind is off shallow fresh =
    step_begins below m verify room path met name kind is off
    ∙ ap (λ r. r >>= λ shallow. met_or_first below m verify room kind path met name (dataset_number_in met.datasets name)) shallow
    ∙ ap (λ o. met_or_first below m verify room kind path met name o) fresh

first_limit : (below : List (List ℕ) → Met → List ℕ → Result Met WalkFault) (m : Files) (verify : Bool) (kind : Kind) (path : List (List ℕ)) (met : Met) (name : List ℕ) → 65536 ≤ length met.datasets → first_met below m verify kind path met name ≡ Err (Limit limits.Files 65537)
unfolding first_met
first_limit below m verify kind path met name full =
    let test : nat_lt (length met.datasets) 65536 ≡ false = grind (arith, nat_tests) in
    ap (λ b. cond b (Ok tt) (Err (Limit limits.Files 65537)) >>= λ room. dataset_by kind m verify name >>= λ d. visit_sources (below (name ∷ path)) name (record { datasets = met.datasets ++ d ∷ []; sources = met.sources }) (sources_in d.content)) test

first_reads : (below : List (List ℕ) → Met → List ℕ → Result Met WalkFault) (m : Files) (verify : Bool) (kind : Kind) (path : List (List ℕ)) (met : Met) (name : List ℕ) → length met.datasets < 65536
    → first_met below m verify kind path met name ≡ (dataset_by kind m verify name >>= λ d. visit_sources (below (name ∷ path)) name (record { datasets = met.datasets ++ d ∷ []; sources = met.sources }) (sources_in d.content))
unfolding first_met
first_reads below m verify kind path met name few =
    let test : nat_lt (length met.datasets) 65536 ≡ true = grind (arith, nat_tests) in
    ap (λ b. cond b (Ok tt) (Err (Limit limits.Files 65537)) >>= λ room. dataset_by kind m verify name >>= λ d. visit_sources (below (name ∷ path)) name (record { datasets = met.datasets ++ d ∷ []; sources = met.sources }) (sources_in d.content)) test

-- what a visit of such a name begins with
pub record IsFirst (room : ℕ) (path : List (List ℕ)) (met : Met) (name : List ℕ) (kind : Kind) : Type 0 where
  pub kind_is : kind_in name ≡ Ok kind
  pub off : is_among path name ≡ false
  pub shallow : room_for room kind name ≡ Ok tt
  pub fresh : dataset_number_in met.datasets name ≡ None

pub visit_limit : (m : Files) (verify : Bool) (room : ℕ) (path : List (List ℕ)) (met : Met) (name : List ℕ) (kind : Kind) → IsFirst room path met name kind → 65536 ≤ length met.datasets → visit m verify room path met name ≡ Err (Limit limits.Files 65537)
visit_limit m verify zero path met name kind is full = step_first (λ p a n. Ok a) m verify zero path met name kind is.kind_is is.off is.shallow is.fresh ∙ first_limit (λ p a n. Ok a) m verify kind path met name full
visit_limit m verify (suc room) path met name kind is full = step_first (λ p a n. visit m verify room p a n) m verify (suc room) path met name kind is.kind_is is.off is.shallow is.fresh ∙ first_limit (λ p a n. visit m verify room p a n) m verify kind path met name full

pub visit_unread : (m : Files) (verify : Bool) (room : ℕ) (path : List (List ℕ)) (met : Met) (name : List ℕ) (kind : Kind) (fault : WalkFault) → IsFirst room path met name kind → length met.datasets < 65536 → dataset_by kind m verify name ≡ Err fault → visit m verify room path met name ≡ Err fault
visit_unread m verify zero path met name kind fault is few read =
    step_first (λ p a n. Ok a) m verify zero path met name kind is.kind_is is.off is.shallow is.fresh
    ∙ first_reads (λ p a n. Ok a) m verify kind path met name few
    ∙ ap (λ r. r >>= λ d. visit_sources (λ a n. Ok a) name (record { datasets = met.datasets ++ d ∷ []; sources = met.sources }) (sources_in d.content)) read
visit_unread m verify (suc room) path met name kind fault is few read =
    step_first (λ p a n. visit m verify room p a n) m verify (suc room) path met name kind is.kind_is is.off is.shallow is.fresh
    ∙ first_reads (λ p a n. visit m verify room p a n) m verify kind path met name few
    ∙ ap (λ r. r >>= λ d. visit_sources (λ a n. visit m verify room (name ∷ path) a n) name (record { datasets = met.datasets ++ d ∷ []; sources = met.sources }) (sources_in d.content)) read

-- a dataset without sources
pub visit_file : (m : Files) (verify : Bool) (room : ℕ) (path : List (List ℕ)) (met : Met) (name : List ℕ) (kind : Kind) (d : Dataset) → IsFirst room path met name kind → length met.datasets < 65536 → dataset_by kind m verify name ≡ Ok d → sources_in d.content ≡ []
    → visit m verify room path met name ≡ Ok (record { datasets = met.datasets ++ d ∷ []; sources = met.sources })
visit_file m verify zero path met name kind d is few read none =
    step_first (λ p a n. Ok a) m verify zero path met name kind is.kind_is is.off is.shallow is.fresh
    ∙ first_reads (λ p a n. Ok a) m verify kind path met name few
    ∙ ap (λ r. r >>= λ d. visit_sources (λ a n. Ok a) name (record { datasets = met.datasets ++ d ∷ []; sources = met.sources }) (sources_in d.content)) read
    ∙ ap (λ ss. visit_sources (λ a n. Ok a) name (record { datasets = met.datasets ++ d ∷ []; sources = met.sources }) ss) none
visit_file m verify (suc room) path met name kind d is few read none =
    step_first (λ p a n. visit m verify room p a n) m verify (suc room) path met name kind is.kind_is is.off is.shallow is.fresh
    ∙ first_reads (λ p a n. visit m verify room p a n) m verify kind path met name few
    ∙ ap (λ r. r >>= λ d. visit_sources (λ a n. visit m verify room (name ∷ path) a n) name (record { datasets = met.datasets ++ d ∷ []; sources = met.sources }) (sources_in d.content)) read
    ∙ ap (λ ss. visit_sources (λ a n. visit m verify room (name ∷ path) a n) name (record { datasets = met.datasets ++ d ∷ []; sources = met.sources }) ss) none

-- a mosaic is followed into its sources
pub visit_mosaic : (m : Files) (verify : Bool) (room : ℕ) (path : List (List ℕ)) (met : Met) (name : List ℕ) (kind : Kind) (d : Dataset) → IsFirst (suc room) path met name kind → length met.datasets < 65536 → dataset_by kind m verify name ≡ Ok d
    → visit m verify (suc room) path met name ≡ visit_sources (λ a n. visit m verify room (name ∷ path) a n) name (record { datasets = met.datasets ++ d ∷ []; sources = met.sources }) (sources_in d.content)
visit_mosaic m verify room path met name kind d is few read =
    step_first (λ p a n. visit m verify room p a n) m verify (suc room) path met name kind is.kind_is is.off is.shallow is.fresh
    ∙ first_reads (λ p a n. visit m verify room p a n) m verify kind path met name few
    ∙ ap (λ r. r >>= λ d. visit_sources (λ a n. visit m verify room (name ∷ path) a n) name (record { datasets = met.datasets ++ d ∷ []; sources = met.sources }) (sources_in d.content)) read

-- sources

-- what follows a refusal doesn't change it
pub still_refused : {A B : Type 0} (r : Result A WalkFault) (f : A → Result B WalkFault) (fault : WalkFault) → IsOutside fault ⊎ (r ≡ Err fault) → IsOutside fault ⊎ ((r >>= f) ≡ Err fault)
still_refused r f fault (inl free) = inl free
still_refused r f fault (inr is) = inr (ap (λ x. x >>= f) is)

module _ (below : Met → List ℕ → Result Met WalkFault) (base : List ℕ) (met : Met) (s : SourceValue) where
  pub source_uncounted : (fault : WalkFault) → IsOutside fault ⊎ (one_more_source met.sources ≡ Err fault) → IsOutside fault ⊎ (visit_source below base met s ≡ Err fault)
  unfolding visit_source
  source_uncounted fault is = still_refused (one_more_source met.sources) (λ c. resolved base s >>= λ name. below (record { datasets = met.datasets; sources = met.sources + 1 }) name >>= λ after. unless_no_samples after.datasets base name s.band (is_plain s) >>= λ there. Ok after) fault is

  pub source_unnamed : (fault : WalkFault) → one_more_source met.sources ≡ Ok tt → IsOutside fault ⊎ (resolved base s ≡ Err fault) → IsOutside fault ⊎ (visit_source below base met s ≡ Err fault)
  unfolding visit_source
  source_unnamed fault room is = subst (λ (r : Result Met WalkFault). IsOutside fault ⊎ (r ≡ Err fault))
      (sym (ap (λ r. r >>= λ c. resolved base s >>= λ name. below (record { datasets = met.datasets; sources = met.sources + 1 }) name >>= λ after. unless_no_samples after.datasets base name s.band (is_plain s) >>= λ there. Ok after) room))
      (still_refused (resolved base s) (λ name. below (record { datasets = met.datasets; sources = met.sources + 1 }) name >>= λ after. unless_no_samples after.datasets base name s.band (is_plain s) >>= λ there. Ok after) fault is)

  pub source_named : (name : List ℕ) → one_more_source met.sources ≡ Ok tt → resolved base s ≡ Ok name → visit_source below base met s ≡ (below (record { datasets = met.datasets; sources = met.sources + 1 }) name >>= λ after. unless_no_samples after.datasets base name s.band (is_plain s) >>= λ there. Ok after)
  unfolding visit_source
  source_named name room is =
      ap (λ r. r >>= λ c. resolved base s >>= λ name. below (record { datasets = met.datasets; sources = met.sources + 1 }) name >>= λ after. unless_no_samples after.datasets base name s.band (is_plain s) >>= λ there. Ok after) room
      ∙ ap (λ r. r >>= λ name. below (record { datasets = met.datasets; sources = met.sources + 1 }) name >>= λ after. unless_no_samples after.datasets base name s.band (is_plain s) >>= λ there. Ok after) is

  pub source_refused : (name : List ℕ) (fault : WalkFault) → one_more_source met.sources ≡ Ok tt → resolved base s ≡ Ok name → IsOutside fault ⊎ (below (record { datasets = met.datasets; sources = met.sources + 1 }) name ≡ Err fault) → IsOutside fault ⊎ (visit_source below base met s ≡ Err fault)
  source_refused name fault room is refused = subst (λ (r : Result Met WalkFault). IsOutside fault ⊎ (r ≡ Err fault)) (sym (source_named name room is))
      (still_refused (below (record { datasets = met.datasets; sources = met.sources + 1 }) name) (λ after. unless_no_samples after.datasets base name s.band (is_plain s) >>= λ there. Ok after) fault refused)

  source_visited : (name : List ℕ) (after : Met) → one_more_source met.sources ≡ Ok tt → resolved base s ≡ Ok name → below (record { datasets = met.datasets; sources = met.sources + 1 }) name ≡ Ok after → visit_source below base met s ≡ (unless_no_samples after.datasets base name s.band (is_plain s) >>= λ there. Ok after)
  source_visited name after room is visited = source_named name room is ∙ ap (λ r. r >>= λ after. unless_no_samples after.datasets base name s.band (is_plain s) >>= λ there. Ok after) visited

  pub source_bandless : (name : List ℕ) (after : Met) (fault : WalkFault) → one_more_source met.sources ≡ Ok tt → resolved base s ≡ Ok name → below (record { datasets = met.datasets; sources = met.sources + 1 }) name ≡ Ok after → IsOutside fault ⊎ (unless_no_samples after.datasets base name s.band (is_plain s) ≡ Err fault) → IsOutside fault ⊎ (visit_source below base met s ≡ Err fault)
  source_bandless name after fault room is visited refused = subst (λ (r : Result Met WalkFault). IsOutside fault ⊎ (r ≡ Err fault)) (sym (source_visited name after room is visited))
      (still_refused (unless_no_samples after.datasets base name s.band (is_plain s)) (λ there. Ok after) fault refused)

  pub source_fine : (name : List ℕ) (after : Met) → one_more_source met.sources ≡ Ok tt → resolved base s ≡ Ok name → below (record { datasets = met.datasets; sources = met.sources + 1 }) name ≡ Ok after → unless_no_samples after.datasets base name s.band (is_plain s) ≡ Ok tt → visit_source below base met s ≡ Ok after
  source_fine name after room is visited there = source_visited name after room is visited ∙ ap (λ r. r >>= λ t. Ok after) there

-- the sources of two lists, one behind the other
pub sources_append : (below : Met → List ℕ → Result Met WalkFault) (base : List ℕ) (met : Met) (a b : List SourceValue) → visit_sources below base met (a ++ b) ≡ (visit_sources below base met a >>= λ after. visit_sources below base after b)
sources_append below base met [] b = refl
sources_append below base met (s ∷ ss) b = by_first (visit_source below base met s) (λ after. sources_append below base after ss b)
  where
    by_first : (r : Result Met WalkFault) → ((after : Met) → visit_sources below base after (ss ++ b) ≡ (visit_sources below base after ss >>= λ x. visit_sources below base x b)) → (r >>= λ after. visit_sources below base after (ss ++ b)) ≡ ((r >>= λ after. visit_sources below base after ss) >>= λ x. visit_sources below base x b)
    by_first (Ok after) rest = rest after
    by_first (Err fault) rest = refl
