-- Visits of names, by what a walk keeps.
use Rattle.std.proofs.Common.{◌≡◌, ◌∙◌, ◌<◌, ◌≤◌, ap, sym, subst, cond, ℕ, List, length, Bool, true, false, Some, None, Ok, Err, arith}
use Rattle.std.specs.Prelude.{slice_get, nat_lt, ok_or}
use Rattle.std.proofs.lemmas.Bool.Decides.{nat_tests}
use Rattle.std.proofs.lemmas.Option.{slice_get_within}
use Rattle.lists_and_answers.specs.Answers.{◌>>=◌}
use Rattle.outside.specs.Outside.{Files}
use Rattle.outside.specs.Paths.{normal}
use Rattle.vrt_profile.specs.Values.{SourceValue}
use Rattle.vrt_profile.specs.Resolve.{resolved_text}
use Rattle.catalog.specs.declared.kind.Kind.{Kind}
use Rattle.catalog.specs.declared.faults.LimitKind.TheVariants as limits
use Rattle.catalog.specs.declared.faults.WalkFault.TheVariants.{Cycle, TooDeep, Limit, SourceBand}
use Rattle.catalog.specs.declared.links.Link.{Link}
use Rattle.catalog.specs.Drivers.{Dataset}
use Rattle.catalog.specs.Heads.{kind_in, resolved}
use Rattle.catalog.specs.Walk.{dataset_number_in, bands_of, unless_no_band, again, visit, IsDataset}
use Rattle.catalog.specs.Linked.{State, IsLow, IsHigh, IsDeep, IsLinked, IsPath, met_of}
use Rattle.catalog.proofs.Found.{of_item, found, named_at}
use Rattle.catalog.proofs.Again.{again_fine}
use Rattle.catalog.proofs.States.{open_known, off_path}
use Rattle.catalog.proofs.Visits.{visit_cycle, visit_again}

-- the name of a source that is within the limit, and of one that isn't
pub resolved_fine : (base : List ℕ) (s : SourceValue) (name : List ℕ) → name ≡ normal (resolved_text base s) → (4096 < length (resolved_text base s) → ⊥) → resolved base s ≡ Ok name
resolved_fine base s name is short =
    let test : nat_lt 4096 (length (resolved_text base s)) ≡ false = grind (arith, nat_tests) in
    ap (λ b. ok_or (cond b None (Some (normal (resolved_text base s)))) (Limit limits.Name (length (resolved_text base s)))) test ∙ ap Ok (sym is)

pub resolved_long : (base : List ℕ) (s : SourceValue) → 4096 < length (resolved_text base s) → resolved base s ≡ Err (Limit limits.Name (length (resolved_text base s)))
resolved_long base s long =
    let test : nat_lt 4096 (length (resolved_text base s)) ≡ true = grind (arith, nat_tests) in
    ap (λ b. ok_or (cond b None (Some (normal (resolved_text base s)))) (Limit limits.Name (length (resolved_text base s)))) test

-- the kind of a name that was met
pub kind_met : (st : State) → IsLinked st → (name : List ℕ) (id : ℕ) → dataset_number_in st.datasets name ≡ Some id → (kind : Kind) × (kind_in name ≡ Ok kind)
kind_met st linked name id is =
    let f = found st.datasets name id is in
    (f.dataset.head.kind, ap kind_in (sym f.named) ∙ (of_item IsDataset st.datasets id f.dataset linked.each f.at).kind)

pub place_known : (st : State) → IsLinked st → (name : List ℕ) (id : ℕ) → dataset_number_in st.datasets name ≡ Some id → id < length st.links
place_known st linked name id is =
    let f = found st.datasets name id is in
    omega (arith, slice_get_within st.datasets id f.dataset f.at, linked.long)

-- a mosaic that is open
pub met_cycle : (st : State) → IsLinked st → (m : Files) (verify : Bool) (room : ℕ) (path : List (List ℕ)) (name : List ℕ) (id : ℕ) → IsPath st path → dataset_number_in st.datasets name ≡ Some id → slice_get st.links id ≡ Some None → visit m verify room path (met_of st) name ≡ Err (Cycle name)
met_cycle st linked m verify room path name id is number waits =
    let kind = kind_met st linked name id number in
    visit_cycle m verify room path (met_of st) name kind.0 kind.1 (is name ∙ open_known st name id (Some None) number waits)

-- a dataset that was met whole
met_again : (st : State) → IsLinked st → (m : Files) (verify : Bool) (room : ℕ) (path : List (List ℕ)) (name : List ℕ) (id : ℕ) (l : Link) → IsPath st path → dataset_number_in st.datasets name ≡ Some id → slice_get st.links id ≡ Some (Some l)
    → visit m verify room path (met_of st) name ≡ (again room st.datasets path name >>= λ checked. Ok (met_of st))
met_again st linked m verify room path name id l is number whole =
    let kind = kind_met st linked name id number in
    visit_again m verify room path (met_of st) name kind.0 id kind.1 (is name ∙ open_known st name id (Some (Some l)) number whole) number

pub met_fine : (st : State) → IsLinked st → (m : Files) (verify : Bool) (room : ℕ) (path : List (List ℕ)) (name : List ℕ) (id : ℕ) (l : Link) → IsPath st path → dataset_number_in st.datasets name ≡ Some id → slice_get st.links id ≡ Some (Some l) → l.height ≤ room
    → visit m verify room path (met_of st) name ≡ Ok (met_of st)
met_fine st linked m verify room path name id l is number whole low =
    let f = found st.datasets name id number in
    let fine : again room st.datasets path name ≡ Ok tt = subst (λ n. again room st.datasets path n ≡ Ok tt) f.named (again_fine room st linked path id f.dataset l (record { at = f.at; whole = whole }) (off_path st linked path is l.height) low) in
    met_again st linked m verify room path name id l is number whole ∙ ap (λ r. r >>= λ checked. Ok (met_of st)) fine

pub met_deep : (st : State) → IsLinked st → (m : Files) (verify : Bool) (room : ℕ) (path : List (List ℕ)) (name : List ℕ) (id : ℕ) (l : Link) (deepest : List ℕ) → IsPath st path → dataset_number_in st.datasets name ≡ Some id → slice_get st.links id ≡ Some (Some l) → IsDeep st room id deepest
    → visit m verify room path (met_of st) name ≡ Err (TooDeep deepest)
met_deep st linked m verify room path name id l deepest is number whole deep =
    let f = found st.datasets name id number in
    let ends : again room st.datasets path name ≡ Err (TooDeep deepest) = subst (λ n. again room st.datasets path n ≡ Err (TooDeep deepest)) f.named (deep.deep path f.dataset l (record { at = f.at; whole = whole }) (off_path st linked path is l.height)) in
    met_again st linked m verify room path name id l is number whole ∙ ap (λ r. r >>= λ checked. Ok (met_of st)) ends

pub met_low : (st : State) (name : List ℕ) (id room : ℕ) (l : Link) → dataset_number_in st.datasets name ≡ Some id → slice_get st.links id ≡ Some (Some l) → l.height ≤ room → IsLow st id room
met_low st name id room l number whole low =
    let f = found st.datasets name id number in
    record { dataset = f.dataset; link = l; met = record { at = f.at; whole = whole }; low = low }

pub met_high : (st : State) (name : List ℕ) (id room : ℕ) (l : Link) → dataset_number_in st.datasets name ≡ Some id → slice_get st.links id ≡ Some (Some l) → room < l.height → IsHigh st id room
met_high st name id room l number whole high =
    let f = found st.datasets name id number in
    record { dataset = f.dataset; link = l; met = record { at = f.at; whole = whole }; high = high }

-- whether a dataset that was met has a band
pub band_missing : (cat : List Dataset) (name : List ℕ) (id : ℕ) (d : Dataset) (band : ℕ) → dataset_number_in cat name ≡ Some id → slice_get cat id ≡ Some d → length d.head.bands < band → unless_no_band cat name band ≡ Err (SourceBand name band)
band_missing cat name id d band number at less =
    let test : nat_lt (length d.head.bands) band ≡ true = grind (arith, nat_tests) in
    ap (λ o. cond (nat_lt (bands_of o) band) (Err (SourceBand name band)) (Ok tt)) (named_at cat name id d number at) ∙ ap (λ b. cond b (Err (SourceBand name band)) (Ok tt)) test

pub band_there : (cat : List Dataset) (name : List ℕ) (id : ℕ) (d : Dataset) (band : ℕ) → dataset_number_in cat name ≡ Some id → slice_get cat id ≡ Some d → band ≤ length d.head.bands → unless_no_band cat name band ≡ Ok tt
band_there cat name id d band number at enough =
    let test : nat_lt (length d.head.bands) band ≡ false = grind (arith, nat_tests) in
    ap (λ o. cond (nat_lt (bands_of o) band) (Err (SourceBand name band)) (Ok tt)) (named_at cat name id d number at) ∙ ap (λ b. cond b (Err (SourceBand name band)) (Ok tt)) test
