-- What a dataset lacks of what is asked.
use Rattle.std.proofs.Common.{◌≡◌, ap, subst, ◌⊎◌, inl, inr, ℕ, Bool, true, false, List, length, Result, Ok, Err, Option, Some, None}
use Rattle.std.specs.Prelude.{nat_lt}
use Rattle.std.specs.List.{find}
use Rattle.lists_and_answers.specs.Answers.{◌>>=◌}
use Rattle.geotransform.specs.Geo.{Transform}
use Rattle.geotransform.specs.declared.faults.PlanFault.{PlanFault}
use Rattle.geotransform.specs.declared.faults.PlanFault.TheVariants.{NoBand, NoGeo}
use Rattle.catalog.specs.Dataset.{DatasetHead}
use Rattle.location_report.specs.declared.report.Form.{Form}
use Rattle.gdal_cli.specs.declared.asked.Asked.{Asked}
use Rattle.error_lines.specs.declared.faults.Fault.{Fault}
use Rattle.error_lines.specs.declared.faults.Fault.TheVariants.{Plan, Changed}
use Rattle.error_lines.specs.Faults.{IsOutside}
use Rattle.gdal_cli.specs.Location.{asked_in, chosen_in, chosen_of, unless_lacking, frame_in}

abbrev pub IsPlan : Fault → Type 0
IsPlan f = (p : PlanFault) × (f ≡ Plan p)

chosen_plan : (lacking : Option ℕ) (bands : List ℕ) (f : Fault) → unless_lacking lacking bands ≡ Err f → IsPlan f
chosen_plan None bands f is = let no : ⊥ = cc in absurd no
chosen_plan (Some band) bands f is = let same : f ≡ Plan (NoBand band) = cc in (NoBand band, same)

frame_plan : (geoloc : Bool) (geo : Option Transform) (f : Fault) → frame_in geoloc geo ≡ Err f → IsPlan f
frame_plan false geo f is = let no : ⊥ = cc in absurd no
frame_plan true None f is = let same : f ≡ Plan NoGeo = cc in (NoGeo, same)
frame_plan true (Some geo) f is = let no : ⊥ = cc in absurd no

one_refused : {A B : Type 0} (d : Result A Fault) (k : A → Result B Fault) (f : Fault) → (d >>= k) ≡ Err f → (d ≡ Err f) ⊎ ((a : A) × (k a ≡ Err f))
one_refused (Ok a) k f is = inr (a, is)
one_refused (Err e) k f is = let same : e ≡ f = cc in inl (ap Err same)

abbrev asked_with : Form → List ℕ → Option Transform → Result Asked Fault
asked_with form bands frame = Ok (record { form = form; bands = bands; frame = frame })

with_frame : (form : Form) (bands : List ℕ) (geoloc : Bool) (geo : Option Transform) (f : Fault) → (frame_in geoloc geo ≡ Err f) ⊎ ((frame : Option Transform) × (asked_with form bands frame ≡ Err f)) → IsPlan f
with_frame form bands geoloc geo f (inl is) = frame_plan geoloc geo f is
with_frame form bands geoloc geo f (inr told) = let is = told.1 in let no : ⊥ = cc in absurd no

with_bands : (form : Form) (bands : List ℕ) (geoloc : Bool) (head : DatasetHead) (f : Fault) → (chosen_in (length head.bands) bands ≡ Err f) ⊎ ((chosen : List ℕ) × ((frame_in geoloc head.geo >>= asked_with form chosen) ≡ Err f)) → IsPlan f
with_bands form bands geoloc head f (inl is) = chosen_plan (find (λ (band : ℕ). nat_lt (length head.bands) band) bands) (chosen_of (length head.bands) bands) f is
with_bands form bands geoloc head f (inr told) = with_frame form told.0 geoloc head.geo f (one_refused (frame_in geoloc head.geo) (asked_with form told.0) f told.1)

-- what is asked is refused for what the dataset lacks alone
pub asked_plan : (form : Form) (bands : List ℕ) (geoloc : Bool) (head : DatasetHead) (f : Fault) → asked_in form bands geoloc head ≡ Err f → IsPlan f
unfolding asked_in
asked_plan form bands geoloc head f is = with_bands form bands geoloc head f (one_refused (chosen_in (length head.bands) bands) (λ (chosen : List ℕ). frame_in geoloc head.geo >>= asked_with form chosen) f is)

plan_unchanged : (f : Fault) (p : PlanFault) (name : List ℕ) (was : ℕ) (now : Option ℕ) → f ≡ Plan p → f ≡ Changed name was now → ⊥
plan_unchanged f p name was now is other = cc

-- and never for a length that changed
pub asked_unchanged : (form : Form) (bands : List ℕ) (geoloc : Bool) (head : DatasetHead) (f : Fault) → IsOutside f ⊎ (asked_in form bands geoloc head ≡ Err f) → (name : List ℕ) (was : ℕ) (now : Option ℕ) → f ≡ Changed name was now → ⊥
asked_unchanged form bands geoloc head f (inl out) name was now is = subst IsOutside is out
asked_unchanged form bands geoloc head f (inr refused) name was now is = let p = asked_plan form bands geoloc head f refused in plan_unchanged f p.0 name was now p.1 is

-- one call is refused in one way
pub one_fault : (r : Result (Unit {0}) Fault) (f e : Fault) → r ≡ Err f → r ≡ Err e → f ≡ e
one_fault r f e is other = cc
