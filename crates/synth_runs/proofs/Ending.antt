-- How the parts of the run end.
use Rattle.std.proofs.Common.{◌≡◌, sym, subst, refl, inl, inr, arith, ℕ, List, [], ◌∷◌, Contains, Result, Ok, Err, Option, Some, None}
use Rattle.std.specs.Prelude.{IfErr, flat_map}
use Rattle.std.specs.List.{range_with_len}
use Rattle.std.proofs.lemmas.List.Elements.{Contains-get_or, Contains-append_right}
use Rattle.outside.specs.Outside.{Files}
use Rattle.error_lines.specs.declared.faults.Fault.{Fault}
use Rattle.error_lines.specs.declared.faults.Fault.TheVariants.{Usage, Absent, NotRecognized, Malformed, Short, Cycle, TooDeep, Limit, SourceBand, Plan, Build, SameName, BadPoint, Changed, FolderFault, InputFault, OutFault, Memory}
use Rattle.error_lines.specs.Faults.{HasChanged, IsOfReading, IsOutside}
use Rattle.error_lines.specs.Steps.{Done, applied, published, Goes}
use Rattle.mosaic_builds.specs.Ends.{IsOfMaking}
use Rattle.output_copies.specs.Copying as copying
use Rattle.published_files.specs.Documents.{IsOfFolder}
use Rattle.synthetic_rasters.specs.Names.{tile_name, inner_name, outer_name, output_name}
use Rattle.translation_runs.specs.Ends as translation
use Rattle.translation_runs.specs.Ends.{ended}
use Rattle.translation_runs.proofs.Ended.{has_changed, no_change}
use Rattle.synth_runs.specs.Ends.{raster_names, names_made, MayEnd}
use Rattle.synth_runs.specs.Runs.{output_options}

-- the names that are published behind those of the tiles
behind_tiles : (n : List ℕ) → Contains (inner_name ∷ outer_name ∷ raster_names output_name) n → Contains names_made n
behind_tiles n h = Contains-append_right (flat_map (λ t. raster_names (tile_name t)) (range_with_len 0 4)) (inner_name ∷ outer_name ∷ raster_names output_name) n h

pub inner_made : Contains names_made inner_name
inner_made = behind_tiles inner_name (Contains-get_or (inner_name ∷ outer_name ∷ raster_names output_name) 0 inner_name (omega arith))

pub copy_made : (n : List ℕ) → Contains (raster_names output_name) n → Contains names_made n
copy_made n h = behind_tiles n (Contains-append_right (inner_name ∷ outer_name ∷ []) (raster_names output_name) n h)

pub output_made : Contains names_made output_name
output_made = copy_made output_name (Contains-get_or (raster_names output_name) 0 output_name (omega arith))

-- the faults of a walk and of the making of a mosaic
pub making_may : (name : List ℕ) → Contains names_made name → (f : Fault) → IsOfMaking name f → MayEnd f
making_may name made (Usage n) h = h
making_may name made (Absent n) h = tt
making_may name made (NotRecognized n) h = h
making_may name made (Malformed n b) h = h
making_may name made (Short n needed has) h = tt
making_may name made (Cycle n) h = tt
making_may name made (TooDeep n) h = tt
making_may name made (Limit what value) h = tt
making_may name made (SourceBand n band) h = tt
making_may name made (Plan fault) h = tt
making_may name made (Build fault) h = h
making_may name made (SameName n) h = subst (Contains names_made) (sym h) made
making_may name made (BadPoint line) h = h
making_may name made (Changed n was now) h = tt
making_may name made FolderFault h = tt
making_may name made InputFault h = h
making_may name made OutFault h = tt
making_may name made Memory h = tt

-- those of the publishing of files
pub folder_may : (f : Fault) → IsOfFolder f → MayEnd f
folder_may f (inl is) = subst MayEnd (sym is) tt
folder_may f (inr is) = subst MayEnd (sym is) tt

pub folder_making : (name : List ℕ) (f : Fault) → IsOfFolder f → IsOfMaking name f
folder_making name f (inl is) = subst (IsOfMaking name) (sym is) tt
folder_making name f (inr is) = subst (IsOfMaking name) (sym is) tt

-- those of a translation
pub translation_may : (f : Fault) → translation.MayEnd output_options f → MayEnd f
translation_may (Usage n) h = h
translation_may (Absent n) h = tt
translation_may (NotRecognized n) h = h
translation_may (Malformed n b) h = h
translation_may (Short n needed has) h = tt
translation_may (Cycle n) h = tt
translation_may (TooDeep n) h = tt
translation_may (Limit what value) h = tt
translation_may (SourceBand n band) h = tt
translation_may (Plan fault) h = tt
translation_may (Build fault) h = absurd h
translation_may (SameName n) h = copy_made n h
translation_may (BadPoint line) h = h
translation_may (Changed n was now) h = tt
translation_may FolderFault h = tt
translation_may InputFault h = h
translation_may OutFault h = tt
translation_may Memory h = tt

-- those of reading and putting
pub reading_may : (f : Fault) → IsOfReading f → MayEnd f
reading_may (Usage n) h = h
reading_may (Absent n) h = tt
reading_may (NotRecognized n) h = absurd h
reading_may (Malformed n b) h = absurd h
reading_may (Short n needed has) h = tt
reading_may (Cycle n) h = tt
reading_may (TooDeep n) h = tt
reading_may (Limit what value) h = tt
reading_may (SourceBand n band) h = tt
reading_may (Plan fault) h = tt
reading_may (Build fault) h = absurd h
reading_may (SameName n) h = absurd h
reading_may (BadPoint line) h = h
reading_may (Changed n was now) h = tt
reading_may FolderFault h = tt
reading_may InputFault h = h
reading_may OutFault h = tt
reading_may Memory h = tt

-- what holds of each such fault
pub where_failed : {T : Type 0} (P Q : Fault → Type 0) (r : Result T Fault) → ((f : Fault) → P f → Q f) → IfErr r P → IfErr r Q
where_failed P Q (Ok x) more h = tt
where_failed P Q (Err f) more h = more f h

-- files whose lengths changed
pub unchanged : (names : Option Files) (P : Fault → Type 0) (r : Result (Unit {0}) Fault) → ((name : List ℕ) (was : ℕ) (now : Option ℕ) → P (Changed name was now) → ⊥) → IfErr r P → HasChanged names (ended r)
unchanged names P r never h = no_change names r (λ name was now is. never name was now (subst (λ (e : Result (Unit {0}) Fault). IfErr e P) is h))

pub making_unchanged : (name : List ℕ) (names : Option Files) (r : Result (Unit {0}) Fault) → IfErr r (IsOfMaking name) → HasChanged names (ended r)
making_unchanged name names r h = unchanged names (IsOfMaking name) r (λ n was now bad. bad) h

folder_never : (name : List ℕ) (was : ℕ) (now : Option ℕ) → IsOfFolder (Changed name was now) → ⊥
folder_never name was now (inl is) = cc
folder_never name was now (inr is) = cc

pub folder_unchanged : (names : Option Files) (r : Result (Unit {0}) Fault) → IfErr r IsOfFolder → HasChanged names (ended r)
folder_unchanged names r h = unchanged names IsOfFolder r folder_never h

pub ends_changed : (names : Option Files) (f g o p : ℕ) (r : Result (Unit {0}) Fault) → copying.MayEnd names f g o p r → HasChanged names (ended r)
ends_changed names f g o p r ends = has_changed names r ends.differs (λ m told name was now is. subst (λ (e : Result (Unit {0}) Fault). IfErr e IsOutside) is (ends.never m told))

-- behind a run that went to its end over a folder that tells its files, the folder tells them
pub told_after : (r : Done) (m : Files) (names : Option Files) (before after : Option (List ℕ)) → Goes r m (Ok tt) names before after → (k : Files) × (names ≡ Some k)
told_after r m names before after h = (applied (published r.steps) m, h.1.published)

pub changed_then : (names mid : Option Files) (fault : Option Fault) → ((m : Files) → names ≡ Some m → (k : Files) × (mid ≡ Some k)) → HasChanged mid fault → HasChanged names fault
changed_then None mid fault tells h = record { untold = λ name was now is. refl; differs = h.differs }
changed_then (Some m) mid fault tells h = record {
  untold = λ name was now is.
      let none : mid ≡ None = h.untold name was now is in
      let some = tells m refl in
      let told : mid ≡ Some some.0 = some.1 in
      let no : ⊥ = cc in
      absurd no;
  differs = h.differs;
}
