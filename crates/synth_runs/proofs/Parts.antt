-- How far the parts of the run go.
use Rattle.std.proofs.Common.{◌≡◌, ◌⊎◌, sym, subst, refl, inl, inr, ℕ, false, List, [], ◌∷◌, Result, Ok, Err, Option, Some, None}
use Rattle.std.specs.Prelude.{OnOk}
use Rattle.geotransform.specs.declared.types.Size.{Size}
use Rattle.outside.specs.Names.{extension_of, ending_of, last_part, extension_of_ending}
use Rattle.outside.specs.Outside.{Files}
use Rattle.outside.specs.Streams.{Gets, GetsPart}
use Rattle.outside.proofs.Sinks.{gets-none}
use Rattle.vrt_writing.specs.Spelled.{spelled}
use Rattle.catalog.specs.Drivers.{Dataset}
use Rattle.error_lines.specs.declared.faults.Fault.{Fault}
use Rattle.error_lines.specs.Faults.{IsOutside}
use Rattle.error_lines.specs.Steps.{Publishes, Done, all_done, refused, prints, Goes}
use Rattle.mosaic_builds.specs.Built.{Built, built_in}
use Rattle.output_copies.proofs.Goes as steps
use Rattle.synthetic_rasters.specs.Names.{tile_names, inner_name}
use Rattle.synthetic_rasters.specs.Tally.{Totals, tally_text}
use Rattle.translation_runs.specs.Published.{IsNamed}
use Rattle.synth_runs.specs.Ends.{PutsLines}
use Rattle.synth_runs.specs.Runs.{inner_options, inner_done, inner_run, output_options, copied, tally_done, tally_run}

-- the outside failed before the first step
pub goes_nowhere : (r : Done) (m : Files) (f : Fault) (names : Option Files) (old : Option (List ℕ)) → names ≡ Some m → IsOutside f → Goes r m (Err f) names old old
goes_nowhere r m f names old is out = over (steps.goes_nowhere r.steps m f names old is out)
  where
    over : Goes (all_done r.steps) m (Err f) names old old → Goes r m (Err f) names old old
    over (inl failed) = absurd cc
    over (inr at) = inr at

pub none_goes : (r : Done) (m : Files) (e : Result (Unit {0}) Fault) (f : Fault) (names : Option Files) (old : Option (List ℕ)) → e ≡ Err f → names ≡ Some m → IsOutside f → Goes r m e names old old
none_goes r m e f names old so is out = subst (λ (x : Result (Unit {0}) Fault). Goes r m x names old old) (sym so) (goes_nowhere r m f names old is out)

-- a run that is refused
refused_goes : (m : Files) (f : Fault) (names : Option Files) (old : Option (List ℕ)) → names ≡ Some m → Goes (refused f) m (Err f) names old old
refused_goes m f names old is = inl (refl, record { printed = gets-none old; published = is })

-- the mosaic of the tiles is refused, or the outside failed before it was made
pub inner_refused : (m : Files) (f : Fault) (names : Option Files) (old : Option (List ℕ)) → names ≡ Some m → IsOutside f ⊎ (built_in m false tile_names None inner_options ≡ Err f) → Goes (inner_run m) m (Err f) names old old
inner_refused m f names old is (inl out) = goes_nowhere (inner_run m) m f names old is out
inner_refused m f names old is (inr refused_so) = subst (λ (d : Result Built Fault). Goes (inner_done d) m (Err f) names old old) (sym refused_so) (refused_goes m f names old is)

-- it is made, and then published
pub inner_made : (m : Files) (built : Built) (r : Result (Unit {0}) Fault) (names : Option Files) (old : Option (List ℕ)) → built_in m false tile_names None inner_options ≡ Ok built → Goes (all_done (Publishes inner_name (spelled built.document) ∷ [])) m r names old old → Goes (inner_run m) m r names old old
inner_made m built r names old is goes = subst (λ (d : Result Built Fault). Goes (inner_done d) m r names old old) (sym is) goes

-- a first part of one text is put
pub text_stops : (text : List ℕ) (m : Files) (f : Fault) (names : Option Files) (before after : Option (List ℕ)) → names ≡ Some m → IsOutside f → GetsPart text before after → Goes (all_done (prints (text ∷ []))) m (Err f) names before after
text_stops text m f names before after is out part = steps.spoken_stops false text f m names before after is out part

-- or all of the lines on some totals
pub lines_put : (r : Result (Unit {0}) Fault) (size : Size) (t : Totals) (text : List ℕ) (before after : Option (List ℕ)) → text ≡ tally_text size t → OnOk r (Gets text before after) → OnOk r (PutsLines before after)
lines_put (Ok done) size t text before after is put = (size, t, subst (λ (l : List ℕ). Gets l before after) is put)
lines_put (Err f) size t text before after is put = tt

-- the copy isn't found, or the outside failed before it was
pub tally_refused : (m : Files) (f : Fault) (names : Option Files) (old : Option (List ℕ)) → names ≡ Some m → IsOutside f ⊎ (copied m ≡ Err f) → Goes (tally_run m) m (Err f) names old old
tally_refused m f names old is (inl out) = goes_nowhere (tally_run m) m f names old is out
tally_refused m f names old is (inr refused_so) = subst (λ (d : Result Dataset Fault). Goes (tally_done m d) m (Err f) names old old) (sym refused_so) (refused_goes m f names old is)

-- it is found, and then told of
pub tally_found : (m : Files) (d : Dataset) (r : Result (Unit {0}) Fault) (names : Option Files) (before after : Option (List ℕ)) → copied m ≡ Ok d → Goes (tally_done m (Ok d)) m r names before after → Goes (tally_run m) m r names before after
tally_found m d r names before after is goes = subst (λ (e : Result Dataset Fault). Goes (tally_done m e) m r names before after) (sym is) goes

-- the output's name is one of its driver
pub output_named : IsNamed output_options
unfolding extension_of ending_of last_part extension_of_ending
output_named = refl
