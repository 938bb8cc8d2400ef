-- How far a translation goes.
use Rattle.std.proofs.Common.{◌≡◌, refl, subst, Bool, ℕ, List, ◌++◌, append_assoc, Result, Ok, Err, Option, Some}
use Rattle.std.specs.Prelude.{IfErr, OnErr, OnOk}
use Rattle.outside.specs.Outside.{Files}
use Rattle.outside.specs.Streams.{Gets, GetsPart}
use Rattle.catalog.specs.Drivers.{Dataset}
use Rattle.translate_plan.specs.Plan.{Planned}
use Rattle.error_lines.specs.declared.faults.Fault.{Fault}
use Rattle.error_lines.specs.Faults.{IsOutside}
use Rattle.error_lines.specs.Progress.{progress, progress_end}
use Rattle.error_lines.specs.Steps.{Step, all_done, applied, published, publishes, Goes}
use Rattle.output_copies.specs.Copying.{spoken}
use Rattle.output_copies.specs.Steps.{size_line, translation_steps, unless_quiet, written_files}
use Rattle.output_copies.proofs.Goes.{goes_stop, goes_then, spoken_done, spoken_stops}

module _ (quiet : Bool) (m : Files) (d : Dataset) (p : Planned) (name : List ℕ) where
  -- the steps between the first text and the last
  abbrev pub middle : List Step
  middle = unless_quiet quiet progress ++ publishes (written_files m d p name)

  -- the output failed in the first text
  pub size_stops : (f : Fault) (names : Option Files) (before after : Option (List ℕ)) → names ≡ Some m → IsOutside f → GetsPart (spoken quiet (size_line d.head.size)) before after → Goes (all_done (translation_steps quiet m d p name)) m (Err f) names before after
  unfolding translation_steps
  size_stops f names before after is out part =
      goes_stop (unless_quiet quiet (size_line d.head.size)) (unless_quiet quiet progress ++ (publishes (written_files m d p name) ++ unless_quiet quiet progress_end)) m f names before after
      (spoken_stops quiet (size_line d.head.size) f m names before after is out part)

  -- the outside failed behind it, before the last text
  pub files_stop : (f : Fault) (names : Option Files) (before mid after : Option (List ℕ)) → Gets (spoken quiet (size_line d.head.size)) before mid → Goes (all_done middle) m (Err f) names mid after → Goes (all_done (translation_steps quiet m d p name)) m (Err f) names before after
  unfolding translation_steps
  files_stop f names before mid after first goes =
      goes_then (unless_quiet quiet (size_line d.head.size)) (unless_quiet quiet progress ++ (publishes (written_files m d p name) ++ unless_quiet quiet progress_end)) m m (Err f) names before mid after
      (spoken_done quiet (size_line d.head.size) m (Some m) before mid refl first)
      (subst (λ (s : List Step). Goes (all_done s) m (Err f) names mid after) (append_assoc (unless_quiet quiet progress) (publishes (written_files m d p name)) (unless_quiet quiet progress_end))
      (goes_stop middle (unless_quiet quiet progress_end) m f names mid after goes))

  -- all but the last text was done
  pub end_goes : (r : Result (Unit {0}) Fault) (names : Option Files) (before mid late after : Option (List ℕ)) → Gets (spoken quiet (size_line d.head.size)) before mid → Goes (all_done middle) m (Ok tt) names mid late
      → OnOk r (Gets (spoken quiet progress_end) late after) → OnErr r (GetsPart (spoken quiet progress_end) late after) → IfErr r IsOutside → Goes (all_done (translation_steps quiet m d p name)) m r names before after
  unfolding translation_steps
  end_goes r names before mid late after first goes whole part out =
      goes_then (unless_quiet quiet (size_line d.head.size)) (unless_quiet quiet progress ++ (publishes (written_files m d p name) ++ unless_quiet quiet progress_end)) m m r names before mid after
      (spoken_done quiet (size_line d.head.size) m (Some m) before mid refl first)
      (subst (λ (s : List Step). Goes (all_done s) m r names mid after) (append_assoc (unless_quiet quiet progress) (publishes (written_files m d p name)) (unless_quiet quiet progress_end))
      (goes_then middle (unless_quiet quiet progress_end) m (applied (published middle) m) r names mid late after
      (record { printed = goes.1.printed; published = refl })
      (last r whole part out)))
    where
      last : (e : Result (Unit {0}) Fault) → OnOk e (Gets (spoken quiet progress_end) late after) → OnErr e (GetsPart (spoken quiet progress_end) late after) → IfErr e IsOutside → Goes (all_done (unless_quiet quiet progress_end)) (applied (published middle) m) e names late after
      last (Ok done) whole part out = (refl, spoken_done quiet progress_end (applied (published middle) m) names late after goes.1.published whole)
      last (Err f) whole part out = spoken_stops quiet progress_end f (applied (published middle) m) names late after goes.1.published out part
