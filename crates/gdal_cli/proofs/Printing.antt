-- Runs that print, and do nothing else.
use Rattle.std.proofs.Common.{◌≡◌, refl, ℕ, ℤ, Bool, false, List, [], ◌∷◌, map, Result, Ok, Err, Option, Some, None}
use Rattle.lists_and_answers.specs.Answers.{◌>>=◌}
use Rattle.outside.specs.Outside.{Files}
use Rattle.catalog.specs.declared.faults.WalkFault.{WalkFault}
use Rattle.catalog.specs.Dataset.{DatasetHead}
use Rattle.catalog.specs.Drivers.{Dataset}
use Rattle.catalog.specs.Heads.{dataset_in, head_in}
use Rattle.catalog.specs.Walk.{walked}
use Rattle.info_report.specs.Report.{info_text}
use Rattle.input_points.specs.declared.entry.Entry.{Entry}
use Rattle.location_report.specs.declared.report.Form.{Form}
use Rattle.error_lines.specs.declared.faults.Fault.{Fault}
use Rattle.error_lines.specs.Faults.{by_walk}
use Rattle.gdal_cli.specs.declared.asked.Asked.{Asked}
use Rattle.gdal_cli.specs.Location.{answers, asked_in, line_text, point_text}
use Rattle.error_lines.specs.Steps.{Done, prints}
use Rattle.gdal_cli.specs.Work.{Reports, Tells, info_judged, location_judged, carried_out}

abbrev pub AllPrint : Done → Type 0
AllPrint d = (texts : List (List ℕ)) × (d.steps ≡ prints texts)

-- answers print
pub answers_print : (tell : ℤ → ℤ → List ℕ) (point : Option (ℤ × ℤ)) (lines : List Entry) → AllPrint (answers tell point lines)
answers_print tell (Some p) lines = (tell p.0 p.1 ∷ [], refl)
answers_print tell None lines = (map (λ (e : Entry). line_text tell e.kind) lines, refl)

module _ (m : Files) (lines : List Entry) where
  headed : (r : Result DatasetHead WalkFault) → AllPrint (carried_out (by_walk r >>= (λ head. Ok (Reports head))) m lines)
  headed (Ok head) = (info_text head ∷ [], refl)
  headed (Err f) = ([], refl)

  -- a report prints
  pub info_prints : (verify : Bool) (name : List ℕ) → AllPrint (carried_out (info_judged m verify name) m lines)
  unfolding info_judged
  info_prints verify name = headed (head_in m verify name)

  asked_print : (cat : List Dataset) (d : Dataset) (point : Option (ℤ × ℤ)) (r : Result Asked Fault) → AllPrint (carried_out (r >>= (λ asked. Ok (Tells cat d asked point))) m lines)
  asked_print cat d point (Ok asked) = answers_print (point_text m cat d asked) point lines
  asked_print cat d point (Err f) = ([], refl)

  module _ (point : Option (ℤ × ℤ)) (bands : List ℕ) (form : Form) (geoloc : Bool) where
    read_prints : (cat : List Dataset) (r : Result Dataset WalkFault) → AllPrint (carried_out (by_walk r >>= (λ d. asked_in form bands geoloc d.head >>= (λ asked. Ok (Tells cat d asked point)))) m lines)
    read_prints cat (Ok d) = asked_print cat d point (asked_in form bands geoloc d.head)
    read_prints cat (Err f) = ([], refl)

    walk_prints : (name : List ℕ) (r : Result (List Dataset) WalkFault) → AllPrint (carried_out (by_walk r >>= (λ cat. by_walk (dataset_in m false name) >>= (λ d. asked_in form bands geoloc d.head >>= (λ asked. Ok (Tells cat d asked point))))) m lines)
    walk_prints name (Ok cat) = read_prints cat (dataset_in m false name)
    walk_prints name (Err f) = ([], refl)

    -- so does what is told of a dataset
    pub location_prints : (verify : Bool) (name : List ℕ) → AllPrint (carried_out (location_judged m verify name point bands form geoloc) m lines)
    unfolding location_judged
    location_prints verify name = walk_prints name (walked m verify [] name)
