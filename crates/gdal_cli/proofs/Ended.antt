-- How jobs end.
use Rattle.std.proofs.Common.{◌≡◌, ◌∙◌, ap, subst, sym, ◌⊎◌, inl, inr, ℕ, ℤ, Bool, false, List, [], ◌∷◌, refl, Result, Ok, Err, Option, Some, None}
use Rattle.std.proofs.lemmas.List.{append-nil}
use Rattle.lists_and_answers.specs.Answers.{◌>>=◌}
use Rattle.outside.specs.Outside.{Files}
use Rattle.outside.specs.Streams.{Gets, GetsPart}
use Rattle.outside.proofs.Sinks.{gets-none}
use Rattle.catalog.specs.declared.faults.WalkFault.{WalkFault}
use Rattle.catalog.specs.declared.faults.WalkFault.TheVariants as walk
use Rattle.catalog.specs.Outcomes as outcomes
use Rattle.catalog.specs.Dataset.{DatasetHead}
use Rattle.std.specs.Prelude.{IfErr}
use Rattle.std.specs.Result.{IsErr, IsErrAnd}
use Rattle.catalog.specs.Drivers.{Dataset}
use Rattle.catalog.specs.Heads.{dataset_in, head_in}
use Rattle.catalog.specs.Walk.{walked}
use Rattle.location_report.specs.declared.report.Form.{Form}
use Rattle.input_points.specs.declared.entry.Entry.{Entry}
use Rattle.input_points.specs.Entries.{entries, ended_entries}
use Rattle.info_report.specs.declared.report.ReportFault.{ReportFault}
use Rattle.info_report.specs.declared.report.ReportFault.TheVariants as report
use Rattle.info_report.specs.Report.{info_text}
use Rattle.error_lines.specs.declared.faults.Fault.{Fault}
use Rattle.error_lines.specs.declared.faults.Fault.TheVariants.{OutFault}
use Rattle.error_lines.specs.Faults.{fault_of, report_fault_of, by_walk, IsOutside}
use Rattle.gdal_cli.specs.declared.asked.Asked.{Asked}
use Rattle.gdal_cli.specs.Input.{AnswersInput}
use Rattle.gdal_cli.specs.Run.{StopsBehind}
use Rattle.gdal_cli.specs.Location.{answers, asked_in, line_text, point_text}
use Rattle.gdal_cli.specs.Jobs.{PutsText, Ends}
use Rattle.error_lines.specs.Steps.{Done, all_done, prints, printed}
use Rattle.gdal_cli.specs.Work.{Work, Reports, Tells, info_judged, location_judged, carried_out}
use Rattle.gdal_cli.proofs.Cuts.{printed_one, printed_prints}

-- where nothing was put, a first part of every text was
pub nothing_put : (text : List ℕ) (old : Option (List ℕ)) → GetsPart text old old
nothing_put text old = λ g is. (0, is ∙ ap (λ (t : List ℕ). Some t) (sym (append-nil g)))

-- and every fault came before anything was put
pub unput : {T X : Type 0} (r : Result T Fault) (x : X) → IfErr r (λ f. (f ≡ OutFault → ⊥) → x ≡ x)
unput (Ok done) x = tt
unput (Err f) x = λ other. refl

-- a fault of the outside of a walk is one of the run
pub outside_walk : (f : WalkFault) → outcomes.IsOutside f → IsOutside (fault_of f)
outside_walk (walk.Absent name) h = h
outside_walk (walk.NotRecognized name) h = h
outside_walk (walk.Malformed name bad) h = h
outside_walk (walk.Short name needed has) h = h
outside_walk (walk.Cycle name) h = h
outside_walk (walk.TooDeep name) h = h
outside_walk (walk.Limit what value) h = h
outside_walk (walk.SourceBand name band) h = h
outside_walk walk.FolderFault h = tt
outside_walk walk.Memory h = tt

-- a run that the outside ended before anything was put
ended_before : (f : Fault) (d : Done) (old : Option (List ℕ)) → IsOutside f → Ends d (Err f) old old
ended_before f d old out = inr (out, nothing_put (printed d.steps) old)

pub ends_outside : (d : Done) (r : Result (Unit {0}) Fault) (f : Fault) (old : Option (List ℕ)) → r ≡ Err f → IsOutside f → Ends d r old old
ends_outside d r f old is out = subst (λ (e : Result (Unit {0}) Fault). Ends d e old old) (sym is) (ended_before f d old out)

-- one that was refused, or that the outside ended so
either : (f : Fault) (d : Result Work Fault) (m : Files) (lines : List Entry) (old : Option (List ℕ)) → IsOutside f ⊎ (d ≡ Err f) → Ends (carried_out d m lines) (Err f) old old
either f d m lines old (inl out) = ended_before f (carried_out d m lines) old out
either f d m lines old (inr is) = subst (λ (e : Result Work Fault). Ends (carried_out e m lines) (Err f) old old) (sym is) (inl (refl, gets-none old))

-- what a walk answers ends a run that goes on from it
pub walk_fails : {T : Type 0} (f : WalkFault) (d : Result T WalkFault) (k : T → Result Work Fault) → outcomes.IsOutside f ⊎ (d ≡ Err f) → IsOutside (fault_of f) ⊎ ((by_walk d >>= k) ≡ Err (fault_of f))
walk_fails f d k (inl out) = inl (outside_walk f out)
walk_fails {T} f d k (inr is) = inr (ap (λ (e : Result T WalkFault). by_walk e >>= k) is)

pub choice : {T : Type 0} (f : Fault) (d : Result T Fault) (k : T → Result Work Fault) → IsOutside f ⊎ (d ≡ Err f) → IsOutside f ⊎ ((d >>= k) ≡ Err f)
choice f d k (inl out) = inl out
choice {T} f d k (inr is) = inr (ap (λ (e : Result T Fault). e >>= k) is)

module _ (m : Files) (verify : Bool) (name : List ℕ) (point : Option (ℤ × ℤ)) (bands : List ℕ) (form : Form) (geoloc : Bool) where
  abbrev location : Result Work Fault
  location = location_judged m verify name point bands form geoloc

  -- a location ends with what the walk answers
  pub location_refused : (lines : List Entry) (f : WalkFault) (old : Option (List ℕ)) → outcomes.IsOutside f ⊎ (walked m verify [] name ≡ Err f) → Ends (carried_out location m lines) (Err (fault_of f)) old old
  unfolding location_judged
  location_refused lines f old h = either (fault_of f) _ m lines old (walk_fails f (walked m verify [] name) (λ cat. by_walk (dataset_in m false name) >>= (λ d. asked_in form bands geoloc d.head >>= (λ asked. Ok (Tells cat d asked point)))) h)

  module _ (cat : List Dataset) (d : Dataset) (is : walked m verify [] name ≡ Ok cat) (read : dataset_in m false name ≡ Ok d) where
    abbrev told : Asked → Result Work Fault
    told asked = Ok (Tells cat d asked point)

    walked_to : location ≡ (asked_in form bands geoloc d.head >>= told)
    unfolding location_judged
    walked_to =
        ap (λ (e : Result (List Dataset) WalkFault). by_walk e >>= (λ (c : List Dataset). by_walk (dataset_in m false name) >>= (λ (x : Dataset). asked_in form bands geoloc x.head >>= (λ (asked : Asked). Ok (Tells c x asked point))))) is
        ∙ ap (λ (e : Result Dataset WalkFault). by_walk e >>= (λ (x : Dataset). asked_in form bands geoloc x.head >>= (λ (asked : Asked). Ok (Tells cat x asked point)))) read

    -- with what the dataset lacks
    pub asked_refused : (lines : List Entry) (f : Fault) (old : Option (List ℕ)) → IsOutside f ⊎ (asked_in form bands geoloc d.head ≡ Err f) → Ends (carried_out location m lines) (Err f) old old
    asked_refused lines f old h = subst (λ (e : Result Work Fault). Ends (carried_out e m lines) (Err f) old old) (sym walked_to) (either f _ m lines old (choice f (asked_in form bands geoloc d.head) told h))

    -- or its work is to answer
    pub location_told : (asked : Asked) → asked_in form bands geoloc d.head ≡ Ok asked → location ≡ told asked
    location_told asked choose = walked_to ∙ ap (λ (e : Result Asked Fault). e >>= told) choose

    pub location_put : (lines : List Entry) (asked : Asked) (result : Result (Unit {0}) Fault) (old new : Option (List ℕ)) → asked_in form bands geoloc d.head ≡ Ok asked → Ends (answers (point_text m cat d asked) point lines) result old new → Ends (carried_out location m lines) result old new
    location_put lines asked result old new choose put = subst (λ (e : Result Work Fault). Ends (carried_out e m lines) result old new) (sym (location_told asked choose)) put

text_put : (text : List ℕ) (result : Result (Unit {0}) Fault) (old new : Option (List ℕ)) → PutsText text result old new → Ends (all_done (prints (text ∷ []))) result old new
text_put text (Ok done) old new h = (refl, subst (λ (t : List ℕ). Gets t old new) (sym (printed_one text)) h)
text_put text (Err f) old new h = inr (h.0, subst (λ (t : List ℕ). GetsPart t old new) (sym (printed_one text)) h.1)

-- a report ends with what the walk answers
pub info_refused : (m : Files) (name : List ℕ) (verify : Bool) (lines : List Entry) (f : WalkFault) (old : Option (List ℕ)) → outcomes.IsOutside f ⊎ (head_in m verify name ≡ Err f) → Ends (carried_out (info_judged m verify name) m lines) (Err (fault_of f)) old old
unfolding info_judged
info_refused m name verify lines f old h = either (fault_of f) _ m lines old (walk_fails f (head_in m verify name) (λ head. Ok (Reports head)) h)

-- it ends as the putting of its text does
pub info_put : (m : Files) (name : List ℕ) (verify : Bool) (lines : List Entry) (head : DatasetHead) (result : Result (Unit {0}) Fault) (old new : Option (List ℕ)) → head_in m verify name ≡ Ok head → PutsText (info_text head) result old new → Ends (carried_out (info_judged m verify name) m lines) result old new
unfolding info_judged
info_put m name verify lines head result old new is put =
    let all : (by_walk (head_in m verify name) >>= (λ h. Ok (Reports h))) ≡ Ok (Reports head) = ap (λ (e : Result DatasetHead WalkFault). by_walk e >>= (λ h. Ok (Reports h))) is in
    subst (λ (e : Result Work Fault). Ends (carried_out e m lines) result old new) (sym all) (text_put (info_text head) result old new put)

-- what a refused call hands on
pub err_is : {U E : Type 0} (r : Result U E) (f : E) → IsErr r × IsErrAnd r (λ e. e ≡ f) → r ≡ Err f
err_is (Ok x) f h = absurd h.1
err_is (Err e) f h = ap Err h.1

-- a fault of a report is one of the outside
pub outside_report : (f : ReportFault) → IsOutside (report_fault_of f)
outside_report report.OutFault = tt
outside_report report.Memory = tt

-- a fault of the outside before anything was put
pub fails_before : (r : Result (Unit {0}) Fault) (f : Fault) (text : List ℕ) (old : Option (List ℕ)) → r ≡ Err f → IsOutside f → PutsText text r old old
fails_before r f text old is out = subst (λ (e : Result (Unit {0}) Fault). PutsText text e old old) (sym is) (out, nothing_put text old)

-- the same of an equal text
pub equal_put : (text text_now : List ℕ) (result : Result (Unit {0}) Fault) (old new : Option (List ℕ)) → PutsText text_now result old new → text_now ≡ text → Ends (all_done (prints (text ∷ []))) result old new
equal_put text text_now result old new h same = text_put text result old new (subst (λ (t : List ℕ). PutsText t result old new) same h)

-- the lines of an input are answered, up to the first that is refused
pub lines_put : (tell : ℤ → ℤ → List ℕ) (input : List ℕ) (left : Option (List ℕ)) (result : Result (Unit {0}) Fault) (old new : Option (List ℕ)) → AnswersInput tell input left result old new → Ends (answers tell None (entries input)) result old new
lines_put tell input left (Ok done) old new h = (h.0, subst (λ (t : List ℕ). Gets t old new) (sym (printed_prints (λ (e : Entry). line_text tell e.kind) (entries input))) h.1)
lines_put tell input left (Err f) old new (inl h) = inl (h.0, subst (λ (t : List ℕ). Gets t old new) (sym (printed_prints (λ (e : Entry). line_text tell e.kind) (entries input))) h.1)
lines_put tell input left (Err f) old new (inr h) = inr (h.0, subst (λ (t : List ℕ). GetsPart t old new) (sym (printed_prints (λ (e : Entry). line_text tell e.kind) (entries input))) h.1)

-- two ways to say what a run over lines does
pub stops_same : (p q : List Entry → Done) (input : List ℕ) (left old new : Option (List ℕ)) → StopsBehind p input left old new → ((lines : List Entry) → p lines ≡ q lines) → StopsBehind q input left old new
stops_same p q input left old new s same = record {
  given = s.given;
  rest = s.rest;
  parts = s.parts;
  left_is = s.left_is;
  not_refused = ap (λ (r : Done). r.fault) (sym (same (ended_entries s.given))) ∙ s.not_refused;
  answered = subst (λ (r : Done). Gets (printed r.steps) old new) (same (ended_entries s.given)) s.answered;
}
