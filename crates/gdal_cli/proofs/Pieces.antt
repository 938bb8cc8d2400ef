-- How an input is answered that is taken in pieces.
use Rattle.std.proofs.Common.{◌≡◌, ◌∙◌, ap, sym, subst, refl, inr, ℕ, ℤ, ◌<◌, ◌≤◌, arith, List, [], ◌∷◌, ◌++◌, length, take, drop, append_assoc, Result, Ok, Err, Option, Some, None}
use Rattle.std.specs.Prelude.{OnOk}
use Rattle.std.specs.Str.Lines.{lines}
use Rattle.std.proofs.lemmas.List.{append-nil, take-append-drop, length-take-le}
use Rattle.outside.specs.Streams.{Gets}
use Rattle.outside.specs.Streams as streams
use Rattle.outside.specs.Causes.{Rose}
use Rattle.input_points.specs.declared.entry.Entry.{Entry}
use Rattle.input_points.specs.Lines.{ended_lines}
use Rattle.input_points.specs.Entries.{entries, ended_entries}
use Rattle.input_points.specs.Reading.{Reading, start, coming}
use Rattle.error_lines.specs.declared.faults.Fault.{Fault}
use Rattle.error_lines.specs.declared.faults.Fault.TheVariants.{FolderFault, InputFault, OutFault}
use Rattle.error_lines.specs.Faults.{IsOutside, HasCauses}
use Rattle.gdal_cli.specs.Location.{answers, line_text, line_fault}
use Rattle.gdal_cli.specs.Jobs.{lines_text, PutsText}
use Rattle.gdal_cli.specs.Input.{IsReading, Answered, EndsLines, AnswersPieces, AnswersInput, HoldsOfGiven}
use Rattle.gdal_cli.specs.Run.{StopsBehind}
use Rattle.gdal_cli.proofs.Ended.{nothing_put}
use Rattle.gdal_cli.proofs.Lines.{answered_none, answered_more, ends_of, failed_behind, stopped, whole_input, last_input, line_stops, ends_behind, gone_on, stopped_by}

not_refused : (done : Unit {0}) (g : Fault) → gone_on done ≡ Err g → ⊥
not_refused done g is = cc

-- what is to come at the start are all lines
from_start : (text : List ℕ) → coming lines start text ≡ entries text
unfolding coming entries
from_start text = refl

ended_from_start : (text : List ℕ) → coming ended_lines start text ≡ ended_entries text
unfolding coming ended_entries
ended_from_start text = refl

-- a reading at its start
pub start_reads : (r : Reading) → r ≡ start → IsReading r
start_reads r is = subst IsReading (sym is) (record { going = refl; most = omega arith; few = omega arith })

none_at_start : coming ended_lines start [] ≡ []
unfolding coming
none_at_start = refl

pub start_none : (r : Reading) → r ≡ start → coming ended_lines r [] ≡ []
start_none r is = ap (λ (s : Reading). coming ended_lines s []) is ∙ none_at_start

-- a piece that has bytes
pub taken_some : (n : ℕ) (bytes : List ℕ) → n ≤ length bytes → (n ≡ 0 → ⊥) → 0 < length (take n bytes)
taken_some n bytes within some = omega (arith, length-take-le n bytes within, some)

-- what is left at the end
pub left_none : (n : ℕ) (rest : List ℕ) (now : Option (List ℕ)) → n ≡ 0 → rest ≡ [] → now ≡ Some (drop n rest) → now ≡ Some []
left_none n rest now none at_end is = is ∙ ap (λ (k : ℕ). Some (drop k rest)) none ∙ ap (λ (s : List ℕ). Some s) at_end

-- what holds of every answer
pub always_ok : (r : Result (Unit {0}) Fault) (P : Type 0) → P → OnOk r P
always_ok (Ok done) P p = p
always_ok (Err f) P p = tt

-- what follows from what holds of a value
pub then_ok : (r : Result (Unit {0}) Fault) (P Q : Type 0) → OnOk r P → (P → Q) → OnOk r Q
then_ok (Ok done) P Q held then = then held
then_ok (Err f) P Q held then = tt

input_no_folder : stopped_by InputFault ≡ Err FolderFault → ⊥
input_no_folder is = cc

input_no_out : stopped_by InputFault ≡ Err OutFault → ⊥
input_no_out is = cc

-- a count that rose later rose since an earlier moment
rose_later : (a b c : ℕ) → a ≤ b → Rose b c → Rose a c
rose_later a b c later rose = omega (arith, later, rose)

-- counts that had risen before have risen since an earlier moment
pub causes_later : (a b c p q r : ℕ) (result : Result (Unit {0}) Fault) → a ≤ b → p ≤ q → HasCauses b c q r result → HasCauses a c p r result
causes_later a b c p q r result folder out h = record {
  folder_later = omega (arith, folder, h.folder_later);
  out_later = omega (arith, out, h.out_later);
  folder_failed = λ is. rose_later a b c folder (h.folder_failed is);
  out_failed = λ is. rose_later p q r out (h.out_failed is);
}

pub stopped_causes : (a b p q : ℕ) → a ≤ b → p ≤ q → HasCauses {T = Unit {0}} a b p q (Err InputFault)
stopped_causes a b p q folder out = record { folder_later = folder; out_later = out; folder_failed = λ is. absurd (input_no_folder is); out_failed = λ is. absurd (input_no_out is) }

module _ (tell : ℤ → ℤ → List ℕ) where
  abbrev pub TakenSo : Reading → Option (List ℕ) → Option (List ℕ) → List ℕ → Option (List ℕ) → Type 0
  TakenSo r before mid input left = HoldsOfGiven (λ given. Answered tell start given r [] before mid) input left

  -- the outside failed before anything was taken
  pub fails_first : (input : List ℕ) (left : Option (List ℕ)) (r : Result (Unit {0}) Fault) (f : Fault) (old : Option (List ℕ)) → r ≡ Err f → IsOutside f → AnswersInput tell input left r old old
  fails_first input left r f old is out = subst (λ (e : Result (Unit {0}) Fault). AnswersInput tell input left e old old) (sym is) (inr (out, nothing_put (lines_text tell (entries input)) old))

  -- nothing was taken
  pub nothing_taken : (r : Reading) (input : List ℕ) (left old : Option (List ℕ)) → r ≡ start → left ≡ Some input → TakenSo r old old input left
  nothing_taken r input left old is left_is = record {
    given = [];
    rest = input;
    parts = refl;
    left_is = left_is;
    holds = subst (λ (s : Reading). Answered tell start [] s [] old old) (sym is) (answered_none tell start [] old);
  }

  -- a piece was taken, and the lines that ended in it were answered
  pub taken_more : (r new : Reading) (input bytes piece : List ℕ) (n : ℕ) (left now before mid after : Option (List ℕ)) → TakenSo r before mid input left → ((b : List ℕ) → left ≡ Some b → streams.TakenFrom b bytes now n) → piece ≡ take n bytes → Answered tell r piece new [] mid after → TakenSo new before after input now
  taken_more r new input bytes piece n left now before mid after t took is answered =
      let got = took t.rest t.left_is in
      let same : piece ≡ take n t.rest = is ∙ got.bytes in
      let parts : t.rest ≡ piece ++ drop n t.rest = sym (take-append-drop n t.rest) ∙ ap (λ (p : List ℕ). p ++ drop n t.rest) (sym same) in
      record {
        given = t.given ++ piece;
        rest = drop n t.rest;
        parts = t.parts ∙ ap (λ (s : List ℕ). t.given ++ s) parts ∙ sym (append_assoc t.given piece (drop n t.rest));
        left_is = got.rest;
        holds = answered_more tell start r new t.given piece before mid after t.holds answered;
      }

  -- the lines end in a piece
  pub piece_stops : (r : Reading) (input bytes piece : List ℕ) (n : ℕ) (f : Fault) (left now before mid after : Option (List ℕ)) → TakenSo r before mid input left → ((b : List ℕ) → left ≡ Some b → streams.TakenFrom b bytes now n) → piece ≡ take n bytes → ((more : List ℕ) → EndsLines tell (coming lines r (piece ++ more)) f mid after) → EndsLines tell (entries input) f before after
  piece_stops r input bytes piece n f left now before mid after t took is h =
      let got = took t.rest t.left_is in
      let same : piece ≡ take n t.rest = is ∙ got.bytes in
      let parts : piece ++ drop n t.rest ≡ t.rest = ap (λ (p : List ℕ). p ++ drop n t.rest) same ∙ take-append-drop n t.rest in
      subst (λ (i : List ℕ). EndsLines tell (entries i) f before after) (sym t.parts)
      (ends_of tell r t.given t.rest f before mid after t.holds from_start (subst (λ (s : List ℕ). EndsLines tell (coming lines r s) f mid after) parts (h (drop n t.rest))))

  -- the input failed
  pub input_stops : (r : Reading) (input : List ℕ) (left now before after : Option (List ℕ)) → TakenSo r before after input left → ((b : List ℕ) → left ≡ Some b → now ≡ Some b) → coming ended_lines r [] ≡ [] → StopsBehind (answers tell None) input now before after
  input_stops r input left now before after t kept none = stopped tell r input t.given t.rest now before after t.holds t.parts (kept t.rest t.left_is) none ended_from_start

  pub input_failed : (r : Reading) (input : List ℕ) (f : Fault) (left before after : Option (List ℕ)) → TakenSo r before after input left → IsOutside f → EndsLines tell (entries input) f before after
  input_failed r input f left before after t out =
      subst (λ (es : List Entry). EndsLines tell es f before after) (sym (t.holds.passed.all t.rest) ∙ from_start (t.given ++ t.rest) ∙ ap entries (sym t.parts))
      (failed_behind tell t.holds.given (coming lines r t.rest) f before after out t.holds.put)

  all_given : (input given rest : List ℕ) → input ≡ given ++ rest → rest ≡ [] → given ≡ input
  all_given input given rest parts none = sym (parts ∙ ap (λ (s : List ℕ). given ++ s) none ∙ append-nil given)

  -- the input was taken to its end
  pub pieces_end : (r : Reading) (input bytes : List ℕ) (n : ℕ) (left now before after : Option (List ℕ)) → TakenSo r before after input left → ((b : List ℕ) → left ≡ Some b → streams.TakenFrom b bytes now n) → n ≡ 0 → AnswersPieces tell input now r (Ok tt) before after
  pieces_end r input bytes n left now before after t took none =
      let got = took t.rest t.left_is in
      let at_end : t.rest ≡ [] = got.at_end none in
      (subst (λ (i : List ℕ). Answered tell start i r [] before after) (all_given input t.given t.rest t.parts at_end) t.holds, left_none n t.rest now none at_end got.rest)

  -- no line is left then
  pub input_ends : (r : Reading) (input : List ℕ) (left before after : Option (List ℕ)) → Answered tell start input r [] before after × (left ≡ Some []) → coming lines r [] ≡ [] → AnswersInput tell input left (Ok tt) before after
  input_ends r input left before after taken none = whole_input tell r input left before after taken.0 from_start none taken.1

  -- or a last line without an end is answered, or ends the lines
  pub last_ends : (r : Reading) (input : List ℕ) (e : Entry) (result : Result (Unit {0}) Fault) (left before mid after : Option (List ℕ)) → Answered tell start input r [] before mid × (left ≡ Some []) → coming lines r [] ≡ e ∷ [] → (line_fault e.line e.kind ≡ None → PutsText (line_text tell e.kind) result mid after) → ((g : Fault) → line_fault e.line e.kind ≡ Some g → (result ≡ Err g) × (after ≡ mid)) → AnswersInput tell input left result before after
  last_ends r input e (Ok done) left before mid after taken one told refused = last_input tell r input e left before mid after taken.0 from_start one taken.1 good (told good)
    where
      by : (o : Option Fault) → line_fault e.line e.kind ≡ o → line_fault e.line e.kind ≡ None
      by None is = is
      by (Some g) is = let h = refused g is in absurd (not_refused done g h.0)

      good : line_fault e.line e.kind ≡ None
      good = by (line_fault e.line e.kind) refl
  last_ends r input e (Err f) left before mid after taken one told refused =
      let t = taken.0 in
      let all_of : entries input ≡ t.given ++ e ∷ [] = sym (from_start input) ∙ ap (coming lines start) (sym (append-nil input)) ∙ t.passed.all [] ∙ ap (λ (es : List Entry). t.given ++ es) one in
      subst (λ (es : List Entry). EndsLines tell es f before after) (sym all_of)
      (ends_behind tell t.given (e ∷ []) f before mid after t.passed.good t.put (line_stops tell e [] f mid after (λ over. refl) told refused))
