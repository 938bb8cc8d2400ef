-- How the answers to lines go together.
use Rattle.std.proofs.Common.{◌≡◌, ◌∙◌, ap, sym, subst, refl, inl, inr, ℕ, ℤ, ◌+◌, ◌<◌, ◌≤◌, Bool, true, false, List, [], ◌∷◌, ◌++◌, ◌-◌, take, drop, length, length-append, length-drop, append_assoc, Result, Ok, Err, Option, Some, None, arith}
use Rattle.std.specs.Prelude.{IfSome, if◌then◌else◌}
use Rattle.std.specs.Option.{option_to_list}
use Rattle.std.specs.Str.Lines.{lines}
use Rattle.std.proofs.lemmas.Grind.{flat_map-append}
use Rattle.std.proofs.lemmas.List.{append-nil, take_all, drop-drop}
use Rattle.outside.specs.Streams.{Gets, GetsPart}
use Rattle.outside.proofs.Sinks.{gets-none, gets-then, gets-then-part, gets-whole, part-first}
use Rattle.input_points.specs.declared.entry.Entry.{Entry}
use Rattle.input_points.specs.declared.entry.LineKind.{LineKind}
use Rattle.input_points.specs.declared.entry.LineKind.TheVariants.{Blank, Point, Bad, TooMany}
use Rattle.input_points.specs.Lines.{ended_lines}
use Rattle.input_points.specs.Entries.{ends, entries, ended_entries}
use Rattle.input_points.specs.Reading.{Reading, start, kept, behind, coming}
use Rattle.error_lines.specs.declared.faults.Fault.{Fault}
use Rattle.error_lines.specs.declared.faults.Fault.TheVariants.{Changed}
use Rattle.error_lines.specs.Faults.{IsOutside}
use Rattle.gdal_cli.specs.Location.{answers, line_text, line_fault, first_fault, lines_fault}
use Rattle.gdal_cli.specs.Jobs.{lines_text, PutsText}
use Rattle.gdal_cli.specs.Input.{IsReading, room_of, Answered, EndsLines, AnswersInput}
use Rattle.gdal_cli.specs.Run.{StopsBehind}
use Rattle.gdal_cli.proofs.Cuts.{printed_prints}

abbrev pub stopped_by : Fault → Result (Unit {0}) Fault
stopped_by f = Err f

abbrev pub gone_on : Unit {0} → Result (Unit {0}) Fault
gone_on done = Ok done

-- a fault of the outside is no change
pub not_changed : (f : Fault) (name : List ℕ) (was : ℕ) (now : Option ℕ) → IsOutside f → stopped_by f ≡ Err (Changed name was now) → ⊥
not_changed f name was now out is = let same : f ≡ Changed name was now = cc in subst IsOutside same out

-- a line that doesn't end the reading has no fault, and one that ends it has no answer

pub goes_on : (number : ℕ) (kind : LineKind) → line_fault number kind ≡ None → ends kind ≡ false
goes_on number Blank is = refl
goes_on number (Point x y) is = refl
goes_on number Bad is = cc
goes_on number TooMany is = cc

pub ends_on : (number : ℕ) (kind : LineKind) (f : Fault) → line_fault number kind ≡ Some f → ends kind ≡ true
ends_on number Blank f is = cc
ends_on number (Point x y) f is = cc
ends_on number Bad f is = refl
ends_on number TooMany f is = refl

-- a line behind which the reading goes on
not_stopped : (g : Fault) → gone_on tt ≡ Err g → ⊥
not_stopped g is = cc

pub goes_on_at : (number : ℕ) (kind : LineKind) (after before : Option (List ℕ)) → ((g : Fault) → line_fault number kind ≡ Some g → (gone_on tt ≡ Err g) × (after ≡ before)) → (ends kind ≡ false) × (line_fault number kind ≡ None)
goes_on_at number Blank after before refused = (refl, refl)
goes_on_at number (Point x y) after before refused = (refl, refl)
goes_on_at number Bad after before refused = absurd (not_stopped _ (refused _ refl).0)
goes_on_at number TooMany after before refused = absurd (not_stopped _ (refused _ refl).0)

no_answer : (tell : ℤ → ℤ → List ℕ) (number : ℕ) (kind : LineKind) (f : Fault) → line_fault number kind ≡ Some f → line_text tell kind ≡ []
no_answer tell number Blank f is = cc
no_answer tell number (Point x y) f is = cc
no_answer tell number Bad f is = refl
no_answer tell number TooMany f is = refl

-- the faults of lines behind others
fault_behind : (es fs : List Entry) → lines_fault es ≡ None → lines_fault (es ++ fs) ≡ lines_fault fs
fault_behind [] fs none = refl
fault_behind (e ∷ es) fs none = one (line_fault e.line e.kind) (lines_fault es) (lines_fault (es ++ fs)) (lines_fault fs) none (fault_behind es fs)
  where
    one : (first rest all last : Option Fault) → first_fault first rest ≡ None → (rest ≡ None → all ≡ last) → first_fault first all ≡ last
    one None rest all last none more = more none
    one (Some f) rest all last none more = cc

-- a reading takes more of its line
pub more_kept : (r new : Reading) (bytes : List ℕ) → IsReading r → 0 < length bytes → new ≡ kept r bytes → length new.held ≤ 4097 → IsReading new × (room_of new < room_of r)
more_kept r new bytes is some same few =
    let over : new.over ≡ r.over = ap (λ (x : Reading). x.over) same in
    let line : new.line ≡ r.line = ap (λ (x : Reading). x.line) same in
    let held : length new.held ≡ length r.held + length bytes = ap (λ (x : Reading). length x.held) same ∙ length-append r.held bytes in
    let most = is.most in
    (record { going = over ∙ is.going; most = omega arith; few = few }, omega arith)

-- the reading behind a line with this number, which ends it or not
abbrev behind_by : ℕ → Bool → Reading
behind_by number last = record { line = if last then number else number + 1; held = []; over = last }

-- a reading goes on behind a line
pub line_behind : (r new : Reading) (kind : LineKind) → IsReading r → new ≡ behind r.line kind → ends kind ≡ false → new.line ≤ 16777217 → IsReading new × (room_of new < room_of r)
line_behind r new kind is same goes most =
    let state : new ≡ behind_by r.line false = same ∙ ap (behind_by r.line) goes in
    let over : new.over ≡ false = ap (λ (x : Reading). x.over) state in
    let line : new.line ≡ r.line + 1 = ap (λ (x : Reading). x.line) state in
    let held : length new.held ≡ 0 = ap (λ (x : Reading). length x.held) state in
    let few = is.few in
    (record { going = over; most = most; few = omega arith }, omega arith)

pub start_reads : (r : Reading) → r ≡ start → IsReading r
start_reads r is = subst IsReading (sym is) (record { going = refl; most = omega arith; few = omega arith })

module _ (tell : ℤ → ℤ → List ℕ) where
  text_behind : (es fs : List Entry) → lines_text tell (es ++ fs) ≡ lines_text tell es ++ lines_text tell fs
  text_behind es fs = flat_map-append (λ (e : Entry). line_text tell e.kind) es fs

  one_text : (e : Entry) → lines_text tell (e ∷ []) ≡ line_text tell e.kind
  one_text e = append-nil (line_text tell e.kind)

  -- what ends lines ends them behind others that were answered
  pub ends_behind : (es fs : List Entry) (f : Fault) (before mid after : Option (List ℕ)) → lines_fault es ≡ None → Gets (lines_text tell es) before mid → EndsLines tell fs f mid after → EndsLines tell (es ++ fs) f before after
  ends_behind es fs f before mid after good put (inl (is, got)) = inl (fault_behind es fs good ∙ is, subst (λ (t : List ℕ). Gets t before after) (sym (text_behind es fs)) (gets-then (lines_text tell es) (lines_text tell fs) before mid after put got))
  ends_behind es fs f before mid after good put (inr (out, got)) = inr (out, subst (λ (t : List ℕ). GetsPart t before after) (sym (text_behind es fs)) (gets-then-part (lines_text tell es) (lines_text tell fs) before mid after put got))

  -- nothing was read
  pub answered_none : (r : Reading) (text : List ℕ) (old : Option (List ℕ)) → Answered tell r text r text old old
  answered_none r text old = record { given = []; passed = record { all = λ more. refl; ended = λ more. refl; good = refl }; put = gets-none old }

  -- one step behind another
  pub answered_then : (a b c : Reading) (s t u : List ℕ) (before mid after : Option (List ℕ)) → Answered tell a s b t before mid → Answered tell b t c u mid after → Answered tell a s c u before after
  answered_then a b c s t u before mid after first second = record {
    given = first.given ++ second.given;
    passed = record {
      all = λ more. first.passed.all more ∙ ap (λ (es : List Entry). first.given ++ es) (second.passed.all more) ∙ sym (append_assoc first.given second.given (coming lines c (u ++ more)));
      ended = λ more. first.passed.ended more ∙ ap (λ (es : List Entry). first.given ++ es) (second.passed.ended more) ∙ sym (append_assoc first.given second.given (coming ended_lines c (u ++ more)));
      good = fault_behind first.given second.given first.passed.good ∙ second.passed.good;
    };
    put = subst (λ (t : List ℕ). Gets t before after) (sym (text_behind first.given second.given)) (gets-then (lines_text tell first.given) (lines_text tell second.given) before mid after first.put second.put);
  }

  -- a text behind the one that was read, of which nothing is left
  pub answered_more : (a b c : Reading) (s t : List ℕ) (before mid after : Option (List ℕ)) → Answered tell a s b [] before mid → Answered tell b t c [] mid after → Answered tell a (s ++ t) c [] before after
  answered_more a b c s t before mid after first second = record {
    given = first.given ++ second.given;
    passed = record {
      all = λ more. ap (coming lines a) (append_assoc s t more) ∙ first.passed.all (t ++ more) ∙ ap (λ (es : List Entry). first.given ++ es) (second.passed.all more) ∙ sym (append_assoc first.given second.given (coming lines c more));
      ended = λ more. ap (coming ended_lines a) (append_assoc s t more) ∙ first.passed.ended (t ++ more) ∙ ap (λ (es : List Entry). first.given ++ es) (second.passed.ended more) ∙ sym (append_assoc first.given second.given (coming ended_lines c more));
      good = fault_behind first.given second.given first.passed.good ∙ second.passed.good;
    };
    put = subst (λ (x : List ℕ). Gets x before after) (sym (text_behind first.given second.given)) (gets-then (lines_text tell first.given) (lines_text tell second.given) before mid after first.put second.put);
  }

  -- no line ended
  pub no_line : (a b : Reading) (s t : List ℕ) (old : Option (List ℕ)) → ((more : List ℕ) → coming lines a (s ++ more) ≡ coming lines b (t ++ more)) → ((more : List ℕ) → coming ended_lines a (s ++ more) ≡ coming ended_lines b (t ++ more)) → Answered tell a s b t old old
  no_line a b s t old all ended = record { given = []; passed = record { all = all; ended = ended; good = refl }; put = gets-none old }

  -- one line ended, and was answered
  pub one_line : (a b : Reading) (s t : List ℕ) (e : Entry) (before after : Option (List ℕ)) → line_fault e.line e.kind ≡ None → ((more : List ℕ) → coming lines a (s ++ more) ≡ e ∷ coming lines b (t ++ more)) → ((more : List ℕ) → coming ended_lines a (s ++ more) ≡ e ∷ coming ended_lines b (t ++ more)) → Gets (line_text tell e.kind) before after → Answered tell a s b t before after
  one_line a b s t e before after none all ended put = record {
    given = e ∷ [];
    passed = record { all = all; ended = ended; good = ap (λ (o : Option Fault). first_fault o None) none };
    put = subst (λ (x : List ℕ). Gets x before after) (sym (one_text e)) put;
  }

  -- a line that ends the reading, behind which nothing comes
  pub last_line : (e : Entry) (more : List Entry) (f : Fault) (old : Option (List ℕ)) → line_fault e.line e.kind ≡ Some f → more ≡ [] → EndsLines tell (e ∷ more) f old old
  last_line e more f old is none = inl (ap (λ (o : Option Fault). first_fault o (lines_fault more)) is, subst (λ (t : List ℕ). Gets t old old) (sym (ap (λ (t : List ℕ). t ++ lines_text tell more) (no_answer tell e.line e.kind f is) ∙ ap (lines_text tell) none)) (gets-none old))

  -- the outside failed while a line was answered
  pub line_failed : (e : Entry) (more : List Entry) (f : Fault) (before after : Option (List ℕ)) → PutsText (line_text tell e.kind) (Err f) before after → EndsLines tell (e ∷ more) f before after
  line_failed e more f before after put = inr (put.0, part-first (line_text tell e.kind) (lines_text tell more) before after put.1)

  -- a line that was refused, or whose answer failed
  pub line_stops : (e : Entry) (more : List Entry) (f : Fault) (before after : Option (List ℕ)) → (ends e.kind ≡ true → more ≡ []) → (line_fault e.line e.kind ≡ None → PutsText (line_text tell e.kind) (Err f) before after) → ((g : Fault) → line_fault e.line e.kind ≡ Some g → (stopped_by f ≡ Err g) × (after ≡ before)) → EndsLines tell (e ∷ more) f before after
  line_stops e more f before after last told refused = by (line_fault e.line e.kind) refl
    where
      by : (o : Option Fault) → line_fault e.line e.kind ≡ o → EndsLines tell (e ∷ more) f before after
      by None is = line_failed e more f before after (told is)
      by (Some g) is =
          let h = refused g is in
          let same : g ≡ f = cc in
          subst (λ (o : Option (List ℕ)). EndsLines tell (e ∷ more) f before o) (sym h.1)
          (subst (λ (k : Fault). EndsLines tell (e ∷ more) k before before) same (last_line e more g before is (last (ends_on e.line e.kind g is))))

  -- the same where it ended in a piece
  pub next_stops : (r new : Reading) (piece rest : List ℕ) (entry : Option Entry) (e : Entry) (f : Fault) (before after : Option (List ℕ)) → entry ≡ Some e → ((more : List ℕ) → coming lines r (piece ++ more) ≡ option_to_list entry ++ coming lines new (rest ++ more)) → IfSome entry (λ e. ends e.kind ≡ true → (more : List ℕ) → coming lines new more ≡ []) → (line_fault e.line e.kind ≡ None → PutsText (line_text tell e.kind) (Err f) before after) → ((g : Fault) → line_fault e.line e.kind ≡ Some g → (stopped_by f ≡ Err g) × (after ≡ before)) → (more : List ℕ) → EndsLines tell (coming lines r (piece ++ more)) f before after
  next_stops r new piece rest entry e f before after is all last told refused more =
      let over = subst (λ (o : Option Entry). IfSome o (λ e. ends e.kind ≡ true → (more : List ℕ) → coming lines new more ≡ [])) is last in
      let next : coming lines r (piece ++ more) ≡ e ∷ coming lines new (rest ++ more) = all more ∙ ap (λ (o : Option Entry). option_to_list o ++ coming lines new (rest ++ more)) is in
      subst (λ (es : List Entry). EndsLines tell es f before after) (sym next)
      (line_stops e (coming lines new (rest ++ more)) f before after (λ k. over k (rest ++ more)) told refused)

  -- a line that ended in a piece, and was answered
  pub next_line : (r new : Reading) (piece rest : List ℕ) (entry : Option Entry) (e : Entry) (before after : Option (List ℕ)) → entry ≡ Some e → ((more : List ℕ) → coming lines r (piece ++ more) ≡ option_to_list entry ++ coming lines new (rest ++ more)) → (IfSome entry (λ e. ends e.kind ≡ false) → (more : List ℕ) → coming ended_lines r (piece ++ more) ≡ option_to_list entry ++ coming ended_lines new (rest ++ more)) → ((g : Fault) → line_fault e.line e.kind ≡ Some g → (gone_on tt ≡ Err g) × (after ≡ before)) → (line_fault e.line e.kind ≡ None → Gets (line_text tell e.kind) before after) → Answered tell r piece new rest before after
  next_line r new piece rest entry e before after is all ended refused told =
      let good = goes_on_at e.line e.kind after before refused in
      let goes = subst (λ (o : Option Entry). IfSome o (λ e. ends e.kind ≡ false)) (sym is) good.0 in
      one_line r new piece rest e before after good.1
      (λ more. all more ∙ ap (λ (o : Option Entry). option_to_list o ++ coming lines new (rest ++ more)) is)
      (λ more. ended goes more ∙ ap (λ (o : Option Entry). option_to_list o ++ coming ended_lines new (rest ++ more)) is)
      (told good.1)

  -- no line ended in a piece
  pub next_none : (r new : Reading) (piece rest : List ℕ) (entry : Option Entry) (old : Option (List ℕ)) → entry ≡ None → ((more : List ℕ) → coming lines r (piece ++ more) ≡ option_to_list entry ++ coming lines new (rest ++ more)) → (IfSome entry (λ e. ends e.kind ≡ false) → (more : List ℕ) → coming ended_lines r (piece ++ more) ≡ option_to_list entry ++ coming ended_lines new (rest ++ more)) → Answered tell r piece new rest old old
  next_none r new piece rest entry old is all ended =
      let goes = subst (λ (o : Option Entry). IfSome o (λ e. ends e.kind ≡ false)) (sym is) tt in
      no_line r new piece rest old
      (λ more. all more ∙ ap (λ (o : Option Entry). option_to_list o ++ coming lines new (rest ++ more)) is)
      (λ more. ended goes more ∙ ap (λ (o : Option Entry). option_to_list o ++ coming ended_lines new (rest ++ more)) is)

  -- the next line of the rest of a piece behind those before it
  rest_is : (piece : List ℕ) (at : ℕ) → take (length piece - at) (drop at piece) ≡ drop at piece
  rest_is piece at = take_all (length piece - at) (drop at piece) (omega (arith, length-drop at piece))

  pub piece_then : (a b c : Reading) (piece : List ℕ) (at used : ℕ) (before mid after : Option (List ℕ)) → Answered tell a piece b (drop at piece) before mid → Answered tell b (take (length piece - at) (drop at piece)) c (drop used (take (length piece - at) (drop at piece))) mid after → Answered tell a piece c (drop (at + used) piece) before after
  piece_then a b c piece at used before mid after first second =
      let next = subst (λ (s : List ℕ). Answered tell b s c (drop used s) mid after) (rest_is piece at) second in
      subst (λ (s : List ℕ). Answered tell a piece c s before after) (drop-drop used at piece) (answered_then a b c piece (drop at piece) (drop used (drop at piece)) before mid after first next)

  -- what ends the lines of a rest ends them behind those that were answered
  pub rest_stops : (a b : Reading) (piece : List ℕ) (at : ℕ) (f : Fault) (before mid after : Option (List ℕ)) → Answered tell a piece b (drop at piece) before mid → ((more : List ℕ) → EndsLines tell (coming lines b (take (length piece - at) (drop at piece) ++ more)) f mid after) → (more : List ℕ) → EndsLines tell (coming lines a (piece ++ more)) f before after
  rest_stops a b piece at f before mid after first h more =
      let next = subst (λ (s : List ℕ). EndsLines tell (coming lines b (s ++ more)) f mid after) (rest_is piece at) (h more) in
      subst (λ (es : List Entry). EndsLines tell es f before after) (sym (first.passed.all more))
      (ends_behind first.given (coming lines b (drop at piece ++ more)) f before mid after first.passed.good first.put next)

  -- the outside failed behind lines that were answered
  pub failed_behind : (es fs : List Entry) (f : Fault) (before after : Option (List ℕ)) → IsOutside f → Gets (lines_text tell es) before after → EndsLines tell (es ++ fs) f before after
  failed_behind es fs f before after out put = inr (out, subst (λ (t : List ℕ). GetsPart t before after) (sym (text_behind es fs)) (part-first (lines_text tell es) (lines_text tell fs) before after (gets-whole (lines_text tell es) before after put)))

  -- what is still to come ends as all of an input does
  pub ends_of : (r : Reading) (given rest : List ℕ) (f : Fault) (before mid after : Option (List ℕ)) (a : Answered tell start given r [] before mid) → ((text : List ℕ) → coming lines start text ≡ entries text) → EndsLines tell (coming lines r rest) f mid after → EndsLines tell (entries (given ++ rest)) f before after
  ends_of r given rest f before mid after a all h =
      subst (λ (es : List Entry). EndsLines tell es f before after) (sym (a.passed.all rest) ∙ all (given ++ rest))
      (ends_behind a.given (coming lines r rest) f before mid after a.passed.good a.put h)

  -- the input failed
  pub stopped : (r : Reading) (input given rest : List ℕ) (left before after : Option (List ℕ)) (a : Answered tell start given r [] before after) → input ≡ given ++ rest → left ≡ Some rest → coming ended_lines r [] ≡ [] → ((text : List ℕ) → coming ended_lines start text ≡ ended_entries text) → StopsBehind (answers tell None) input left before after
  stopped r input given rest left before after a parts left_is none ended = record {
    given = given;
    rest = rest;
    parts = parts;
    left_is = left_is;
    not_refused = ap lines_fault (sym lines_are) ∙ a.passed.good;
    answered = subst (λ (t : List ℕ). Gets t before after) (ap (lines_text tell) lines_are ∙ sym (printed_prints (λ (e : Entry). line_text tell e.kind) (ended_entries given))) a.put;
  }
    where
      lines_are : a.given ≡ ended_entries given
      lines_are = sym (append-nil a.given) ∙ ap (λ (es : List Entry). a.given ++ es) (sym none) ∙ sym (a.passed.ended []) ∙ ap (coming ended_lines start) (append-nil given) ∙ ended given

  -- the input was read to its end, where no line is left
  pub whole_input : (r : Reading) (given : List ℕ) (left before after : Option (List ℕ)) (a : Answered tell start given r [] before after) → ((text : List ℕ) → coming lines start text ≡ entries text) → coming lines r [] ≡ [] → left ≡ Some [] → AnswersInput tell given left (Ok tt) before after
  whole_input r given left before after a all none left_is =
      let is : entries given ≡ a.given = sym (all given) ∙ ap (coming lines start) (sym (append-nil given)) ∙ a.passed.all [] ∙ ap (λ (es : List Entry). a.given ++ es) none ∙ append-nil a.given in
      (ap lines_fault is ∙ a.passed.good, subst (λ (es : List Entry). Gets (lines_text tell es) before after) (sym is) a.put, left_is)

  -- the same where a last line without an end was answered
  pub last_input : (r : Reading) (given : List ℕ) (e : Entry) (left before mid after : Option (List ℕ)) (a : Answered tell start given r [] before mid) → ((text : List ℕ) → coming lines start text ≡ entries text) → coming lines r [] ≡ e ∷ [] → left ≡ Some [] → line_fault e.line e.kind ≡ None → Gets (line_text tell e.kind) mid after → AnswersInput tell given left (Ok tt) before after
  last_input r given e left before mid after a all one left_is none put =
      let is : entries given ≡ a.given ++ e ∷ [] = sym (all given) ∙ ap (coming lines start) (sym (append-nil given)) ∙ a.passed.all [] ∙ ap (λ (es : List Entry). a.given ++ es) one in
      let good : lines_fault (a.given ++ e ∷ []) ≡ None = fault_behind a.given (e ∷ []) a.passed.good ∙ ap (λ (o : Option Fault). first_fault o None) none in
      let text : lines_text tell (a.given ++ e ∷ []) ≡ lines_text tell a.given ++ line_text tell e.kind = text_behind a.given (e ∷ []) ∙ ap (λ (t : List ℕ). lines_text tell a.given ++ t) (one_text e) in
      (ap lines_fault is ∙ good, subst (λ (t : List ℕ). Gets t before after) (sym (ap (lines_text tell) is ∙ text)) (gets-then (lines_text tell a.given) (line_text tell e.kind) before mid after a.put put), left_is)
