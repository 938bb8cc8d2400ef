-- Lanes that are cut into two groups, and what both have read.
use Rattle.std.proofs.Common.{◌≡◌, ◌∙◌, sym, ap, subst, ◌+◌, ◌*◌, ◌<◌, ◌≤◌, ℕ, ℤ, List, [], ◌∷◌, ◌++◌, length, length-append, map, get_or, Option, Some, Ok, arith}
use Rattle.std.specs.List.{All}
use Rattle.std.specs.Prelude.{slice_set}
use lib.Seq.{map-set_same}
use Rattle.std.proofs.lemmas.List.{length-map, length-set, get_or-set_same, map-append}
use Rattle.std.proofs.lemmas.List.Elements.{All-append, All-set}
use Rattle.outside.specs.Outside.{Files}
use Rattle.outside.specs.declared.folder.Folder.{Ghosts}
use Rattle.catalog.specs.Drivers.{Dataset}
use Rattle.catalog.specs.Walk.{IsWalked}
use Rattle.nearest_window.specs.Lanes.{LaneView, room_of}
use Rattle.nearest_window.specs.Right.{IsReady, IsRightLane}
use Rattle.geotransform.specs.declared.types.Rect.{Rect}
use Rattle.lane_teams.specs.declared.cutting.Job.{Job}
use Rattle.lane_teams.specs.declared.turns.Turn.{Turn}
use Rattle.lane_teams.specs.Parts.{part_of, AreOfWindow}
use Rattle.lane_teams.specs.Refusals.{Answer, HaveAnswered}
use Rattle.lane_teams.specs.Turns.{IsDone, IsTurnOf, AreReady, HaveRead}
use Rattle.lane_teams.proofs.Answered.{answer_of, both_answered, lane_answered, one_turn}
use Rattle.lane_teams.proofs.Windows.{both_shown, sizes}
use Rattle.lane_teams.proofs.Refusals.{all_front, all_back, ok_given}

module _ {F File Draft : Type 0} (calls : Ghosts F File Draft) (told : Option Files) (cat : List Dataset) where
  -- a lane is ready over a view with the folder's files
  pub ready_over : (view : F) (lane : LaneView File) → calls.names view ≡ told → ((m : Files) → told ≡ Some m → IsWalked m cat) → IsRightLane calls told cat lane → IsReady calls view cat lane
  ready_over view lane same walked right = record {
    right = subst (λ t. IsRightLane calls t cat lane) (sym same) right;
    walked = λ m e. walked m (sym same ∙ e);
  }

  pub right_over : (view : F) (lane : LaneView File) → calls.names view ≡ told → IsReady calls view cat lane → IsRightLane calls told cat lane
  right_over view lane same ready = subst (λ t. IsRightLane calls t cat lane) same ready.right

  pub all_ready : (folder : F) (lanes : List (LaneView File)) → calls.names folder ≡ told → ((m : Files) → told ≡ Some m → IsWalked m cat) → All (IsRightLane calls told cat) lanes → All (IsReady calls folder cat) lanes
  all_ready folder lanes same walked right = λ k d less. ready_over folder (get_or lanes k d) same walked (right k d less)

  pub all_right : (folder : F) (lanes : List (LaneView File)) → calls.names folder ≡ told → All (IsReady calls folder cat) lanes → All (IsRightLane calls told cat) lanes
  all_right folder lanes same ready = λ k d less. right_over folder (get_or lanes k d) same (ready k d less)

module _ {F File Draft : Type 0} (calls : Ghosts F File Draft) (cat : List Dataset) where
  -- lanes stay ready where the folder's files stay
  pub all_kept : (folder folder' : F) (lanes : List (LaneView File)) → calls.names folder' ≡ calls.names folder → All (IsReady calls folder cat) lanes → All (IsReady calls folder' cat) lanes
  all_kept folder folder' lanes same ready = λ k d less.
      let r = ready k d less in
      ready_over calls (calls.names folder) cat folder' (get_or lanes k d) same (λ m e. r.walked m e) r.right

  -- the catalog was walked over the folder's files, as each lane knows
  pub walked_of : (folder : F) (lanes : List (LaneView File)) → 0 < length lanes → All (IsReady calls folder cat) lanes → (m : Files) → calls.names folder ≡ Some m → IsWalked m cat
  walked_of folder [] some ready m e = absurd (omega arith)
  walked_of folder (lane ∷ lanes) some ready m e = (ready 0 lane some).walked m e

module _ {F File Draft : Type 0} (calls : Ghosts F File Draft) (told : Option Files) (cat : List Dataset) (job : Job) (k low size : ℕ) (lanes a b : List (LaneView File)) (turns t u : List (Turn F File Draft)) (out p q : List ℤ)
    (ready : AreReady calls told cat job k lanes turns out) (el : lanes ≡ a ++ b) (la : length a ≡ low) (et : turns ≡ t ++ u) (lt : length t ≡ low) (eo : out ≡ p ++ q) (lp : length p ≡ size)
    (some : 0 < low) (few : low < length lanes) (size_is : size ≡ job.window.rect.w * (part_of job.window job.count k (k + low)).rect.h) where
  count : length lanes ≡ low + length b
  count = let e = ap length el ∙ length-append a b in omega arith

  pairs : length turns ≡ low + length u
  pairs = let e = ap length et ∙ length-append t u in omega arith

  some_lanes : 0 < job.count
  some_lanes = let f = ready.few in omega arith

  rest : length q ≡ job.window.rect.w * (part_of job.window job.count (k + low) (k + low + length b)).rect.h
  rest =
      let e = ap length eo ∙ length-append p q in
      let c = count in
      let end : k + length lanes ≡ k + low + length b = omega arith in
      let all : length out ≡ job.window.rect.w * (part_of job.window job.count k (k + low + length b)).rect.h = ready.size ∙ ap (λ n. job.window.rect.w * (part_of job.window job.count k n).rect.h) end in
      let s = sizes job.window.rect job.count k (k + low) (k + low + length b) some_lanes (omega arith) (omega arith) in
      omega arith

  pub front_ready : AreReady calls told cat job k a t p
  front_ready = record {
    some = omega arith;
    pairs = lt ∙ sym la;
    few = let f = ready.few in omega arith;
    walked = ready.walked;
    window = ready.window;
    size = lp ∙ size_is ∙ ap (λ n. job.window.rect.w * (part_of job.window job.count k (k + n)).rect.h) (sym la);
    right = all_front (IsRightLane calls told cat) a b (subst (All (IsRightLane calls told cat)) el ready.right);
    turns_are = all_front (IsTurnOf calls told cat) t u (subst (All (IsTurnOf calls told cat)) et ready.turns_are);
  }

  pub back_ready : AreReady calls told cat job (k + low) b u q
  back_ready = record {
    some = let c = count in omega arith;
    pairs = let c = count in let d = pairs in let r = ready.pairs in omega arith;
    few = let f = ready.few in let c = count in omega arith;
    walked = ready.walked;
    window = ready.window;
    size = rest;
    right = all_back (IsRightLane calls told cat) a b (subst (All (IsRightLane calls told cat)) el ready.right);
    turns_are = all_back (IsTurnOf calls told cat) t u (subst (All (IsTurnOf calls told cat)) et ready.turns_are);
  }

module _ {F File Draft : Type 0} (calls : Ghosts F File Draft) (told : Option Files) (cat : List Dataset) (job : Job) where
  -- the lanes of both groups have read
  pub both_read : (k : ℕ) (a b a' b' : List (LaneView File)) (t u : List (Turn F File Draft)) (p q : List ℤ) → 0 < job.count
      → HaveRead calls told cat job k a a' t p → HaveRead calls told cat job (k + length a) b b' u q
      → HaveRead calls told cat job k (a ++ b) (a' ++ b') (t ++ u) (p ++ q)
  both_read k a b a' b' t u p q some front back = record {
    lanes_count = let d = length-append a b in let e = length-append a' b' in let f = front.lanes_count in let g = back.lanes_count in omega arith;
    turns_count = let d = length-append a b in let e = length-append t u in let f = front.turns_count in let g = back.turns_count in omega arith;
    rooms = map-append room_of a' b' ∙ ap (λ ns. ns ++ map room_of b') front.rooms ∙ ap (λ ns. map room_of a ++ ns) back.rooms ∙ sym (map-append room_of a b);
    right = All-append (IsRightLane calls told cat) a' b' front.right back.right;
    turns_are = All-append (IsTurnOf calls told cat) t u front.turns_are back.turns_are;
    answered =
        let place : length a ≡ length (map answer_of t) = sym (length-map t answer_of ∙ front.turns_count) in
        subst (λ (answers : List Answer). HaveAnswered told cat job.window job.count k answers (p ++ q)) (sym (map-append answer_of t u))
        (both_answered told cat job.window job.count k (map answer_of t) (map answer_of u) p q front.answered
        (subst (λ i. HaveAnswered told cat job.window job.count (k + i) (map answer_of u) q) place back.answered));
    shown = λ all.
        let whole = length-append a b in
        let end : k + length a + length b ≡ k + length (a ++ b) = omega arith in
        subst (λ i. AreOfWindow told cat (part_of job.window job.count k i) (p ++ q)) end
        (both_shown told cat job.window job.count k (k + length a) (k + length a + length b) p q some (omega arith) (omega arith) (front.shown (all_front IsDone t u all)) (back.shown (all_back IsDone t u all)));
  }

  -- a single lane has read
  pub one_read : (k : ℕ) (lanes : List (LaneView File)) (turns : List (Turn F File Draft)) (lane d : LaneView File) (turn : Turn F File Draft) (out : List ℤ)
      → AreReady calls told cat job k lanes turns out → length lanes ≡ 1 → (new : List ℤ)
      → room_of lane ≡ room_of (get_or lanes 0 d) → IsRightLane calls told cat lane → IsTurnOf calls told cat turn
      → length new ≡ length out → (turn.answer ≡ Ok tt → AreOfWindow told cat (part_of job.window job.count k (k + 1)) new)
      → HaveRead calls told cat job k lanes (slice_set lanes 0 lane) (slice_set turns 0 turn) new
  one_read k lanes turns lane d turn out ready one new room right turned long shown = record {
    lanes_count = length-set lanes 0 lane;
    turns_count = length-set turns 0 turn ∙ ready.pairs;
    rooms = map-set_same room_of lanes 0 lane d room;
    right = All-set (IsRightLane calls told cat) lanes 0 lane right ready.right;
    turns_are = All-set (IsTurnOf calls told cat) turns 0 turn turned ready.turns_are;
    answered =
        subst (λ (ts : List (Turn F File Draft)). HaveAnswered told cat job.window job.count k (map answer_of ts) new)
        (sym (one_turn turns turn (ready.pairs ∙ one)))
        (lane_answered told cat job.window job.count k new turn.answer (record {
          size = long ∙ ready.size ∙ ap (λ n. job.window.rect.w * (part_of job.window job.count k (k + n)).rect.h) one;
          shown = ok_given turn.answer (AreOfWindow told cat (part_of job.window job.count k (k + 1)) new) shown;
          changed = turned.changed;
          never = turned.never;
        }));
    shown = λ all.
        let pairs = ready.pairs in
        let some : 0 < length turns = omega arith in
        let there : 0 < length (slice_set turns 0 turn) = (let s = length-set turns 0 turn in omega arith) in
        let here : get_or (slice_set turns 0 turn) 0 turn ≡ turn = get_or-set_same turns 0 turn turn some in
        subst (λ n. AreOfWindow told cat (part_of job.window job.count k (k + n)) new) (sym one)
        (shown (ap (λ (t : Turn F File Draft). t.answer) (sym here) ∙ all 0 turn there));
  }

  -- the first lines fit
  pub front_fits : (k low : ℕ) (lanes : List (LaneView File)) (turns : List (Turn F File Draft)) (out : List ℤ) (rect : Rect) → AreReady calls told cat job k lanes turns out → low ≤ length lanes
      → rect ≡ (part_of job.window job.count k (k + low)).rect → rect.w * rect.h ≤ length out
  front_fits k low lanes turns out rect ready few is =
      let f = ready.few in
      let n = ready.some in
      let s = sizes job.window.rect job.count k (k + low) (k + length lanes) (omega arith) (omega arith) (omega arith) in
      let e : rect.w * rect.h ≡ job.window.rect.w * (part_of job.window job.count k (k + low)).rect.h = ap (λ (r : Rect). r.w * r.h) is in
      let z = ready.size in
      omega arith

  pub groups_read : (k low : ℕ) (lanes a b a' b' l : List (LaneView File)) (t' u' t : List (Turn F File Draft)) (p' q' o : List ℤ) → 0 < job.count → lanes ≡ a ++ b → length a ≡ low
      → HaveRead calls told cat job k a a' t' p' → HaveRead calls told cat job (k + low) b b' u' q'
      → l ≡ a' ++ b' → t ≡ t' ++ u' → o ≡ p' ++ q' → HaveRead calls told cat job k lanes l t o
  groups_read k low lanes a b a' b' l t' u' t p' q' o some el la front back is_l is_t is_o =
      let behind = subst (λ n. HaveRead calls told cat job (k + n) b b' u' q') (sym la) back in
      let whole = both_read k a b a' b' t' u' p' q' some front behind in
      subst (λ xs. HaveRead calls told cat job k xs l t o) (sym el)
      (subst (λ xs. HaveRead calls told cat job k (a ++ b) xs t o) (sym is_l)
      (subst (λ xs. HaveRead calls told cat job k (a ++ b) (a' ++ b') xs o) (sym is_t)
      (subst (λ xs. HaveRead calls told cat job k (a ++ b) (a' ++ b') (t' ++ u') xs) (sym is_o) whole)))
