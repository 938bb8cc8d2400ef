-- What workers made, one after the other.
use Rattle.std.proofs.Common.{◌≡◌, ◌∙◌, sym, subst, ℕ, ◌+◌, ◌<◌, ◌≤◌, arith, length, get_or, List, Option, Result, inl, inr}
use Rattle.std.specs.Prelude.{slice_set}
use Rattle.std.specs.List.{All}
use Rattle.std.proofs.lemmas.Bool.{cases_lt}
use Rattle.std.proofs.lemmas.List.{get_or-set_other, get_or-set_same, length-set}
use Rattle.outside.specs.Outside.{Files}
use Rattle.outside.specs.declared.folder.Folder.{Ghosts}
use Rattle.catalog.specs.Drivers.{Dataset}
use Rattle.translate_plan.specs.Plan.{Planned}
use Rattle.write_back.specs.declared.forms.Writer.{Writer}
use Rattle.write_back.specs.Forms.{cut_of}
use Rattle.write_back.specs.View.{TargetView}
use Rattle.strip_copies.specs.declared.portions.Form.{Form}
use Rattle.error_lines.specs.declared.faults.Fault.{Fault}
use Rattle.output_copies.specs.declared.handing.Made.{Made}
use Rattle.output_copies.specs.declared.worker.Worker.{Worker}
use Rattle.output_copies.specs.Copying.{MayEnd}
use Rattle.output_copies.specs.Rounds.{MayPut}
use Rattle.output_copies.specs.Packed.{top_of, AreDone, HasDone, HasRoom, IsWorker, MayAnswer, MayTell, WasMade, WereMade}

module _ (told : Option Files) (cat : List Dataset) (id : ℕ) (p : Planned) (w : Writer) (rows : ℕ) where
  -- what some workers made, of which the first ones were written: there is room for others, and the rest is as it was
  pub record AreWritten (at : ℕ) (were made : List Made) : Type 0 where
    pub count : length made ≡ length were
    pub ready : (i : ℕ) (d : Made) → i < at → i < length made → HasRoom p w rows (get_or made i d)
    pub rest : (i : ℕ) (d : Made) → at ≤ i → get_or made i d ≡ get_or were i d

  -- one more was written
  pub written_more : (at : ℕ) (were made : List Made) (x : Made) → at < length made → HasRoom p w rows x → AreWritten at were made → AreWritten (at + 1) were (slice_set made at x)
  written_more at were made x within room before = record {
    count = length-set made at x ∙ before.count;
    ready = λ i d early less. elim (cases_lt i at) [
      | inl earlier ↦ subst (HasRoom p w rows) (sym (get_or-set_other made at i x d (λ same. absurd (omega arith)))) (before.ready i d earlier (omega (arith, length-set made at x)))
      | inr here ↦ (let same : at ≡ i = omega arith in subst (λ n. HasRoom p w rows (get_or (slice_set made at x) n d)) same (subst (HasRoom p w rows) (sym (get_or-set_same made at x d within)) room))
    ];
    rest = λ i d behind. get_or-set_other made at i x d (λ same. absurd (omega arith)) ∙ before.rest i d (omega arith);
  }

  -- what was made, but wasn't written yet
  pub made_kept : (first at top end : ℕ) (were made : List Made) → WereMade told cat id p w rows first were → AreWritten at were made → at < length made → top ≡ top_of (cut_of w).blocks rows first at → end ≡ top_of (cut_of w).blocks rows first (at + 1) → (d : Made) → WasMade told cat id p w rows top end (get_or made at d)
  made_kept first at top end were made done all within t e d =
      subst (λ n. WasMade told cat id p w rows n end (get_or made at d)) (sym t)
      (subst (λ n. WasMade told cat id p w rows (top_of (cut_of w).blocks rows first at) n (get_or made at d)) (sym e)
      (subst (WasMade told cat id p w rows (top_of (cut_of w).blocks rows first at) (top_of (cut_of w).blocks rows first (at + 1))) (sym (all.rest at d (omega arith))) (done at d (omega (arith, all.count, within)))))

  pub answer_kept : (before f at : ℕ) (were made : List Made) → MayTell told before f were → AreWritten at were made → at < length made → (d : Made) → MayEnd told before f 0 0 (get_or made at d).answer
  answer_kept before f at were made answers all within d =
      subst (λ (x : Made). MayEnd told before f 0 0 x.answer) (sym (all.rest at d (omega arith))) (answers at d (omega (arith, all.count, within)))

  -- there is room for others, where what wasn't written had been made
  pub written_ready : (first at : ℕ) (were made : List Made) → WereMade told cat id p w rows first were → AreWritten at were made → All (HasRoom p w rows) made
  written_ready first at were made done all = λ i d less. elim (cases_lt i at) [
    | inl early ↦ all.ready i d early less
    | inr late ↦ subst (HasRoom p w rows) (sym (all.rest i d late)) (done i d (omega (arith, all.count, less))).room
  ]

module _ {F File Draft : Type 0} (calls : Ghosts F File Draft) (told : Option Files) (scene cat : List Dataset) (id : ℕ) (p : Planned) (w : Writer) (form : Form) (rows step : ℕ) where
  -- what the first workers made was taken: they may make other blocks where there was room, and the rest is as it was
  pub record AreHanded (at first : ℕ) (were workers : List (Worker F File Draft)) (had made : List Made) : Type 0 where
    pub count : length workers ≡ length were
    pub count_made : length made ≡ length had
    pub taken : (i : ℕ) (d : Made) → i < at → i < length made → WasMade told cat id p w rows (top_of (cut_of w).blocks rows first i) (top_of (cut_of w).blocks rows first (i + 1)) (get_or made i d)
    pub answers : (before now : ℕ) → MayAnswer told before now were → (i : ℕ) (d : Made) → i < at → i < length made → MayEnd told before now 0 0 (get_or made i d).answer
    pub ready : All (HasRoom p w rows) had → (i : ℕ) (d : Worker F File Draft) → i < at → i < length workers → IsWorker calls told scene cat id p w form rows step (get_or workers i d)
    pub rest : (i : ℕ) (d : Worker F File Draft) → at ≤ i → get_or workers i d ≡ get_or were i d
    pub rest_made : (i : ℕ) (d : Made) → at ≤ i → get_or made i d ≡ get_or had i d

  -- what one more made was taken
  pub handed_more : (at first : ℕ) (were workers : List (Worker F File Draft)) (had made : List Made) (x e : Worker F File Draft) (y d : Made) → at < length workers → at < length made → AreDone calls told scene cat id p w form rows step first were
      → ((top end : ℕ) → HasDone calls told scene cat id p w form rows step top end (get_or workers at e) → WasMade told cat id p w rows top end y) → y.answer ≡ (get_or workers at e).answer
      → (HasRoom p w rows (get_or made at d) → IsWorker calls told scene cat id p w form rows step (get_or workers at e) → IsWorker calls told scene cat id p w form rows step x)
      → AreHanded at first were workers had made → AreHanded (at + 1) first were (slice_set workers at x) had (slice_set made at y)
  handed_more at first were workers had made x e y d within inside done take answer give so_far = record {
    count = length-set workers at x ∙ so_far.count;
    count_made = length-set made at y ∙ so_far.count_made;
    taken = λ i f early less. elim (cases_lt i at) [
      | inl earlier ↦ subst (WasMade told cat id p w rows (top_of (cut_of w).blocks rows first i) (top_of (cut_of w).blocks rows first (i + 1))) (sym (get_or-set_other made at i y f (λ same. absurd (omega arith)))) (so_far.taken i f earlier (omega (arith, length-set made at y)))
      | inr here ↦ (
          let same : at ≡ i = omega arith in
          subst (λ n. WasMade told cat id p w rows (top_of (cut_of w).blocks rows first n) (top_of (cut_of w).blocks rows first (n + 1)) (get_or (slice_set made at y) n f)) same
          (subst (WasMade told cat id p w rows (top_of (cut_of w).blocks rows first at) (top_of (cut_of w).blocks rows first (at + 1))) (sym (get_or-set_same made at y f inside)) (take (top_of (cut_of w).blocks rows first at) (top_of (cut_of w).blocks rows first (at + 1)) here_done))
          )
    ];
    answers = λ before now may i f early less. elim (cases_lt i at) [
      | inl earlier ↦ subst (λ (z : Made). MayEnd told before now 0 0 z.answer) (sym (get_or-set_other made at i y f (λ same. absurd (omega arith)))) (so_far.answers before now may i f earlier (omega (arith, length-set made at y)))
      | inr here ↦ (
          let same : at ≡ i = omega arith in
          subst (λ n. MayEnd told before now 0 0 (get_or (slice_set made at y) n f).answer) same
          (subst (λ (z : Made). MayEnd told before now 0 0 z.answer) (sym (get_or-set_same made at y f inside))
          (subst (λ (r : Result (Unit {0}) Fault). MayEnd told before now 0 0 r) (sym answer)
          (subst (λ (z : Worker F File Draft). MayEnd told before now 0 0 z.answer) (sym (so_far.rest at e (omega arith))) (may at e (omega (arith, so_far.count, within))))))
          )
    ];
    ready = λ rooms i f early less. elim (cases_lt i at) [
      | inl earlier ↦ subst (IsWorker calls told scene cat id p w form rows step) (sym (get_or-set_other workers at i x f (λ same. absurd (omega arith)))) (so_far.ready rooms i f earlier (omega (arith, length-set workers at x)))
      | inr here ↦ (
          let same : at ≡ i = omega arith in
          subst (λ n. IsWorker calls told scene cat id p w form rows step (get_or (slice_set workers at x) n f)) same
          (subst (IsWorker calls told scene cat id p w form rows step) (sym (get_or-set_same workers at x f within))
          (give (subst (HasRoom p w rows) (sym (so_far.rest_made at d (omega arith))) (rooms at d (omega (arith, so_far.count_made, inside)))) here_done.worker))
          )
    ];
    rest = λ i f behind. get_or-set_other workers at i x f (λ same. absurd (omega arith)) ∙ so_far.rest i f (omega arith);
    rest_made = λ i f behind. get_or-set_other made at i y f (λ same. absurd (omega arith)) ∙ so_far.rest_made i f (omega arith);
  }
    where
      here_done : HasDone calls told scene cat id p w form rows step (top_of (cut_of w).blocks rows first at) (top_of (cut_of w).blocks rows first (at + 1)) (get_or workers at e)
      here_done = subst (HasDone calls told scene cat id p w form rows step (top_of (cut_of w).blocks rows first at) (top_of (cut_of w).blocks rows first (at + 1))) (sym (so_far.rest at e (omega arith))) (done at e (omega (arith, so_far.count, within)))

module _ {F File Draft : Type 0} (calls : Ghosts F File Draft) (told : Option Files) (cat : List Dataset) (id : ℕ) (p : Planned) (w : Writer) (form : Form) (rows step first : ℕ) where
  -- what may be written, by what the folder, the target and what was made are
  pub may_put_at : (folder folder' : F) (target target' : TargetView) (made made' : List Made) → MayPut calls told cat id p w form rows step first folder target made → folder ≡ folder' → target ≡ target' → made ≡ made' → MayPut calls told cat id p w form rows step first folder' target' made'
  may_put_at folder folder' target target' made made' may f t m =
      subst (λ (x : F). MayPut calls told cat id p w form rows step first x target' made') f
      (subst (λ (x : TargetView). MayPut calls told cat id p w form rows step first folder x made') t
      (subst (λ (x : List Made). MayPut calls told cat id p w form rows step first folder target x) m may))
