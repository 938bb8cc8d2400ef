-- Workers one after the other.
use Rattle.std.proofs.Common.{◌≡◌, ◌∙◌, ap, sym, subst, refl, ℕ, ◌+◌, ◌-◌, ◌*◌, ◌<◌, ◌≤◌, arith, length, get_or, List, Option, Result, inl, inr}
use Rattle.std.specs.Prelude.{slice_set, IfErr}
use Rattle.std.specs.List.{All}
use Rattle.std.proofs.lemmas.Bool.{cases_lt}
use Rattle.std.proofs.lemmas.List.{get_or-set_other, get_or-set_same, length-set}
use Rattle.outside.specs.Outside.{Files}
use Rattle.outside.specs.declared.folder.Folder.{Ghosts}
use Rattle.outside.specs.Causes.{Rose}
use Rattle.catalog.specs.Drivers.{Dataset}
use Rattle.translate_plan.specs.Plan.{Planned}
use Rattle.write_back.specs.declared.forms.Writer.{Writer}
use Rattle.write_back.specs.Forms.{cut_of}
use Rattle.strip_copies.specs.declared.portions.Form.{Form}
use Rattle.error_lines.specs.declared.faults.Fault.{Fault}
use Rattle.output_copies.specs.declared.worker.Worker.{Worker}
use Rattle.output_copies.specs.Copying.{MayEnd, TellsChange}
use Rattle.output_copies.specs.Packed.{top_of, AreDone, AreMade, HasDone, IsWorker, MayAnswer, MayAnswerByViews}
use Rattle.output_copies.proofs.Ends.{ends_after, ends_by_view, ends_later}

-- the first worker's blocks begin where all do
pub top_first : (height rows first : ℕ) → first ≤ height → top_of height rows first 0 ≡ first
top_first height rows first low = let none : 0 * rows ≡ 0 = grind arith in omega (arith, none)

-- some blocks come with each worker
pub top_more : (height rows first n : ℕ) → first < height → 1 ≤ rows → 0 < n → first < top_of height rows first n
top_more height rows first n less some any =
    let back : n - 1 + 1 ≡ n = omega arith in
    let e : (n - 1 + 1) * rows ≡ (n - 1) * rows + rows = grind arith in
    let f : n * rows ≡ (n - 1 + 1) * rows = ap (λ k. k * rows) (sym back) in
    omega (arith, e, f)

module _ {F File Draft : Type 0} (calls : Ghosts F File Draft) (told : Option Files) (scene cat : List Dataset) (id : ℕ) (p : Planned) (w : Writer) (form : Form) (rows step : ℕ) where
  -- a worker with another view has done what it had
  pub done_renewed : (top end : ℕ) (x y : Worker F File Draft) → HasDone calls told scene cat id p w form rows step top end x → IsWorker calls told scene cat id p w form rows step y → y.desk.packed ≡ x.desk.packed → y.answer ≡ x.answer → HasDone calls told scene cat id p w form rows step top end y
  done_renewed top end x y done worker packed answer = record {
    worker = worker;
    made = λ ok. subst (λ (ls : List (List ℕ)). AreMade told cat id p w top ls end end 0) (ap (λ v. v.items) (sym packed)) (done.made (sym answer ∙ ok));
    changed = subst (λ (r : Result (Unit {0}) Fault). IfErr r (TellsChange cat)) (sym answer) done.changed;
  }

  -- workers of which one got another view have done what they had
  pub all_renewed : (first at : ℕ) (workers : List (Worker F File Draft)) (y e : Worker F File Draft) → at < length workers → AreDone calls told scene cat id p w form rows step first workers → IsWorker calls told scene cat id p w form rows step y → y.desk.packed ≡ (get_or workers at e).desk.packed → y.answer ≡ (get_or workers at e).answer → AreDone calls told scene cat id p w form rows step first (slice_set workers at y)
  all_renewed first at workers y e within done worker packed answer = λ i d less. elim (cases_lt i at) [
    | inl before ↦ subst (HasDone calls told scene cat id p w form rows step (top_of (cut_of w).blocks rows first i) (top_of (cut_of w).blocks rows first (i + 1))) (sym (get_or-set_other workers at i y d (λ same. absurd (omega arith)))) (done i d (omega (arith, length-set workers at y)))
    | inr behind ↦ elim (cases_lt at i) [
      | inl after ↦ subst (HasDone calls told scene cat id p w form rows step (top_of (cut_of w).blocks rows first i) (top_of (cut_of w).blocks rows first (i + 1))) (sym (get_or-set_other workers at i y d (λ same. absurd (omega arith)))) (done i d (omega (arith, length-set workers at y)))
      | inr last ↦ (
          let same : at ≡ i = omega arith in
          subst (λ n. HasDone calls told scene cat id p w form rows step (top_of (cut_of w).blocks rows first n) (top_of (cut_of w).blocks rows first (n + 1)) (get_or (slice_set workers at y) n d)) same
          (subst (HasDone calls told scene cat id p w form rows step (top_of (cut_of w).blocks rows first at) (top_of (cut_of w).blocks rows first (at + 1))) (sym (get_or-set_same workers at y d within))
          (done_renewed (top_of (cut_of w).blocks rows first at) (top_of (cut_of w).blocks rows first (at + 1)) (get_or workers at e) y (done at e within) worker packed answer))
          )
    ]
  ]

-- the answers of the workers whose views were ended, of n of them
module _ {F File Draft : Type 0} (calls : Ghosts F File Draft) (told : Option Files) where
  pub record AreAnswers (n before now : ℕ) (were workers : List (Worker F File Draft)) : Type 0 where
    pub count : length workers ≡ length were
    pub ended : (i : ℕ) (d : Worker F File Draft) → i < n → i < length workers → MayEnd told before now 0 0 (get_or workers i d).answer
    pub rest : (i : ℕ) (d : Worker F File Draft) → n ≤ i → get_or workers i d ≡ get_or were i d

  -- one more view was ended
  pub answers_more : (n before f g : ℕ) (were workers : List (Worker F File Draft)) (y e : Worker F File Draft) → n < length workers → before ≤ f → f ≤ g → y.answer ≡ (get_or workers n e).answer → (1 ≤ calls.faults (get_or workers n e).desk.view → Rose f g) → MayAnswerByViews told calls were → AreAnswers n before f were workers → AreAnswers (n + 1) before g were (slice_set workers n y)
  answers_more n before f g were workers y e within early later same risen views so_far = record {
    count = length-set workers n y ∙ so_far.count;
    ended = λ i d less inside. elim (cases_lt i n) [
      | inl earlier ↦ subst (λ (x : Worker F File Draft). MayEnd told before g 0 0 x.answer) (sym (get_or-set_other workers n i y d (λ z. absurd (omega arith)))) (ends_later told before f g 0 0 (get_or workers i d).answer later (so_far.ended i d earlier (omega (arith, length-set workers n y))))
      | inr here ↦ (
          let at : n ≡ i = omega arith in
          let view = subst (λ (x : Worker F File Draft). MayEnd told 0 (calls.faults x.desk.view) 0 0 x.answer) (sym (so_far.rest n e (omega arith))) (views n e (omega (arith, so_far.count, within))) in
          subst (λ k. MayEnd told before g 0 0 (get_or (slice_set workers n y) k d).answer) at
          (subst (λ (x : Worker F File Draft). MayEnd told before g 0 0 x.answer) (sym (get_or-set_same workers n y d within))
          (subst (λ (r : Result (Unit {0}) Fault). MayEnd told before g 0 0 r) (sym same)
          (ends_after told told before f g 0 0 0 (get_or workers n e).answer refl early (omega arith) (ends_by_view told f g (calls.faults (get_or workers n e).desk.view) 0 (get_or workers n e).answer later risen view))))
          )
    ];
    rest = λ i d behind. get_or-set_other workers n i y d (λ z. absurd (omega arith)) ∙ so_far.rest i d (omega arith);
  }
