use Rattle.std.proofs.Common.{◌≡◌, ◌∙◌, arith, refl, subst, sym, Err, Option, length, ℕ}
use Rattle.std.specs.Prelude.{OnOk}
use Rattle.std.specs.List.{All}
use Rattle.outside.specs.Outside.{Files}
use Rattle.error_lines.specs.declared.faults.Fault.{Fault}
use Rattle.error_lines.specs.declared.faults.Fault.TheVariants.{Memory}
use Rattle.write_back.specs.Forms.{cut_of}
use Rattle.output_copies.specs.Copying.{TellsChange}
use Rattle.output_copies.specs.Packed.{top_of, AreBlocksWritten, HasRoom, IsWorker, MayTell}
use Rattle.output_copies.proofs.Changes.{handed_on, memory_tells, where_failed}
use Rattle.output_copies.proofs.Ends.{ends_after, ends_by_memory, ends_so, err_is, ok_map, ok_with}
use Rattle.output_copies.proofs.rounds.copy_round.Goals as goal

pub take_made-requires-clause-told : goal.take_made-requires-clause-told
take_made-requires-clause-told g c κs within = c.requires.may_put.names ∙ sym c.in_ok-write_and_make.ensures.put.names

pub take_made-requires-clause-count : goal.take_made-requires-clause-count
take_made-requires-clause-count g c κs within = c.in_ok-write_and_make.ensures.put.count ∙ c.requires.count ∙ sym c.in_ok-write_and_make.ensures.done.count_is

pub take_made-requires-clause-done : goal.take_made-requires-clause-done
take_made-requires-clause-done g c κs within = c.in_ok-write_and_make.ensures.done.done

pub take_made-requires-clause-views : goal.take_made-requires-clause-views
take_made-requires-clause-views g c κs within = c.in_ok-write_and_make.ensures.done.ends

pub returns-in_err-write_and_make-clause-ends : goal.returns-in_err-write_and_make-clause-ends
returns-in_err-write_and_make-clause-ends g c = λ before early answers.
    let told = g.F.Folder.names c.args.folder.now in
    let x = c.in_err-write_and_make.field-0.0 in
    ends_so told before (g.F.Folder.faults c.write_and_make.new.folder) 0 0 x c.from_residual.result (err_is c.from_residual.result x c.from_residual.ensures) (c.in_err-write_and_make.ensures.put.ends before early answers)

pub returns-in_err-write_and_make-clause-changed : goal.returns-in_err-write_and_make-clause-changed
returns-in_err-write_and_make-clause-changed g c =
    let cat = c.args.task.now.translation.now.cat in
    let x = c.in_err-write_and_make.field-0.0 in
    handed_on (TellsChange cat) x c.from_residual.result c.from_residual.ensures c.in_err-write_and_make.ensures.put.changed

pub returns-clause-count : goal.returns-clause-count
returns-clause-count g c =
    let r = c.take_made.result in
    ok_map r _ _ (λ same. same ∙ c.in_ok-write_and_make.ensures.done.count_is) c.take_made.ensures.count

pub returns-clause-count_made : goal.returns-clause-count_made
returns-clause-count_made g c =
    let r = c.take_made.result in
    ok_map r _ _ (λ same. same ∙ c.in_ok-write_and_make.ensures.put.count) c.take_made.ensures.count_made

pub returns-clause-written : goal.returns-clause-written
returns-clause-written g c =
    let t = c.args.task.now.translation.now in
    let w = c.args.task.now.packing in
    ok_with c.take_made.result _
    (subst (λ (o : Option Files). AreBlocksWritten o t.cat t.id t.plan w (cut_of w).by_columns c.write_and_make.new.target (top_of (cut_of w).blocks c.args.task.now.rows c.args.round.first (length c.args.crew.now.made.items)))
    (sym c.take_made.ensures.names) c.in_ok-write_and_make.ensures.put.written)

pub returns-clause-answers : goal.returns-clause-answers
returns-clause-answers g c =
    let told = g.S.Scene.told in
    ok_map c.take_made.result _ _
    (λ (may : MayTell told (g.F.Folder.faults c.write_and_make.new.folder) (g.F.Folder.faults c.take_made.new.folder) c.take_made.new.crew.made.items). λ i d less.
    ends_after told told (g.F.Folder.faults c.args.folder.now) (g.F.Folder.faults c.write_and_make.new.folder) (g.F.Folder.faults c.take_made.new.folder) 0 0 0 _ refl c.in_ok-write_and_make.ensures.put.later (omega arith) (may i d less))
    c.take_made.ensures.answers

pub returns-clause-workers : goal.returns-clause-workers
returns-clause-workers g c = ok_map c.take_made.result _ _ (λ ready. ready c.in_ok-write_and_make.ensures.put.rooms) c.take_made.ensures.workers

pub returns-clause-ends : goal.returns-clause-ends
returns-clause-ends g c = λ before early answers.
    ends_by_memory (g.F.Folder.names c.args.folder.now) before (g.F.Folder.faults c.take_made.new.folder) c.take_made.result (omega (arith, early, c.in_ok-write_and_make.ensures.put.later, c.take_made.ensures.later)) c.take_made.ensures.memory

pub returns-clause-changed : goal.returns-clause-changed
returns-clause-changed g c =
    let cat = c.args.task.now.translation.now.cat in
    where_failed (λ (x : Fault). x ≡ Memory) (TellsChange cat) c.take_made.result (λ x is. memory_tells cat x is) c.take_made.ensures.memory
