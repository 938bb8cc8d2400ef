use Rattle.std.proofs.Common.{◌∙◌, ◌<◌, ap, arith, refl, sym, subst, ℕ, Err, Option, Result}
use Rattle.std.specs.Prelude.{OnErr, OnOk}
use Rattle.outside.specs.Outside.{Files}
use Rattle.outside.specs.Streams.{GetsPart}
use Rattle.write_back.specs.Forms.{cut_of}
use Rattle.error_lines.specs.Progress.{progress}
use Rattle.error_lines.specs.declared.faults.Fault.TheVariants.{Memory}
use Rattle.error_lines.specs.declared.faults.Fault.{Fault}
use Rattle.output_copies.specs.Copying.{spoken, TellsChange}
use Rattle.output_copies.specs.Filled.{IsFilled}
use Rattle.output_copies.specs.Packed.{top_of}
use Rattle.output_copies.proofs.Changes.{handed_on, memory_tells}
use Rattle.output_copies.proofs.Ends.{ends_after, ends_later, ends_memory, ends_so, err_is}
use Rattle.output_copies.proofs.Told.{told_none, told_so_far}
use Rattle.output_copies.proofs.packed_output.copy_hired.Goals as goal

pub has_others-others-requires-clause-some : goal.has_others-others-requires-clause-some
has_others-others-requires-clause-some g c κs within = omega (arith, c.get-count.ensures.some)

pub has_others-others-requires-clause-few : goal.has_others-others-requires-clause-few
has_others-others-requires-clause-few g c κs within = c.get-count.ensures.few

pub copy_packed-copied-requires-clause-some : goal.copy_packed-copied-requires-clause-some
copy_packed-copied-requires-clause-some g c κs within = omega (arith, c.in_ok-workers.ensures.count, c.get-count.ensures.some)

pub copy_packed-copied-requires-clause-few : goal.copy_packed-copied-requires-clause-few
copy_packed-copied-requires-clause-few g c κs within = omega (arith, c.in_ok-workers.ensures.count, c.get-count.ensures.few)

pub copy_packed-copied-requires-clause-count : goal.copy_packed-copied-requires-clause-count
copy_packed-copied-requires-clause-count g c κs within = c.in-Ok.ensures.count ∙ sym c.in_ok-workers.ensures.count

pub copy_packed-copied-requires-clause-rooms : goal.copy_packed-copied-requires-clause-rooms
copy_packed-copied-requires-clause-rooms g c κs within = λ less.
    let w = c.args.task.now.packing in
    c.in-Ok.ensures.rooms (c.has_others-others.ensures.others (subst (λ (n : ℕ). top_of (cut_of w).blocks c.args.task.now.rows 0 n < (cut_of w).blocks) c.in_ok-workers.ensures.count less))

pub copy_packed-copied-requires-clause-told : goal.copy_packed-copied-requires-clause-told
copy_packed-copied-requires-clause-told g c κs within = c.requires.told ∙ sym c.in_ok-workers.ensures.names

pub copy_packed-copied-requires-clause-filled : goal.copy_packed-copied-requires-clause-filled
copy_packed-copied-requires-clause-filled g c κs within =
    let t = c.args.task.now.translation.now in
    subst (λ (o : Option Files). IsFilled o t.cat t.id t.plan c.args.target.now 0 0 0) (sym c.in_ok-workers.ensures.names) c.requires.filled

pub returns-clause-filled : goal.returns-clause-filled
returns-clause-filled g c =
    let t = c.args.task.now.translation.now in
    subst (λ (o : Option Files). OnOk c.copy_packed-copied.result (IsFilled o t.cat t.id t.plan c.copy_packed-copied.new.target t.plan.size.h t.plan.size.h 0)) (sym c.dismiss.ensures.names) c.copy_packed-copied.ensures.filled

pub returns-clause-ends : goal.returns-clause-ends
returns-clause-ends g c =
    let told = g.F.Folder.names c.args.folder.now in
    let hired = c.in_ok-workers.ensures in
    ends_later told (g.F.Folder.faults c.args.folder.now) (g.F.Folder.faults c.copy_packed-copied.new.folder) (g.F.Folder.faults c.dismiss.new.folder) _ _ c.copy_packed-copied.result c.dismiss.ensures.later
    (ends_after told (g.F.Folder.names c.hire.new.folder) (g.F.Folder.faults c.args.folder.now) (g.F.Folder.faults c.hire.new.folder) (g.F.Folder.faults c.copy_packed-copied.new.folder) _ _ _ c.copy_packed-copied.result hired.names hired.later (omega arith) c.copy_packed-copied.ensures.ends)

pub returns-in_err-workers-clause-changed : goal.returns-in_err-workers-clause-changed
returns-in_err-workers-clause-changed g c =
    let cat = c.args.task.now.translation.now.cat in
    let x = c.in_err-workers.field-0.0 in
    handed_on (TellsChange cat) x c.from_residual.result c.from_residual.ensures (memory_tells cat x c.in_err-workers.ensures.memory)

pub returns-in_err-workers-clause-err : goal.returns-in_err-workers-clause-err
returns-in_err-workers-clause-err g c =
    let q = c.args.task.now.quiet in
    let before = g.O.Sink.got c.args.out.now in
    subst (λ (r : Result (Unit {0}) Fault). OnErr r (GetsPart (spoken q progress) before before)) (sym (err_is c.from_residual.result c.in_err-workers.field-0.0 c.from_residual.ensures))
    (told_so_far q progress 0 before before (told_none q progress before))

pub returns-in_err-workers-clause-ends : goal.returns-in_err-workers-clause-ends
returns-in_err-workers-clause-ends g c =
    let told = g.F.Folder.names c.args.folder.now in
    let x = c.in_err-workers.field-0.0 in
    ends_so told _ _ _ _ Memory c.from_residual.result (err_is c.from_residual.result x c.from_residual.ensures ∙ ap (λ (f : Fault). Err f) c.in_err-workers.ensures.memory)
    (ends_memory {T = Unit {0}} told (g.F.Folder.faults c.args.folder.now) (g.F.Folder.faults c.hire.new.folder) _ _ c.in_err-workers.ensures.later (omega arith))

pub returns-in_default-clause-changed : goal.returns-in_default-clause-changed
returns-in_default-clause-changed g c = memory_tells c.args.task.now.translation.now.cat Memory refl

pub returns-in_default-clause-err : goal.returns-in_default-clause-err
returns-in_default-clause-err g c =
    let q = c.args.task.now.quiet in
    let before = g.O.Sink.got c.args.out.now in
    told_so_far q progress 0 before before (told_none q progress before)

pub returns-in_default-clause-ends : goal.returns-in_default-clause-ends
returns-in_default-clause-ends g c =
    ends_memory {T = Unit {0}} (g.F.Folder.names c.args.folder.now) (g.F.Folder.faults c.args.folder.now) (g.F.Folder.faults c.args.folder.now) _ _ (omega arith) (omega arith)
