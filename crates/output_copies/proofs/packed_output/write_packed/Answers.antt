use Rattle.std.proofs.Common.{◌≡◌, ◌∙◌, ap, refl, arith, sym, subst, ℕ, List, Some, Err}
use Rattle.error_lines.specs.Faults.{target_fault_of, IsOutside}
use Rattle.error_lines.specs.Progress.{progress}
use Rattle.error_lines.specs.Steps.{all_done, publishes, Goes}
use Rattle.block_cache.specs.Entries.{PoolView}
use Rattle.write_back.specs.Plans.{output_of}
use Rattle.output_copies.specs.Copying.{spoken, MayEnd, TellsChange}
use Rattle.output_copies.specs.Steps.{files_by, raster_of, unless_quiet}
use Rattle.output_copies.proofs.Changes.{handed_on, kept_all, kept_outside, outside_tells, target_tells, where_failed}
use Rattle.output_copies.proofs.Ends.{ends_after, ends_beside, ends_so, ends_target, err_is, outside_target}
use Rattle.output_copies.proofs.Goes.{goes_refused, goes_stop, goes_then, spoken_done, spoken_stops}
use Rattle.output_copies.proofs.Puts.{puts_none, puts_whole}
use Rattle.output_copies.proofs.Written.{samples_steps}
use Rattle.output_copies.proofs.packed_output.write_packed.Goals as goal

pub copy_hired-requires-clause-told : goal.copy_hired-requires-clause-told
copy_hired-requires-clause-told g c κs within = c.requires.told ∙ sym c.create.ensures.names

pub copy_hired-requires-clause-walked : goal.copy_hired-requires-clause-walked
copy_hired-requires-clause-walked g c κs within = λ m is. c.requires.walked m (sym c.create.ensures.names ∙ is)

pub copy_hired-requires-clause-empty : goal.copy_hired-requires-clause-empty
copy_hired-requires-clause-empty g c κs within = ap (λ (q : PoolView). q.entries) c.in_ok-target.ensures.pool

pub returns-in_err-target-clause-goes : goal.returns-in_err-target-clause-goes
returns-in_err-target-clause-goes g c = λ m d told at.
    let t = c.in_err-target.field-0.0 in
    goes_refused (samples_steps c.args.writing.now.quiet m d c.args.translation.now.plan c.args.writing.now.name.now) m c.from_residual.result (target_fault_of t) (g.F.Folder.names c.create.new.folder) (g.O.Sink.got c.args.out.now)
    (err_is c.from_residual.result (target_fault_of t) c.from_residual.ensures) (c.create.ensures.names ∙ told) (outside_target t (target_fault_of t) refl)

pub returns-in_err-target-clause-ends : goal.returns-in_err-target-clause-ends
returns-in_err-target-clause-ends g c =
    let t = c.in_err-target.field-0.0 in
    let told = g.F.Folder.names c.args.folder.now in
    ends_so told _ _ _ _ (target_fault_of t) c.from_residual.result (err_is c.from_residual.result (target_fault_of t) c.from_residual.ensures)
    (ends_beside {T = Unit {0}} told (g.F.Folder.faults c.args.folder.now) (g.F.Folder.faults c.create.new.folder) (g.O.Sink.faults c.args.out.now) (Err (target_fault_of t))
    (ends_target t told (g.F.Folder.faults c.args.folder.now) (g.F.Folder.faults c.create.new.folder) c.in_err-target.ensures.cause))

pub returns-in-Ok-clause-goes : goal.returns-in-Ok-clause-goes
returns-in-Ok-clause-goes g c = λ m d told at.
    let p = c.args.translation.now.plan in
    let q = c.args.writing.now.quiet in
    let before = g.O.Sink.got c.args.out.now in
    let after = g.O.Sink.got c.copy_hired.new.out in
    let names : g.F.Folder.names c.copy_hired.new.folder ≡ Some m = c.copy_hired.ensures.names ∙ (c.create.ensures.names ∙ told) in
    let name : c.copy_hired.new.target.name ≡ c.args.writing.now.name.now = c.copy_hired.ensures.name ∙ c.in_ok-target.ensures.name in
    goes_then (unless_quiet q progress) (publishes (files_by (output_of p) c.args.writing.now.name.now (raster_of m d p))) m m c.publish.result (g.F.Folder.names c.publish.new.folder) before after after
    (spoken_done q progress m (Some m) before after refl (c.in-Ok.ensures.ok))
    (subst (λ (n : List ℕ). Goes (all_done (publishes (files_by (output_of p) n (raster_of m d p)))) m c.publish.result (g.F.Folder.names c.publish.new.folder) (g.O.Sink.got c.copy_hired.new.out) (g.O.Sink.got c.copy_hired.new.out)) name
    (c.publish.ensures.goes m d names at after))

pub returns-in-Ok-clause-ends : goal.returns-in-Ok-clause-ends
returns-in-Ok-clause-ends g c =
    let copied = c.in-Ok.ensures.ends.cause in
    let made = c.create.ensures.cause.later in
    ends_after (g.F.Folder.names c.args.folder.now) (g.F.Folder.names c.copy_hired.new.folder) (g.F.Folder.faults c.args.folder.now) (g.F.Folder.faults c.copy_hired.new.folder) (g.F.Folder.faults c.publish.new.folder) (g.O.Sink.faults c.args.out.now) (g.O.Sink.faults c.copy_hired.new.out) (g.O.Sink.faults c.copy_hired.new.out) c.publish.result
    (c.copy_hired.ensures.names ∙ c.create.ensures.names) (omega (arith, made, copied.folder_later)) copied.out_later
    (ends_beside (g.F.Folder.names c.copy_hired.new.folder) (g.F.Folder.faults c.copy_hired.new.folder) (g.F.Folder.faults c.publish.new.folder) (g.O.Sink.faults c.copy_hired.new.out) c.publish.result c.publish.ensures.ends)

pub returns-clause-goes : goal.returns-clause-goes
returns-clause-goes g c = λ m d told at.
    let p = c.args.translation.now.plan in
    let q = c.args.writing.now.quiet in
    let f = c.in-Err.fault in
    let here : g.F.Folder.names c.create.new.folder ≡ Some m = c.create.ensures.names ∙ told in
    goes_stop (unless_quiet q progress) (publishes (files_by (output_of p) c.args.writing.now.name.now (raster_of m d p))) m f (g.F.Folder.names c.give_up.new.folder) (g.O.Sink.got c.args.out.now) (g.O.Sink.got c.copy_hired.new.out)
    (spoken_stops q progress f m (g.F.Folder.names c.give_up.new.folder) (g.O.Sink.got c.args.out.now) (g.O.Sink.got c.copy_hired.new.out) (c.give_up.ensures.names ∙ (c.copy_hired.ensures.names ∙ here)) (c.in-Err.ensures.ends.never m here) (c.in-Err.ensures.err))

pub returns-clause-ends : goal.returns-clause-ends
returns-clause-ends g c =
    let f = c.in-Err.fault in
    subst (λ (n : ℕ). MayEnd {T = Unit {0}} (g.F.Folder.names c.args.folder.now) (g.F.Folder.faults c.args.folder.now) n (g.O.Sink.faults c.args.out.now) (g.O.Sink.faults c.copy_hired.new.out) (Err c.in-Err.fault)) (sym c.give_up.ensures.faults)
    (ends_after (g.F.Folder.names c.args.folder.now) (g.F.Folder.names c.create.new.folder) (g.F.Folder.faults c.args.folder.now) (g.F.Folder.faults c.create.new.folder) (g.F.Folder.faults c.copy_hired.new.folder) (g.O.Sink.faults c.args.out.now) (g.O.Sink.faults c.args.out.now) (g.O.Sink.faults c.copy_hired.new.out) (Err c.in-Err.fault)
    c.create.ensures.names c.create.ensures.cause.later (omega arith) c.in-Err.ensures.ends)

pub returns-in_err-target-clause-put : goal.returns-in_err-target-clause-put
returns-in_err-target-clause-put g c = puts_none (spoken c.args.writing.now.quiet progress) (target_fault_of c.in_err-target.field-0.0) c.from_residual.result (g.O.Sink.got c.args.out.now) c.from_residual.ensures

pub returns-in_err-target-clause-changed : goal.returns-in_err-target-clause-changed
returns-in_err-target-clause-changed g c =
    let cat = c.args.translation.now.cat in
    let x = c.in_err-target.field-0.0 in
    handed_on (TellsChange cat) (target_fault_of x) c.from_residual.result c.from_residual.ensures (target_tells cat x)

pub returns-in_err-target-clause-kept : goal.returns-in_err-target-clause-kept
returns-in_err-target-clause-kept g c = kept_all c.from_residual.result (g.F.Folder.names c.args.folder.now) (g.F.Folder.names c.create.new.folder) c.create.ensures.names

pub returns-in-Ok-clause-put : goal.returns-in-Ok-clause-put
returns-in-Ok-clause-put g c =
    let before = g.O.Sink.got c.args.out.now in
    let after = g.O.Sink.got c.copy_hired.new.out in
    puts_whole (spoken c.args.writing.now.quiet progress) c.publish.result before after (c.in-Ok.ensures.ok)

pub returns-in-Ok-clause-changed : goal.returns-in-Ok-clause-changed
returns-in-Ok-clause-changed g c =
    let cat = c.args.translation.now.cat in
    where_failed IsOutside (TellsChange cat) c.publish.result (outside_tells cat) c.publish.ensures.outside

pub returns-in-Ok-clause-kept : goal.returns-in-Ok-clause-kept
returns-in-Ok-clause-kept g c = kept_outside c.publish.result _ c.publish.ensures.outside

pub returns-clause-put : goal.returns-clause-put
returns-clause-put g c =
    let before = g.O.Sink.got c.args.out.now in
    let after = g.O.Sink.got c.copy_hired.new.out in
    c.in-Err.ensures.err

pub returns-clause-changed : goal.returns-clause-changed
returns-clause-changed g c = c.in-Err.ensures.changed

pub returns-clause-kept : goal.returns-clause-kept
returns-clause-kept g c = λ is. c.give_up.ensures.names ∙ (c.copy_hired.ensures.names ∙ c.create.ensures.names)
