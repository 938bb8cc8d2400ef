use Rattle.std.proofs.Common.{◌≡◌, ◌++◌, refl, arith, sym, subst, Result, Err}
use Rattle.error_lines.specs.declared.faults.Fault.{Fault}
use Rattle.error_lines.specs.declared.faults.Fault.TheVariants.{OutFault}
use Rattle.error_lines.specs.Faults.{IsOutside}
use Rattle.error_lines.specs.Progress.{progress, progress_end}
use Rattle.error_lines.specs.Steps.{all_done, Goes}
use Rattle.output_copies.specs.Copying.{spoken, IsChanged, TellsChange}
use Rattle.output_copies.specs.Steps.{size_line, translation_steps, translation_text}
use Rattle.output_copies.proofs.Changes.{handed_on, kept_all, kept_outside, out_outside, out_tells, where_failed}
use Rattle.output_copies.proofs.Ends.{ends_after, ends_so, err_is}
use Rattle.output_copies.proofs.Puts.{first_part, puts_by, puts_part, puts_then, second_part}
use Rattle.output_copies.proofs.Whole.{end_goes, files_stop, size_stops}
use Rattle.output_copies.proofs.output.write_output.Goals as goal

pub returns-in_err-put_size-clause-told : goal.returns-in_err-put_size-clause-told
returns-in_err-put_size-clause-told g c = λ m told d at.
    let f = c.in_err-put_size.field-0.0 in
    subst (λ (r : Result (Unit {0}) Fault). Goes (all_done (translation_steps c.args.writing.now.quiet m d c.args.translation.now.plan c.args.writing.now.name.now)) m r (g.F.Folder.names c.args.folder.now) (g.O.Sink.got c.args.out.now) (g.O.Sink.got c.put_size.new.out))
    (sym (err_is c.from_residual.result c.in_err-put_size.field-0.0 c.from_residual.ensures))
    (size_stops c.args.writing.now.quiet m d c.args.translation.now.plan c.args.writing.now.name.now f (g.F.Folder.names c.args.folder.now) (g.O.Sink.got c.args.out.now) (g.O.Sink.got c.put_size.new.out) told
    ((c.in_err-put_size.ensures.ends (g.F.Folder.names c.args.folder.now) 0).never m told) (c.in_err-put_size.ensures.err d at))

pub returns-in_err-write_planned-clause-told : goal.returns-in_err-write_planned-clause-told
returns-in_err-write_planned-clause-told g c = λ m told d at.
    let f = c.in_err-write_planned.field-0.0 in
    let goes = c.in_err-write_planned.ensures.goes m d told at in
    subst (λ (r : Result (Unit {0}) Fault). Goes (all_done (translation_steps c.args.writing.now.quiet m d c.args.translation.now.plan c.args.writing.now.name.now)) m r (g.F.Folder.names c.write_planned.new.folder) (g.O.Sink.got c.args.out.now) (g.O.Sink.got c.write_planned.new.out))
    (sym (err_is c.from_residual-in_err-write_planned.result c.in_err-write_planned.field-0.0 c.from_residual-in_err-write_planned.ensures))
    (files_stop c.args.writing.now.quiet m d c.args.translation.now.plan c.args.writing.now.name.now f (g.F.Folder.names c.write_planned.new.folder) (g.O.Sink.got c.args.out.now) (g.O.Sink.got c.put_size.new.out) (g.O.Sink.got c.write_planned.new.out)
    (c.in_ok-put_size.ensures.ok d at) goes)

pub returns-clause-told : goal.returns-clause-told
returns-clause-told g c = λ m told d at.
    let goes = c.in_ok-write_planned.ensures.goes m d told at in
    let ends = c.put_end.ensures.ends (g.F.Folder.names c.args.folder.now) 0 in
    end_goes c.args.writing.now.quiet m d c.args.translation.now.plan c.args.writing.now.name.now c.put_end.result (g.F.Folder.names c.write_planned.new.folder) (g.O.Sink.got c.args.out.now) (g.O.Sink.got c.put_size.new.out) (g.O.Sink.got c.write_planned.new.out) (g.O.Sink.got c.put_end.new.out)
    (c.in_ok-put_size.ensures.ok d at) goes c.put_end.ensures.ok c.put_end.ensures.err (ends.never m told)

pub returns-in_err-put_size-clause-faults : goal.returns-in_err-put_size-clause-faults
returns-in_err-put_size-clause-faults g c =
    let f = c.in_err-put_size.field-0.0 in
    let ends = ends_so {T = Unit {0}} _ _ _ _ _ f c.from_residual.result (err_is c.from_residual.result f c.from_residual.ensures) (c.in_err-put_size.ensures.ends (g.F.Folder.names c.args.folder.now) (g.F.Folder.faults c.args.folder.now)) in
    ends.reading

pub returns-in_err-put_size-clause-differs : goal.returns-in_err-put_size-clause-differs
returns-in_err-put_size-clause-differs g c =
    let f = c.in_err-put_size.field-0.0 in
    let ends = ends_so {T = Unit {0}} _ _ _ _ _ f c.from_residual.result (err_is c.from_residual.result f c.from_residual.ensures) (c.in_err-put_size.ensures.ends (g.F.Folder.names c.args.folder.now) (g.F.Folder.faults c.args.folder.now)) in
    ends.differs

pub returns-in_err-put_size-clause-cause : goal.returns-in_err-put_size-clause-cause
returns-in_err-put_size-clause-cause g c =
    let f = c.in_err-put_size.field-0.0 in
    let ends = ends_so {T = Unit {0}} _ _ _ _ _ f c.from_residual.result (err_is c.from_residual.result f c.from_residual.ensures) (c.in_err-put_size.ensures.ends (g.F.Folder.names c.args.folder.now) (g.F.Folder.faults c.args.folder.now)) in
    ends.cause

pub returns-in_err-write_planned-clause-cause : goal.returns-in_err-write_planned-clause-cause
returns-in_err-write_planned-clause-cause g c =
    let told = g.F.Folder.names c.args.folder.now in
    let f = c.in_err-write_planned.field-0.0 in
    let r = c.from_residual-in_err-write_planned.result in
    let first = c.in_ok-put_size.ensures.ends told (g.F.Folder.faults c.args.folder.now) in
    let ends = ends_so {T = Unit {0}} _ _ _ _ _ f r (err_is r f c.from_residual-in_err-write_planned.ensures)
    (ends_after told told (g.F.Folder.faults c.args.folder.now) (g.F.Folder.faults c.args.folder.now) (g.F.Folder.faults c.write_planned.new.folder) (g.O.Sink.faults c.args.out.now) (g.O.Sink.faults c.put_size.new.out) (g.O.Sink.faults c.write_planned.new.out) (Err f) refl (omega arith) first.cause.out_later c.in_err-write_planned.ensures.ends) in
    ends.cause

pub returns-clause-faults : goal.returns-clause-faults
returns-clause-faults g c = (c.put_end.ensures.ends (g.F.Folder.names c.args.folder.now) (g.F.Folder.faults c.write_planned.new.folder)).reading

pub returns-clause-differs : goal.returns-clause-differs
returns-clause-differs g c = (c.put_end.ensures.ends (g.F.Folder.names c.args.folder.now) (g.F.Folder.faults c.write_planned.new.folder)).differs

pub returns-clause-cause : goal.returns-clause-cause
returns-clause-cause g c =
    let told = g.F.Folder.names c.args.folder.now in
    let first = c.in_ok-put_size.ensures.ends told (g.F.Folder.faults c.args.folder.now) in
    let second = c.in_ok-write_planned.ensures.ends in
    let folder_later = second.cause.folder_later in
    let out_first = first.cause.out_later in
    let out_second = second.cause.out_later in
    let ends = ends_after told told (g.F.Folder.faults c.args.folder.now) (g.F.Folder.faults c.write_planned.new.folder) (g.F.Folder.faults c.write_planned.new.folder) (g.O.Sink.faults c.args.out.now) (g.O.Sink.faults c.write_planned.new.out) (g.O.Sink.faults c.put_end.new.out) c.put_end.result refl
    folder_later (omega arith) (c.put_end.ensures.ends told (g.F.Folder.faults c.write_planned.new.folder)) in
    ends.cause

pub returns-in_err-put_size-clause-put : goal.returns-in_err-put_size-clause-put
returns-in_err-put_size-clause-put g c = λ d at.
    let q = c.args.writing.now.quiet in
    let before = g.O.Sink.got c.args.out.now in
    let after = g.O.Sink.got c.put_size.new.out in
    puts_part (spoken q (translation_text d.head.size)) c.in_err-put_size.field-0.0 c.from_residual.result before after c.from_residual.ensures
    (first_part q (size_line d.head.size) (progress ++ progress_end) before after (c.in_err-put_size.ensures.err d at))

pub returns-in_err-put_size-clause-changed : goal.returns-in_err-put_size-clause-changed
returns-in_err-put_size-clause-changed g c =
    let cat = c.args.translation.now.cat in
    let f = c.in_err-put_size.field-0.0 in
    handed_on (TellsChange cat) f c.from_residual.result c.from_residual.ensures (out_tells cat f c.in_err-put_size.ensures.faults)

pub returns-in_err-put_size-clause-kept : goal.returns-in_err-put_size-clause-kept
returns-in_err-put_size-clause-kept g c = kept_all c.from_residual.result (g.F.Folder.names c.args.folder.now) (g.F.Folder.names c.args.folder.now) refl

pub returns-in_err-write_planned-clause-put : goal.returns-in_err-write_planned-clause-put
returns-in_err-write_planned-clause-put g c = λ d at.
    let q = c.args.writing.now.quiet in
    let size = size_line d.head.size in
    let before = g.O.Sink.got c.args.out.now in
    let mid = g.O.Sink.got c.put_size.new.out in
    let after = g.O.Sink.got c.write_planned.new.out in
    let r = c.from_residual-in_err-write_planned in
    puts_part (spoken q (translation_text d.head.size)) c.in_err-write_planned.field-0.0 r.result before after r.ensures
    (second_part q size (progress ++ progress_end) before mid after (c.in_ok-put_size.ensures.ok d at) (first_part q progress progress_end mid after c.in_err-write_planned.ensures.put))

pub returns-in_err-write_planned-clause-changed : goal.returns-in_err-write_planned-clause-changed
returns-in_err-write_planned-clause-changed g c =
    let cat = c.args.translation.now.cat in
    let r = c.from_residual-in_err-write_planned in
    handed_on (TellsChange cat) c.in_err-write_planned.field-0.0 r.result r.ensures c.in_err-write_planned.ensures.changed

pub returns-in_err-write_planned-clause-kept : goal.returns-in_err-write_planned-clause-kept
returns-in_err-write_planned-clause-kept g c =
    let r = c.from_residual-in_err-write_planned in
    handed_on (λ (f : Fault). IsChanged f → g.F.Folder.names c.write_planned.new.folder ≡ g.F.Folder.names c.args.folder.now) c.in_err-write_planned.field-0.0 r.result r.ensures c.in_err-write_planned.ensures.kept

pub returns-clause-put : goal.returns-clause-put
returns-clause-put g c = λ d at.
    let q = c.args.writing.now.quiet in
    let r = c.put_end.result in
    let before = g.O.Sink.got c.args.out.now in
    let mid = g.O.Sink.got c.put_size.new.out in
    let late = g.O.Sink.got c.write_planned.new.out in
    let after = g.O.Sink.got c.put_end.new.out in
    puts_then q (size_line d.head.size) (progress ++ progress_end) r before mid after (c.in_ok-put_size.ensures.ok d at)
    (puts_then q progress progress_end r mid late after c.in_ok-write_planned.ensures.put
    (puts_by (spoken q progress_end) r late after c.put_end.ensures.ok c.put_end.ensures.err))

pub returns-clause-changed : goal.returns-clause-changed
returns-clause-changed g c =
    let cat = c.args.translation.now.cat in
    where_failed (λ (f : Fault). f ≡ OutFault) (TellsChange cat) c.put_end.result (out_tells cat) c.put_end.ensures.faults

pub returns-clause-kept : goal.returns-clause-kept
returns-clause-kept g c = kept_outside c.put_end.result _ (where_failed (λ (f : Fault). f ≡ OutFault) IsOutside c.put_end.result out_outside c.put_end.ensures.faults)
