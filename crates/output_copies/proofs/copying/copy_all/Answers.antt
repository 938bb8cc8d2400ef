use Rattle.std.proofs.Common.{◌≡◌, ◌∙◌, ◌+◌, refl, arith, sym, subst, take, ℕ, Option, Result, Err}
use Rattle.std.specs.Prelude.{OnErr}
use Rattle.outside.specs.Outside.{Files}
use Rattle.outside.specs.Streams.{Gets, GetsPart}
use Rattle.error_lines.specs.declared.faults.Fault.{Fault}
use Rattle.error_lines.specs.Progress.{progress}
use Rattle.output_copies.specs.Copying.{spoken, TellsChange}
use Rattle.output_copies.specs.Filled.{IsFilled}
use Rattle.output_copies.proofs.Changes.{handed_on, out_tells}
use Rattle.output_copies.proofs.Ends.{ends_after, ends_beside, ends_so, err_is}
use Rattle.output_copies.proofs.Told.{told_none, told_so_far}
use Rattle.output_copies.proofs.copying.copy_all.Goals as goal

pub returns-in_err-told-clause-err : goal.returns-in_err-told-clause-err
returns-in_err-told-clause-err g c =
    let before = g.O.Sink.got c.args.out.now in
    subst (λ (r : Result (Unit {0}) Fault). OnErr r (GetsPart (spoken c.args.copier.now.quiet progress) (g.O.Sink.got c.args.out.now) (g.O.Sink.got c.tell.new.out))) (sym (err_is c.from_residual.result c.in_err-told.field-0.0 c.from_residual.ensures))
    (c.in_err-told.ensures.told before (told_none c.args.copier.now.quiet progress before))

pub returns-in_err-told-clause-ends : goal.returns-in_err-told-clause-ends
returns-in_err-told-clause-ends g c =
    ends_so _ _ _ _ _ c.in_err-told.field-0.0 c.from_residual.result (err_is c.from_residual.result c.in_err-told.field-0.0 c.from_residual.ensures) (c.in_err-told.ensures.ends (g.F.Folder.names c.args.folder.now) (g.F.Folder.faults c.args.folder.now))

pub loop-line-init : goal.loop-line-init
loop-line-init g c =
    let put = c.in_ok-told.ensures.ends (g.F.Folder.names c.args.folder.now) (g.F.Folder.faults c.args.folder.now) in
    let before = g.O.Sink.got c.args.out.now in
    record {
      below = omega arith;
      ready = c.requires.ready;
      room = c.requires.room;
      filled = c.requires.filled;
      name = refl;
      names = refl;
      folder_later = omega arith;
      still = c.in_ok-told.ensures.quiet;
      out_later = put.cause.out_later;
      told = c.in_ok-told.ensures.within;
      whole = c.in_ok-told.ensures.whole;
      text = c.in_ok-told.ensures.told before (told_none c.args.copier.now.quiet progress before);
    }

pub returns-in_err-copy_strip-clause-err : goal.returns-in_err-copy_strip-clause-err
returns-in_err-copy_strip-clause-err g c =
    subst (λ (r : Result (Unit {0}) Fault). OnErr r (GetsPart (spoken c.args.copier.now.quiet progress) (g.O.Sink.got c.args.out.now) (g.O.Sink.got c.loop-line.out))) (sym (err_is c.from_residual-in_err-copy_strip.result c.in_err-copy_strip.field-0.0 c.from_residual-in_err-copy_strip.ensures))
    (told_so_far c.args.copier.now.quiet progress c.loop-line.told (g.O.Sink.got c.args.out.now) (g.O.Sink.got c.loop-line.out) c.loop-line.invariant.text)

pub returns-in_err-copy_strip-clause-ends : goal.returns-in_err-copy_strip-clause-ends
returns-in_err-copy_strip-clause-ends g c =
    let told = g.F.Folder.names c.args.folder.now in
    let before = c.loop-line.invariant in
    ends_so told _ _ _ _ c.in_err-copy_strip.field-0.0 c.from_residual-in_err-copy_strip.result (err_is c.from_residual-in_err-copy_strip.result c.in_err-copy_strip.field-0.0 c.from_residual-in_err-copy_strip.ensures)
    (ends_after told (g.F.Folder.names c.loop-line.folder) (g.F.Folder.faults c.args.folder.now) (g.F.Folder.faults c.loop-line.folder) (g.F.Folder.faults c.copy_strip.new.folder) (g.O.Sink.faults c.args.out.now) (g.O.Sink.faults c.loop-line.out) (g.O.Sink.faults c.loop-line.out) (Err c.in_err-copy_strip.field-0.0) before.names before.folder_later before.out_later
    (ends_beside (g.F.Folder.names c.loop-line.folder) (g.F.Folder.faults c.loop-line.folder) (g.F.Folder.faults c.copy_strip.new.folder) (g.O.Sink.faults c.loop-line.out) (Err c.in_err-copy_strip.field-0.0) c.in_err-copy_strip.ensures.ends))

pub returns-in_err-told-2-clause-err : goal.returns-in_err-told-2-clause-err
returns-in_err-told-2-clause-err g c =
    subst (λ (r : Result (Unit {0}) Fault). OnErr r (GetsPart (spoken c.args.copier.now.quiet progress) (g.O.Sink.got c.args.out.now) (g.O.Sink.got c.tell-in-loop-line.new.out))) (sym (err_is c.from_residual-in_err-told-2.result c.in_err-told-2.field-0.0 c.from_residual-in_err-told-2.ensures))
    (c.in_err-told-2.ensures.told (g.O.Sink.got c.args.out.now) c.loop-line.invariant.text)

pub returns-in_err-told-2-clause-ends : goal.returns-in_err-told-2-clause-ends
returns-in_err-told-2-clause-ends g c =
    let told = g.F.Folder.names c.args.folder.now in
    let before = c.loop-line.invariant in
    let copied = c.in_ok-copy_strip.ensures.ends.cause.folder_later in
    ends_so told _ _ _ _ c.in_err-told-2.field-0.0 c.from_residual-in_err-told-2.result (err_is c.from_residual-in_err-told-2.result c.in_err-told-2.field-0.0 c.from_residual-in_err-told-2.ensures)
    (ends_after told told (g.F.Folder.faults c.args.folder.now) (g.F.Folder.faults c.copy_strip.new.folder) (g.F.Folder.faults c.copy_strip.new.folder) (g.O.Sink.faults c.args.out.now) (g.O.Sink.faults c.loop-line.out) (g.O.Sink.faults c.tell-in-loop-line.new.out) (Err c.in_err-told-2.field-0.0) refl
    (omega (arith, before.folder_later, copied)) before.out_later
    (c.in_err-told-2.ensures.ends told (g.F.Folder.faults c.copy_strip.new.folder)))

pub loop-line-preserved : goal.loop-line-preserved
loop-line-preserved g c =
    let told = g.F.Folder.names c.args.folder.now in
    let p = c.args.translation.now.plan in
    let before = c.loop-line.invariant in
    let copied = c.in_ok-copy_strip.ensures in
    let put = c.in_ok-told-2.ensures.ends told (g.F.Folder.faults c.copy_strip.new.folder) in
    let names : g.F.Folder.names c.copy_strip.new.folder ≡ told = copied.names ∙ before.names in
    record {
      below = omega arith;
      ready = copied.ready;
      room = copied.room;
      filled = subst (λ (o : Option Files). IsFilled o c.args.translation.now.cat c.args.translation.now.id p c.copy_strip.new.target (c.loop-line.line + c.min.result) (c.loop-line.line + c.min.result) 0) names copied.filled;
      name = copied.name ∙ before.name;
      names = names;
      folder_later = omega (arith, before.folder_later, copied.ends.cause.folder_later);
      still = λ quiet. c.in_ok-told-2.ensures.quiet quiet ∙ before.still quiet;
      out_later = omega (arith, before.out_later, put.cause.out_later);
      told = c.in_ok-told-2.ensures.within;
      whole = c.in_ok-told-2.ensures.whole;
      text = c.in_ok-told-2.ensures.told (g.O.Sink.got c.args.out.now) before.text;
    }

pub returns-clause-ok : goal.returns-clause-ok
returns-clause-ok g c =
    let before = c.loop-line.invariant in
    let all : c.loop-line.told ≡ 49 = before.whole (omega (arith, before.below, c.loop-line-test.false)) in
    subst (λ (n : ℕ). Gets (spoken c.args.copier.now.quiet (take n progress)) (g.O.Sink.got c.args.out.now) (g.O.Sink.got c.loop-line.out)) all before.text

pub returns-in_err-told-clause-changed : goal.returns-in_err-told-clause-changed
returns-in_err-told-clause-changed g c =
    let cat = c.args.translation.now.cat in
    let x = c.in_err-told.field-0.0 in
    handed_on (TellsChange cat) x c.from_residual.result c.from_residual.ensures (out_tells cat x c.in_err-told.ensures.faults)

pub returns-in_err-copy_strip-clause-changed : goal.returns-in_err-copy_strip-clause-changed
returns-in_err-copy_strip-clause-changed g c =
    let cat = c.args.translation.now.cat in
    let x = c.in_err-copy_strip.field-0.0 in
    handed_on (TellsChange cat) x c.from_residual-in_err-copy_strip.result c.from_residual-in_err-copy_strip.ensures c.in_err-copy_strip.ensures.changed

pub returns-in_err-told-2-clause-changed : goal.returns-in_err-told-2-clause-changed
returns-in_err-told-2-clause-changed g c =
    let cat = c.args.translation.now.cat in
    let x = c.in_err-told-2.field-0.0 in
    handed_on (TellsChange cat) x c.from_residual-in_err-told-2.result c.from_residual-in_err-told-2.ensures (out_tells cat x c.in_err-told-2.ensures.faults)
