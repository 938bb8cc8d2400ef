use Rattle.std.proofs.Common.{◌≡◌, ◌∙◌, ◌+◌, ap, refl, arith, sym, subst, take, length, ℕ, ℤ, List, Option, Result, Err}
use Rattle.std.specs.Prelude.{OnErr, OnOk}
use Rattle.outside.specs.Outside.{Files}
use Rattle.outside.specs.Streams.{Gets, GetsPart}
use Rattle.error_lines.specs.declared.faults.Fault.{Fault}
use Rattle.error_lines.specs.Progress.{progress}
use Rattle.output_copies.specs.Copying.{spoken, TellsChange}
use Rattle.output_copies.specs.Filled.{IsFilled}
use Rattle.output_copies.specs.Parts.{BeginsWith}
use Rattle.output_copies.proofs.Beside.{fewer_left, filled_on}
use Rattle.output_copies.proofs.Changes.{handed_on, out_tells}
use Rattle.output_copies.proofs.Copied.{filled_next, filled_to}
use Rattle.output_copies.proofs.Ends.{ends_after, ends_beside, ends_ok, ends_so, err_is}
use Rattle.output_copies.proofs.Told.{told_none, told_so_far}
use Rattle.output_copies.proofs.ahead.copy_ahead.Goals as goal

pub returns-in_err-told-clause-err : goal.returns-in_err-told-clause-err
returns-in_err-told-clause-err g c =
    let before = g.O.Sink.got c.args.out.now in
    subst (λ (r : Result (Unit {0}) Fault). OnErr r (GetsPart (spoken c.args.copier.now.quiet progress) (g.O.Sink.got c.args.out.now) (g.O.Sink.got c.tell.new.out))) (sym (err_is c.from_residual.result c.in_err-told.field-0.0 c.from_residual.ensures))
    (c.in_err-told.ensures.told before (told_none c.args.copier.now.quiet progress before))

pub returns-in_err-told-clause-ends : goal.returns-in_err-told-clause-ends
returns-in_err-told-clause-ends g c =
    ends_so _ _ _ _ _ c.in_err-told.field-0.0 c.from_residual.result (err_is c.from_residual.result c.in_err-told.field-0.0 c.from_residual.ensures) (c.in_err-told.ensures.ends (g.F.Folder.names c.args.folder.now) (g.F.Folder.faults c.args.folder.now))

pub returns-in_err-read_room-clause-err : goal.returns-in_err-read_room-clause-err
returns-in_err-read_room-clause-err g c =
    let before = g.O.Sink.got c.args.out.now in
    let q = c.args.copier.now.quiet in
    subst (λ (r : Result (Unit {0}) Fault). OnErr r (GetsPart (spoken q progress) before (g.O.Sink.got c.tell.new.out))) (sym (err_is c.from_residual-in_err-read_room.result c.in_err-read_room.field-0.0 c.from_residual-in_err-read_room.ensures))
    (told_so_far q progress _ before (g.O.Sink.got c.tell.new.out) (c.in_ok-told.ensures.told before (told_none q progress before)))

pub returns-in_err-read_room-clause-ends : goal.returns-in_err-read_room-clause-ends
returns-in_err-read_room-clause-ends g c =
    let told = g.F.Folder.names c.args.folder.now in
    let f = g.F.Folder.faults c.args.folder.now in
    let put = c.in_ok-told.ensures.ends told f in
    let x = c.in_err-read_room.field-0.0 in
    let o = g.O.Sink.faults c.tell.new.out in
    ends_so told _ _ _ _ x c.from_residual-in_err-read_room.result (err_is c.from_residual-in_err-read_room.result x c.from_residual-in_err-read_room.ensures)
    (ends_after told told f f (g.F.Folder.faults c.read_room.new.view) (g.O.Sink.faults c.args.out.now) o o (Err x) refl (omega arith) put.cause.out_later
    (ends_beside told f (g.F.Folder.faults c.read_room.new.view) o (Err x) c.in_err-read_room.ensures.were.ends))

pub loop-next-init : goal.loop-next-init
loop-next-init g c =
    let told = g.F.Folder.names c.args.folder.now in
    let put = c.in_ok-told.ensures.ends told (g.F.Folder.faults c.args.folder.now) in
    let before = g.O.Sink.got c.args.out.now in
    let p = c.args.translation.now.plan in
    let t = c.args.translation.now in
    let lines = c.first_lines-last in
    let were = c.in_ok-read_room.ensures.were in
    record {
      part = lines.ensures.part;
      few = lines.ensures.few;
      ready = were.ready;
      room = were.room_for;
      long = (let size = were.size_is in let long = c.requires.long in omega (arith, size, long));
      long_next = c.requires.long_next;
      filled =
          subst (λ (n : ℕ). IsFilled told t.cat t.id p c.args.target.now n lines.result.end lines.result.band) (sym lines.ensures.first)
          (subst (λ (n : ℕ). IsFilled told t.cat t.id p c.args.target.now 0 lines.result.end n) (sym lines.ensures.band)
          (filled_to told t.cat t.id p c.rules.ensures.kept c.args.target.now 0 0 lines.result.end c.requires.filled));
      read = were.read;
      name = refl;
      names = were.names;
      folder_later = were.ends.cause.folder_later;
      still = c.in_ok-told.ensures.quiet;
      out_later = put.cause.out_later;
      told = c.in_ok-told.ensures.within;
      text = c.in_ok-told.ensures.told before (told_none c.args.copier.now.quiet progress before);
    }

pub returns-in_err-read-clause-err : goal.returns-in_err-read-clause-err
returns-in_err-read-clause-err g c =
    subst (λ (r : Result (Unit {0}) Fault). OnErr r (GetsPart (spoken c.args.copier.now.quiet progress) (g.O.Sink.got c.args.out.now) (g.O.Sink.got c.loop-next.out))) (sym (err_is c.from_residual-in_err-read.result c.in_err-read.field-0.0 c.from_residual-in_err-read.ensures))
    (told_so_far c.args.copier.now.quiet progress c.loop-next.told (g.O.Sink.got c.args.out.now) (g.O.Sink.got c.loop-next.out) c.loop-next.invariant.text)

pub returns-in_err-read-clause-ends : goal.returns-in_err-read-clause-ends
returns-in_err-read-clause-ends g c =
    let told = g.F.Folder.names c.args.folder.now in
    let before = c.loop-next.invariant in
    let x = c.in_err-read.field-0.0 in
    let o = g.O.Sink.faults c.loop-next.out in
    ends_so told _ _ _ _ x c.from_residual-in_err-read.result (err_is c.from_residual-in_err-read.result x c.from_residual-in_err-read.ensures)
    (ends_after told (g.F.Folder.names c.loop-next.folder) (g.F.Folder.faults c.args.folder.now) (g.F.Folder.faults c.loop-next.folder) (g.F.Folder.faults c.write_and_read.new.folder) (g.O.Sink.faults c.args.out.now) o o (Err x) before.names before.folder_later before.out_later
    (ends_beside (g.F.Folder.names c.loop-next.folder) (g.F.Folder.faults c.loop-next.folder) (g.F.Folder.faults c.write_and_read.new.folder) o (Err x) c.in_err-read.ensures.ends))

pub returns-in_err-told-2-clause-err : goal.returns-in_err-told-2-clause-err
returns-in_err-told-2-clause-err g c =
    subst (λ (r : Result (Unit {0}) Fault). OnErr r (GetsPart (spoken c.args.copier.now.quiet progress) (g.O.Sink.got c.args.out.now) (g.O.Sink.got c.tell_and_answer.new.out))) (sym (err_is c.from_residual-in_err-told-2.result c.in_err-told-2.field-0.0 c.from_residual-in_err-told-2.ensures))
    (c.in_err-told-2.ensures.told (g.O.Sink.got c.args.out.now) c.loop-next.invariant.text)

pub returns-in_err-told-2-clause-ends : goal.returns-in_err-told-2-clause-ends
returns-in_err-told-2-clause-ends g c =
    let told = g.F.Folder.names c.args.folder.now in
    let here = g.F.Folder.names c.loop-next.folder in
    let before = c.loop-next.invariant in
    let x = c.in_err-told-2.field-0.0 in
    ends_so told _ _ _ _ x c.from_residual-in_err-told-2.result (err_is c.from_residual-in_err-told-2.result x c.from_residual-in_err-told-2.ensures)
    (ends_after told here (g.F.Folder.faults c.args.folder.now) (g.F.Folder.faults c.loop-next.folder) (g.F.Folder.faults c.write_and_read.new.folder) (g.O.Sink.faults c.args.out.now) (g.O.Sink.faults c.loop-next.out) (g.O.Sink.faults c.tell_and_answer.new.out) (Err x) before.names before.folder_later before.out_later
    (c.in_err-told-2.ensures.ends here (g.F.Folder.faults c.loop-next.folder) (g.F.Folder.faults c.write_and_read.new.folder) c.in_ok-read.ensures.read_ends))

pub loop-next-smaller : goal.loop-next-smaller
loop-next-smaller g c = fewer_left c.args.translation.now.plan c.loop-next.last c.in-Some.next c.loop-next.invariant.part c.in-Some.ensures.part c.in-Some.ensures.behind

pub loop-next-preserved : goal.loop-next-preserved
loop-next-preserved g c =
    let t = c.args.translation.now in
    let told = g.F.Folder.names c.args.folder.now in
    let here = g.F.Folder.names c.loop-next.folder in
    let before = c.loop-next.invariant in
    let next = c.in-Some.next in
    let done = c.in_ok-read.ensures in
    let put = c.in_ok-told-2.ensures.ends here (g.F.Folder.faults c.loop-next.folder) (g.F.Folder.faults c.write_and_read.new.folder) done.read_ends in
    let names : g.F.Folder.names c.write_and_read.new.folder ≡ told = done.names ∙ before.names in
    record {
      part = c.in-Some.ensures.part;
      few = c.in-Some.ensures.few;
      ready = done.ready;
      room = done.room;
      long = (let n = ap length c.turn.ensures.ready in let size = done.size in let long = before.long_next in omega (arith, n, size, long));
      long_next = (let n = ap length c.turn.ensures.next in let size = done.kept in let long = before.long in omega (arith, n, size, long));
      filled = filled_on told t.cat t.id t.plan c.rules.ensures.kept c.write_and_read.new.target c.loop-next.last next before.part c.in-Some.ensures.behind
          (subst (λ (o : Option Files). IsFilled o t.cat t.id t.plan c.write_and_read.new.target c.loop-next.last.first c.loop-next.last.end (c.loop-next.last.band + 1)) names done.filled);
      read = subst (λ (r : List ℤ). BeginsWith told t.cat t.id t.plan next r) (sym c.turn.ensures.ready) (subst (λ (o : Option Files). BeginsWith o t.cat t.id t.plan next c.write_and_read.new.rooms.next.items) names
          (subst (λ (r : Result (Unit {0}) Fault). OnOk r (BeginsWith (g.F.Folder.names c.write_and_read.new.folder) t.cat t.id t.plan next c.write_and_read.new.rooms.next.items)) c.in_ok-told-2.ensures.read done.read));
      name = done.name ∙ before.name;
      names = names;
      folder_later = (let a = before.folder_later in let b = done.ends.cause.folder_later in omega (arith, a, b));
      still = λ quiet. c.in_ok-told-2.ensures.quiet quiet ∙ before.still quiet;
      out_later = (let a = before.out_later in let b = put.cause.out_later in omega (arith, a, b));
      told = c.in_ok-told-2.ensures.within;
      text = c.in_ok-told-2.ensures.told (g.O.Sink.got c.args.out.now) before.text;
    }

pub returns-in_err-write_front-clause-err : goal.returns-in_err-write_front-clause-err
returns-in_err-write_front-clause-err g c =
    subst (λ (r : Result (Unit {0}) Fault). OnErr r (GetsPart (spoken c.args.copier.now.quiet progress) (g.O.Sink.got c.args.out.now) (g.O.Sink.got c.loop-next.out))) (sym (err_is c.from_residual-in_err-write_front.result c.in_err-write_front.field-0.0 c.from_residual-in_err-write_front.ensures))
    (told_so_far c.args.copier.now.quiet progress c.loop-next.told (g.O.Sink.got c.args.out.now) (g.O.Sink.got c.loop-next.out) c.loop-next.invariant.text)

pub returns-in_err-write_front-clause-ends : goal.returns-in_err-write_front-clause-ends
returns-in_err-write_front-clause-ends g c =
    let told = g.F.Folder.names c.args.folder.now in
    let before = c.loop-next.invariant in
    let x = c.in_err-write_front.field-0.0 in
    let o = g.O.Sink.faults c.loop-next.out in
    ends_so told _ _ _ _ x c.from_residual-in_err-write_front.result (err_is c.from_residual-in_err-write_front.result x c.from_residual-in_err-write_front.ensures)
    (ends_after told (g.F.Folder.names c.loop-next.folder) (g.F.Folder.faults c.args.folder.now) (g.F.Folder.faults c.loop-next.folder) (g.F.Folder.faults c.write_front.new.folder) (g.O.Sink.faults c.args.out.now) o o (Err x) before.names before.folder_later before.out_later
    (ends_beside (g.F.Folder.names c.loop-next.folder) (g.F.Folder.faults c.loop-next.folder) (g.F.Folder.faults c.write_front.new.folder) o (Err x) c.in_err-write_front.ensures.were.ends))

pub returns-in_err-tell-clause-err : goal.returns-in_err-tell-clause-err
returns-in_err-tell-clause-err g c =
    subst (λ (r : Result (Unit {0}) Fault). OnErr r (GetsPart (spoken c.args.copier.now.quiet progress) (g.O.Sink.got c.args.out.now) (g.O.Sink.got c.tell-2.new.out))) (sym (err_is c.from_residual-in_err-tell.result c.in_err-tell.field-0.0 c.from_residual-in_err-tell.ensures))
    (c.in_err-tell.ensures.told (g.O.Sink.got c.args.out.now) c.loop-next.invariant.text)

pub returns-in_err-tell-clause-ends : goal.returns-in_err-tell-clause-ends
returns-in_err-tell-clause-ends g c =
    let told = g.F.Folder.names c.args.folder.now in
    let before = c.loop-next.invariant in
    let x = c.in_err-tell.field-0.0 in
    let f = g.F.Folder.faults c.write_front.new.folder in
    ends_so told _ _ _ _ x c.from_residual-in_err-tell.result (err_is c.from_residual-in_err-tell.result x c.from_residual-in_err-tell.ensures)
    (ends_after told told (g.F.Folder.faults c.args.folder.now) f f (g.O.Sink.faults c.args.out.now) (g.O.Sink.faults c.loop-next.out) (g.O.Sink.faults c.tell-2.new.out) (Err x) refl
    (let a = before.folder_later in let b = c.in_ok-write_front.ensures.were.ends.cause.folder_later in omega (arith, a, b)) before.out_later (c.in_err-tell.ensures.ends told f))

pub returns-clause-filled : goal.returns-clause-filled
returns-clause-filled g c =
    let t = c.args.translation.now in
    let here = g.F.Folder.names c.write_front.new.folder in
    let u = c.write_front.new.target in
    let last = c.loop-next.last in
    let s = c.in_default.ensures.none refl in
    subst (λ (n : ℕ). IsFilled here t.cat t.id t.plan u n t.plan.size.h 0) s.1
    (filled_next here t.cat t.id t.plan c.rules.ensures.kept u last.first last.end t.plan.size.h c.loop-next.invariant.part.order
    (subst (λ (n : ℕ). IsFilled here t.cat t.id t.plan u last.first last.end n) s.0 c.in_ok-write_front.ensures.were.filled))

pub returns-clause-ok : goal.returns-clause-ok
returns-clause-ok g c =
    let before = g.O.Sink.got c.args.out.now in
    subst (λ (n : ℕ). Gets (spoken c.args.copier.now.quiet (take n progress)) before (g.O.Sink.got c.tell-2.new.out)) (c.in_ok-tell.ensures.whole refl)
    (c.in_ok-tell.ensures.told before c.loop-next.invariant.text)

pub returns-clause-ends : goal.returns-clause-ends
returns-clause-ends g c =
    let told = g.F.Folder.names c.args.folder.now in
    let before = c.loop-next.invariant in
    let f = g.F.Folder.faults c.write_front.new.folder in
    let put = c.in_ok-tell.ensures.ends told f in
    ends_ok tt told _ _ _ _
    (let a = before.folder_later in let b = c.in_ok-write_front.ensures.were.ends.cause.folder_later in omega (arith, a, b))
    (let a = before.out_later in let b = put.cause.out_later in omega (arith, a, b))

pub returns-in_err-told-clause-changed : goal.returns-in_err-told-clause-changed
returns-in_err-told-clause-changed g c =
    let cat = c.args.translation.now.cat in
    let x = c.in_err-told.field-0.0 in
    handed_on (TellsChange cat) x c.from_residual.result c.from_residual.ensures (out_tells cat x c.in_err-told.ensures.faults)

pub returns-in_err-read_room-clause-changed : goal.returns-in_err-read_room-clause-changed
returns-in_err-read_room-clause-changed g c =
    let cat = c.args.translation.now.cat in
    let x = c.in_err-read_room.field-0.0 in
    handed_on (TellsChange cat) x c.from_residual-in_err-read_room.result c.from_residual-in_err-read_room.ensures c.in_err-read_room.ensures.were.changed

pub returns-in_err-read-clause-changed : goal.returns-in_err-read-clause-changed
returns-in_err-read-clause-changed g c =
    let cat = c.args.translation.now.cat in
    let x = c.in_err-read.field-0.0 in
    handed_on (TellsChange cat) x c.from_residual-in_err-read.result c.from_residual-in_err-read.ensures c.in_err-read.ensures.changed

pub returns-in_err-told-2-clause-changed : goal.returns-in_err-told-2-clause-changed
returns-in_err-told-2-clause-changed g c =
    let cat = c.args.translation.now.cat in
    let x = c.in_err-told-2.field-0.0 in
    handed_on (TellsChange cat) x c.from_residual-in_err-told-2.result c.from_residual-in_err-told-2.ensures (c.in_err-told-2.ensures.changed cat c.in_ok-read.ensures.read_changed)

pub returns-in_err-write_front-clause-changed : goal.returns-in_err-write_front-clause-changed
returns-in_err-write_front-clause-changed g c =
    let cat = c.args.translation.now.cat in
    let x = c.in_err-write_front.field-0.0 in
    handed_on (TellsChange cat) x c.from_residual-in_err-write_front.result c.from_residual-in_err-write_front.ensures c.in_err-write_front.ensures.were.changed

pub returns-in_err-tell-clause-changed : goal.returns-in_err-tell-clause-changed
returns-in_err-tell-clause-changed g c =
    let cat = c.args.translation.now.cat in
    let x = c.in_err-tell.field-0.0 in
    handed_on (TellsChange cat) x c.from_residual-in_err-tell.result c.from_residual-in_err-tell.ensures (out_tells cat x c.in_err-tell.ensures.faults)
