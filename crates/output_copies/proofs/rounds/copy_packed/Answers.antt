use Rattle.std.proofs.Common.{◌≡◌, ◌∙◌, ◌+◌, ◌-◌, ◌<◌, ◌≤◌, ap, refl, arith, sym, subst, take, length, ℕ, List, Option, Result, Err}
use Rattle.std.specs.Prelude.{OnErr}
use Rattle.outside.specs.Outside.{Files}
use Rattle.outside.specs.Streams.{Gets, GetsPart}
use Rattle.error_lines.specs.declared.faults.Fault.{Fault}
use Rattle.error_lines.specs.declared.faults.Fault.TheVariants.{Memory}
use Rattle.error_lines.specs.Progress.{progress}
use Rattle.write_back.specs.Forms.{cut_of}
use Rattle.output_copies.specs.declared.handing.Made.{Made}
use Rattle.output_copies.specs.Copying.{spoken, TellsChange}
use Rattle.output_copies.specs.Filled.{IsFilled}
use Rattle.output_copies.specs.Packed.{top_of, AreBlocksWritten, MayTell, WereMade}
use Rattle.output_copies.proofs.Columned.{blocks_begin, blocks_end}
use Rattle.output_copies.proofs.Changes.{handed_on, memory_tells, out_tells}
use Rattle.output_copies.proofs.Hands.{top_more}
use Rattle.output_copies.proofs.Ends.{ends_after, ends_beside, ends_memory, ends_ok, ends_so, err_is}
use Rattle.output_copies.proofs.Told.{told_none, told_so_far}
use Rattle.output_copies.proofs.rounds.copy_packed.Goals as goal

pub returns-in_err-told-clause-err : goal.returns-in_err-told-clause-err
returns-in_err-told-clause-err g c =
    let before = g.O.Sink.got c.args.out.now in
    subst (λ (r : Result (Unit {0}) Fault). OnErr r (GetsPart (spoken c.args.task.now.quiet progress) (g.O.Sink.got c.args.out.now) (g.O.Sink.got c.tell.new.out))) (sym (err_is c.from_residual.result c.in_err-told.field-0.0 c.from_residual.ensures))
    (c.in_err-told.ensures.told before (told_none c.args.task.now.quiet progress before))

pub returns-in_err-told-clause-ends : goal.returns-in_err-told-clause-ends
returns-in_err-told-clause-ends g c =
    ends_so _ _ _ _ _ c.in_err-told.field-0.0 c.from_residual.result (err_is c.from_residual.result c.in_err-told.field-0.0 c.from_residual.ensures) (c.in_err-told.ensures.ends (g.F.Folder.names c.args.folder.now) (g.F.Folder.faults c.args.folder.now))

pub returns-in_err-told-clause-changed : goal.returns-in_err-told-clause-changed
returns-in_err-told-clause-changed g c =
    let cat = c.args.task.now.translation.now.cat in
    let x = c.in_err-told.field-0.0 in
    handed_on (TellsChange cat) x c.from_residual.result c.from_residual.ensures (out_tells cat x c.in_err-told.ensures.faults)

pub make_first-requires-clause-may : goal.make_first-requires-clause-may
make_first-requires-clause-may g c κs within = record { task = c.requires.task; some = c.requires.some; few = c.requires.few; each = c.requires.workers }

pub returns-in_err-make_first-clause-err : goal.returns-in_err-make_first-clause-err
returns-in_err-make_first-clause-err g c =
    let q = c.args.task.now.quiet in
    let before = g.O.Sink.got c.args.out.now in
    let after = g.O.Sink.got c.tell.new.out in
    subst (λ (r : Result (Unit {0}) Fault). OnErr r (GetsPart (spoken q progress) before after)) (sym (err_is c.from_residual-in_err-make_first.result c.in_err-make_first.field-0.0 c.from_residual-in_err-make_first.ensures))
    (told_so_far q progress c.in_ok-told.told before after (c.in_ok-told.ensures.told before (told_none q progress before)))

pub returns-in_err-make_first-clause-ends : goal.returns-in_err-make_first-clause-ends
returns-in_err-make_first-clause-ends g c =
    let told = g.F.Folder.names c.args.folder.now in
    let x = c.in_err-make_first.field-0.0 in
    let put = c.in_ok-told.ensures.ends told (g.F.Folder.faults c.args.folder.now) in
    ends_so told _ _ _ _ Memory c.from_residual-in_err-make_first.result (err_is c.from_residual-in_err-make_first.result x c.from_residual-in_err-make_first.ensures ∙ ap (λ (f : Fault). Err f) c.in_err-make_first.ensures.memory)
    (ends_memory {T = Unit {0}} told (g.F.Folder.faults c.args.folder.now) (g.F.Folder.faults c.make_first.new.folder) (g.O.Sink.faults c.args.out.now) (g.O.Sink.faults c.tell.new.out) c.in_err-make_first.ensures.later put.cause.out_later)

pub returns-in_err-make_first-clause-changed : goal.returns-in_err-make_first-clause-changed
returns-in_err-make_first-clause-changed g c =
    let cat = c.args.task.now.translation.now.cat in
    let x = c.in_err-make_first.field-0.0 in
    handed_on (TellsChange cat) x c.from_residual-in_err-make_first.result c.from_residual-in_err-make_first.ensures (memory_tells cat x c.in_err-make_first.ensures.memory)

-- the end of the workers' portions, by their number
end_is : (blocks rows first count n end : ℕ) → end ≡ top_of blocks rows first count → count ≡ n → end ≡ top_of blocks rows first n
end_is blocks rows first count n end is same = is ∙ ap (top_of blocks rows first) same

pub loop-next-init : goal.loop-next-init
loop-next-init g c =
    let same : c.len-count.result ≡ length c.args.crew.now.workers.items = omega (arith, c.len-count.ensures, c.args.crew.now.workers.ok.0) in
    let t = c.args.task.now.translation.now in
    let w = c.args.task.now.packing in
    let q = c.args.task.now.quiet in
    let told = g.F.Folder.names c.args.folder.now in
    let put = c.in_ok-told.ensures.ends told (g.F.Folder.faults c.args.folder.now) in
    let before = g.O.Sink.got c.args.out.now in
    let o = c.in_ok-make_first.ensures in
    let extent = c.extent_of-height.ensures.extent in
    let end = end_is (cut_of w).blocks c.args.task.now.rows 0 _ (length c.args.crew.now.workers.items) c.end_of-next.result c.end_of-next.ensures.end same in
    record {
      below = omega (arith, end, extent);
      begins = omega arith;
      end = end;
      count = o.count;
      count_made = o.count_made ∙ c.requires.count;
      made = o.made;
      answers = o.answers;
      workers = λ less. o.workers (c.requires.rooms (omega (arith, less, end)));
      empty = c.requires.empty;
      written = blocks_begin told t.cat t.id t.plan w c.rules.ensures.kept c.requires.task.output (cut_of w).by_columns c.args.target.now c.requires.filled;
      name = refl;
      names = o.names;
      folder_later = o.later;
      still = c.in_ok-told.ensures.quiet;
      out_later = put.cause.out_later;
      told = c.in_ok-told.ensures.within;
      text = c.in_ok-told.ensures.told before (told_none q progress before);
    }

pub copy_round-requires-clause-may_make : goal.copy_round-requires-clause-may_make
copy_round-requires-clause-may_make g c κs within =
    let so_far = c.loop-next.invariant in
    record {
      task = c.requires.task;
      some = omega (arith, c.requires.some, so_far.count);
      few = omega (arith, c.requires.few, so_far.count);
      each = so_far.workers (omega (arith, c.loop-next-test.true, c.extent_of-height.ensures.extent));
    }

pub copy_round-requires-clause-may_put : goal.copy_round-requires-clause-may_put
copy_round-requires-clause-may_put g c κs within =
    let t = c.args.task.now.translation.now in
    let w = c.args.task.now.packing in
    let so_far = c.loop-next.invariant in
    record {
      task = c.requires.task;
      few = omega (arith, c.requires.few, so_far.count_made);
      first_is = so_far.begins;
      names = c.requires.told ∙ sym so_far.names;
      made_is = so_far.made;
      written = subst (λ (o : Option Files). AreBlocksWritten o t.cat t.id t.plan w (cut_of w).by_columns c.loop-next.target c.loop-next.first) (sym so_far.names) so_far.written;
      empty = so_far.empty;
    }

pub copy_round-requires-clause-count : goal.copy_round-requires-clause-count
copy_round-requires-clause-count g c κs within = c.loop-next.invariant.count_made ∙ sym c.loop-next.invariant.count

pub returns-in_err-copy_round-clause-err : goal.returns-in_err-copy_round-clause-err
returns-in_err-copy_round-clause-err g c =
    subst (λ (r : Result (Unit {0}) Fault). OnErr r (GetsPart (spoken c.args.task.now.quiet progress) (g.O.Sink.got c.args.out.now) (g.O.Sink.got c.loop-next.out))) (sym (err_is c.from_residual-in_err-copy_round.result c.in_err-copy_round.field-0.0 c.from_residual-in_err-copy_round.ensures))
    (told_so_far c.args.task.now.quiet progress c.loop-next.told (g.O.Sink.got c.args.out.now) (g.O.Sink.got c.loop-next.out) c.loop-next.invariant.text)

pub returns-in_err-copy_round-clause-ends : goal.returns-in_err-copy_round-clause-ends
returns-in_err-copy_round-clause-ends g c =
    let told = g.F.Folder.names c.args.folder.now in
    let so_far = c.loop-next.invariant in
    let x = c.in_err-copy_round.field-0.0 in
    let f = g.F.Folder.faults c.args.folder.now in
    let o = g.O.Sink.faults c.loop-next.out in
    ends_so told _ _ _ _ x c.from_residual-in_err-copy_round.result (err_is c.from_residual-in_err-copy_round.result x c.from_residual-in_err-copy_round.ensures)
    (ends_after told (g.F.Folder.names c.loop-next.folder) f f (g.F.Folder.faults c.copy_round.new.folder) (g.O.Sink.faults c.args.out.now) o o (Err x) so_far.names (omega arith) so_far.out_later
    (ends_beside (g.F.Folder.names c.loop-next.folder) f (g.F.Folder.faults c.copy_round.new.folder) o (Err x) (c.in_err-copy_round.ensures.ends f so_far.folder_later so_far.answers)))

pub returns-in_err-copy_round-clause-changed : goal.returns-in_err-copy_round-clause-changed
returns-in_err-copy_round-clause-changed g c =
    let cat = c.args.task.now.translation.now.cat in
    let x = c.in_err-copy_round.field-0.0 in
    handed_on (TellsChange cat) x c.from_residual-in_err-copy_round.result c.from_residual-in_err-copy_round.ensures c.in_err-copy_round.ensures.changed

pub returns-in_err-told-2-clause-err : goal.returns-in_err-told-2-clause-err
returns-in_err-told-2-clause-err g c =
    subst (λ (r : Result (Unit {0}) Fault). OnErr r (GetsPart (spoken c.args.task.now.quiet progress) (g.O.Sink.got c.args.out.now) (g.O.Sink.got c.tell-in-loop-next.new.out))) (sym (err_is c.from_residual-in_err-told-2.result c.in_err-told-2.field-0.0 c.from_residual-in_err-told-2.ensures))
    (c.in_err-told-2.ensures.told (g.O.Sink.got c.args.out.now) c.loop-next.invariant.text)

pub returns-in_err-told-2-clause-ends : goal.returns-in_err-told-2-clause-ends
returns-in_err-told-2-clause-ends g c =
    let told = g.F.Folder.names c.args.folder.now in
    let so_far = c.loop-next.invariant in
    let f = g.F.Folder.faults c.copy_round.new.folder in
    ends_so told _ _ _ _ c.in_err-told-2.field-0.0 c.from_residual-in_err-told-2.result (err_is c.from_residual-in_err-told-2.result c.in_err-told-2.field-0.0 c.from_residual-in_err-told-2.ensures)
    (ends_after told told (g.F.Folder.faults c.args.folder.now) f f (g.O.Sink.faults c.args.out.now) (g.O.Sink.faults c.loop-next.out) (g.O.Sink.faults c.tell-in-loop-next.new.out) (Err c.in_err-told-2.field-0.0) refl
    (omega (arith, so_far.folder_later, c.in_ok-copy_round.ensures.later)) so_far.out_later
    (c.in_err-told-2.ensures.ends told f))

pub returns-in_err-told-2-clause-changed : goal.returns-in_err-told-2-clause-changed
returns-in_err-told-2-clause-changed g c =
    let cat = c.args.task.now.translation.now.cat in
    let x = c.in_err-told-2.field-0.0 in
    handed_on (TellsChange cat) x c.from_residual-in_err-told-2.result c.from_residual-in_err-told-2.ensures (out_tells cat x c.in_err-told-2.ensures.faults)

pub loop-next-preserved : goal.loop-next-preserved
loop-next-preserved g c =
    let same : c.len-count.result ≡ length c.args.crew.now.workers.items = omega (arith, c.len-count.ensures, c.args.crew.now.workers.ok.0) in
    let told = g.F.Folder.names c.args.folder.now in
    let t = c.args.task.now.translation.now in
    let w = c.args.task.now.packing in
    let rows = c.args.task.now.rows in
    let so_far = c.loop-next.invariant in
    let o = c.in_ok-copy_round.ensures in
    let f = g.F.Folder.faults c.copy_round.new.folder in
    let put = c.in_ok-told-2.ensures.ends told f in
    let names : g.F.Folder.names c.copy_round.new.folder ≡ told = o.names ∙ so_far.names in
    let extent = c.extent_of-height.ensures.extent in
    let end = end_is (cut_of w).blocks rows c.loop-next.next _ (length c.args.crew.now.workers.items) c.end_of-next-in-loop-next.result c.end_of-next-in-loop-next.ensures.end same in
    let all = end_is (cut_of w).blocks rows c.loop-next.first (length c.args.crew.now.workers.items) (length c.loop-next.crew.made.items) c.loop-next.next so_far.end (sym so_far.count_made) in
    record {
      below = omega (arith, end, extent);
      begins = omega (arith, so_far.below, extent);
      end = end;
      count = o.count ∙ so_far.count;
      count_made = o.count_made ∙ so_far.count_made;
      made = o.made;
      answers = λ i d less. ends_after g.S.Scene.told g.S.Scene.told (g.F.Folder.faults c.args.folder.now) (g.F.Folder.faults c.loop-next.folder) f 0 0 0 _ refl so_far.folder_later (omega arith) (o.answers i d less);
      workers = λ less. o.workers;
      empty = o.empty;
      written = subst (λ (n : ℕ). AreBlocksWritten told t.cat t.id t.plan w (cut_of w).by_columns c.copy_round.new.target n) (sym all)
          (subst (λ (x : Option Files). AreBlocksWritten x t.cat t.id t.plan w (cut_of w).by_columns c.copy_round.new.target (top_of (cut_of w).blocks rows c.loop-next.first (length c.loop-next.crew.made.items))) names o.written);
      name = o.name ∙ so_far.name;
      names = names;
      folder_later = omega (arith, so_far.folder_later, o.later);
      still = λ quiet. c.in_ok-told-2.ensures.quiet quiet ∙ so_far.still quiet;
      out_later = omega (arith, so_far.out_later, put.cause.out_later);
      told = c.in_ok-told-2.ensures.within;
      text = c.in_ok-told-2.ensures.told (g.O.Sink.got c.args.out.now) so_far.text;
    }

pub loop-next-smaller : goal.loop-next-smaller
loop-next-smaller g c =
    let same : c.len-count.result ≡ length c.args.crew.now.workers.items = omega (arith, c.len-count.ensures, c.args.crew.now.workers.ok.0) in
    let w = c.args.task.now.packing in
    let rows = c.args.task.now.rows in
    let extent = c.extent_of-height.ensures.extent in
    let count = length c.args.crew.now.workers.items in
    let end = end_is (cut_of w).blocks rows c.loop-next.next _ count c.end_of-next-in-loop-next.result c.end_of-next-in-loop-next.ensures.end same in
    let more = top_more (cut_of w).blocks rows c.loop-next.next count (omega (arith, c.loop-next-test.true, extent)) c.requires.task.some_rows c.requires.some in
    omega (arith, more, end, c.loop-next-test.true, extent)

pub write_all-requires-clause-few : goal.write_all-requires-clause-few
write_all-requires-clause-few g c κs within = (let n = ap length c.as_mut_slice-made.ensures.value in omega (arith, n, c.requires.few, c.loop-next.invariant.count_made))

pub write_all-requires-clause-first : goal.write_all-requires-clause-first
write_all-requires-clause-first g c κs within = c.loop-next.invariant.begins

pub write_all-requires-clause-told : goal.write_all-requires-clause-told
write_all-requires-clause-told g c κs within = c.requires.told ∙ sym c.loop-next.invariant.names

pub write_all-requires-clause-made : goal.write_all-requires-clause-made
write_all-requires-clause-made g c κs within =
    let t = c.args.task.now.translation.now in
    subst (WereMade g.S.Scene.told t.cat t.id t.plan c.args.task.now.packing c.args.task.now.rows c.loop-next.first) (sym c.as_mut_slice-made.ensures.value) c.loop-next.invariant.made

pub write_all-requires-clause-written : goal.write_all-requires-clause-written
write_all-requires-clause-written g c κs within =
    let t = c.args.task.now.translation.now in
    let w = c.args.task.now.packing in
    subst (λ (o : Option Files). AreBlocksWritten o t.cat t.id t.plan w (cut_of w).by_columns c.loop-next.target c.loop-next.first) (sym c.loop-next.invariant.names) c.loop-next.invariant.written

pub returns-in_err-write_all-clause-err : goal.returns-in_err-write_all-clause-err
returns-in_err-write_all-clause-err g c =
    subst (λ (r : Result (Unit {0}) Fault). OnErr r (GetsPart (spoken c.args.task.now.quiet progress) (g.O.Sink.got c.args.out.now) (g.O.Sink.got c.loop-next.out))) (sym (err_is c.from_residual-in_err-write_all.result c.in_err-write_all.field-0.0 c.from_residual-in_err-write_all.ensures))
    (told_so_far c.args.task.now.quiet progress c.loop-next.told (g.O.Sink.got c.args.out.now) (g.O.Sink.got c.loop-next.out) c.loop-next.invariant.text)

pub returns-in_err-write_all-clause-ends : goal.returns-in_err-write_all-clause-ends
returns-in_err-write_all-clause-ends g c =
    let told = g.F.Folder.names c.args.folder.now in
    let so_far = c.loop-next.invariant in
    let x = c.in_err-write_all.field-0.0 in
    let f = g.F.Folder.faults c.args.folder.now in
    let o = g.O.Sink.faults c.loop-next.out in
    ends_so told _ _ _ _ x c.from_residual-in_err-write_all.result (err_is c.from_residual-in_err-write_all.result x c.from_residual-in_err-write_all.ensures)
    (ends_after told (g.F.Folder.names c.loop-next.folder) f f (g.F.Folder.faults c.write_all.new.folder) (g.O.Sink.faults c.args.out.now) o o (Err x) so_far.names (omega arith) so_far.out_later
    (ends_beside (g.F.Folder.names c.loop-next.folder) f (g.F.Folder.faults c.write_all.new.folder) o (Err x)
    (c.in_err-write_all.ensures.ends f so_far.folder_later (subst (λ (l : List Made). MayTell g.S.Scene.told f (g.F.Folder.faults c.loop-next.folder) l) (sym c.as_mut_slice-made.ensures.value) so_far.answers))))

pub returns-in_err-write_all-clause-changed : goal.returns-in_err-write_all-clause-changed
returns-in_err-write_all-clause-changed g c =
    let cat = c.args.task.now.translation.now.cat in
    let x = c.in_err-write_all.field-0.0 in
    handed_on (TellsChange cat) x c.from_residual-in_err-write_all.result c.from_residual-in_err-write_all.ensures c.in_err-write_all.ensures.changed

pub returns-in_err-tell-clause-err : goal.returns-in_err-tell-clause-err
returns-in_err-tell-clause-err g c =
    subst (λ (r : Result (Unit {0}) Fault). OnErr r (GetsPart (spoken c.args.task.now.quiet progress) (g.O.Sink.got c.args.out.now) (g.O.Sink.got c.tell-2.new.out))) (sym (err_is c.from_residual-in_err-tell.result c.in_err-tell.field-0.0 c.from_residual-in_err-tell.ensures))
    (c.in_err-tell.ensures.told (g.O.Sink.got c.args.out.now) c.loop-next.invariant.text)

pub returns-in_err-tell-clause-ends : goal.returns-in_err-tell-clause-ends
returns-in_err-tell-clause-ends g c =
    let told = g.F.Folder.names c.args.folder.now in
    let so_far = c.loop-next.invariant in
    let x = c.in_err-tell.field-0.0 in
    let f = g.F.Folder.faults c.write_all.new.folder in
    ends_so told _ _ _ _ x c.from_residual-in_err-tell.result (err_is c.from_residual-in_err-tell.result x c.from_residual-in_err-tell.ensures)
    (ends_after told told (g.F.Folder.faults c.args.folder.now) f f (g.O.Sink.faults c.args.out.now) (g.O.Sink.faults c.loop-next.out) (g.O.Sink.faults c.tell-2.new.out) (Err x) refl
    (omega (arith, so_far.folder_later, c.in_ok-write_all.ensures.later)) so_far.out_later (c.in_err-tell.ensures.ends told f))

pub returns-in_err-tell-clause-changed : goal.returns-in_err-tell-clause-changed
returns-in_err-tell-clause-changed g c =
    let cat = c.args.task.now.translation.now.cat in
    let x = c.in_err-tell.field-0.0 in
    handed_on (TellsChange cat) x c.from_residual-in_err-tell.result c.from_residual-in_err-tell.ensures (out_tells cat x c.in_err-tell.ensures.faults)

pub returns-clause-filled : goal.returns-clause-filled
returns-clause-filled g c =
    let t = c.args.task.now.translation.now in
    let w = c.args.task.now.packing in
    let rows = c.args.task.now.rows in
    let told = g.F.Folder.names c.args.folder.now in
    let so_far = c.loop-next.invariant in
    let n = ap length c.as_mut_slice-made.ensures.value in
    let whole : c.loop-next.next ≡ (cut_of w).blocks = omega (arith, so_far.below, c.loop-next-test.false, c.extent_of-height.ensures.extent) in
    let all : top_of (cut_of w).blocks rows c.loop-next.first (length c.as_mut_slice-made.result.now) ≡ (cut_of w).blocks = ap (top_of (cut_of w).blocks rows c.loop-next.first) (n ∙ so_far.count_made) ∙ (sym so_far.end ∙ whole) in
    let names : g.F.Folder.names c.write_all.new.folder ≡ told = c.in_ok-write_all.ensures.names ∙ so_far.names in
    subst (λ (o : Option Files). IsFilled o t.cat t.id t.plan c.write_all.new.target t.plan.size.h t.plan.size.h 0) (sym names)
    (blocks_end told t.cat t.id t.plan w c.rules.ensures.kept c.requires.task.output c.requires.task.apart (cut_of w).by_columns refl c.write_all.new.target
    (subst (λ (k : ℕ). AreBlocksWritten told t.cat t.id t.plan w (cut_of w).by_columns c.write_all.new.target k) all
    (subst (λ (o : Option Files). AreBlocksWritten o t.cat t.id t.plan w (cut_of w).by_columns c.write_all.new.target (top_of (cut_of w).blocks rows c.loop-next.first (length c.as_mut_slice-made.result.now))) names c.in_ok-write_all.ensures.written)))

pub returns-clause-ok : goal.returns-clause-ok
returns-clause-ok g c =
    let before = g.O.Sink.got c.args.out.now in
    subst (λ (n : ℕ). Gets (spoken c.args.task.now.quiet (take n progress)) before (g.O.Sink.got c.tell-2.new.out)) (c.in_ok-tell.ensures.whole refl)
    (c.in_ok-tell.ensures.told before c.loop-next.invariant.text)

pub returns-clause-ends : goal.returns-clause-ends
returns-clause-ends g c =
    let told = g.F.Folder.names c.args.folder.now in
    let so_far = c.loop-next.invariant in
    let put = c.in_ok-tell.ensures.ends told (g.F.Folder.faults c.write_all.new.folder) in
    ends_ok tt told _ _ _ _ (omega (arith, so_far.folder_later, c.in_ok-write_all.ensures.later)) (omega (arith, so_far.out_later, put.cause.out_later))
