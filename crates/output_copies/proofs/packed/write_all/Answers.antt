use Rattle.std.proofs.Common.{◌≡◌, ◌∙◌, ◌+◌, ap, arith, refl, sym, subst, length, ℕ, Err, Option}
use Rattle.std.specs.Prelude.{slice_set}
use Rattle.outside.specs.Outside.{Files}
use Rattle.write_back.specs.Forms.{cut_of}
use Rattle.output_copies.specs.Copying.{MayEnd, TellsChange}
use Rattle.output_copies.specs.Packed.{top_of, AreBlocksWritten}
use Rattle.output_copies.proofs.Changes.{handed_on}
use Rattle.output_copies.proofs.Ends.{ends_later, ends_ok, ends_so, err_is}
use Rattle.output_copies.proofs.Handed.{answer_kept, made_kept, written_more, written_ready}
use Rattle.output_copies.proofs.Hands.{top_first}
use Rattle.output_copies.proofs.packed.write_all.Goals as goal

pub loop-at-init : goal.loop-at-init
loop-at-init g c =
    let t = c.args.task.now.translation.now in
    let w = c.args.task.now.packing in
    record {
      blocks = subst (λ (n : ℕ). AreBlocksWritten (g.F.Folder.names c.args.folder.now) t.cat t.id t.plan w (cut_of w).by_columns c.args.target.now n) (sym (top_first (cut_of w).blocks c.args.task.now.rows c.args.first c.requires.first)) c.requires.written;
      empty = c.requires.empty;
      written = record { count = refl; ready = λ i d early less. absurd (omega arith); rest = λ i d behind. refl };
      name = refl;
      names = refl;
      later = omega arith;
    }

-- the portion of a worker, by its number
top_is : (extent : ℕ) (blocks rows first at top : ℕ) → top ≡ top_of extent rows first at → extent ≡ blocks → top ≡ top_of blocks rows first at
top_is extent blocks rows first at top is same = is ∙ ap (λ n. top_of n rows first at) same

pub write_made-requires-clause-told : goal.write_made-requires-clause-told
write_made-requires-clause-told g c κs within = c.requires.told ∙ sym c.loop-at.invariant.names

pub write_made-requires-clause-end : goal.write_made-requires-clause-end
write_made-requires-clause-end g c κs within = omega (arith, c.portion_of-portion.ensures.within, c.extent_of-extent.ensures.extent)

pub write_made-requires-clause-made : goal.write_made-requires-clause-made
write_made-requires-clause-made g c κs within =
    let t = c.args.task.now.translation.now in
    let w = c.args.task.now.packing in
    let rows = c.args.task.now.rows in
    let same = c.extent_of-extent.ensures.extent in
    let top = top_is c.extent_of-extent.result (cut_of w).blocks rows c.args.first c.loop-at.at c.portion_of-portion.result.top c.portion_of-portion.ensures.top same in
    let end = top_is c.extent_of-extent.result (cut_of w).blocks rows c.args.first (c.loop-at.at + 1) c.portion_of-portion.result.end c.portion_of-portion.ensures.end same in
    made_kept g.S.Scene.told t.cat t.id t.plan w rows c.args.first c.loop-at.at c.portion_of-portion.result.top c.portion_of-portion.result.end c.args.made.now c.loop-at.made c.requires.made c.loop-at.invariant.written (omega (arith, c.loop-at.invariant.written.count, c.loop-at-test.true)) top end _

pub write_made-requires-clause-written : goal.write_made-requires-clause-written
write_made-requires-clause-written g c κs within =
    let t = c.args.task.now.translation.now in
    let w = c.args.task.now.packing in
    let so_far = c.loop-at.invariant in
    let top = top_is c.extent_of-extent.result (cut_of w).blocks c.args.task.now.rows c.args.first c.loop-at.at c.portion_of-portion.result.top c.portion_of-portion.ensures.top c.extent_of-extent.ensures.extent in
    subst (λ (o : Option Files). AreBlocksWritten o t.cat t.id t.plan w (cut_of w).by_columns c.loop-at.target c.portion_of-portion.result.top) (sym so_far.names)
    (subst (λ (n : ℕ). AreBlocksWritten (g.F.Folder.names c.args.folder.now) t.cat t.id t.plan w (cut_of w).by_columns c.loop-at.target n) (sym top) so_far.blocks)

pub returns-in_err-write_made-clause-ends : goal.returns-in_err-write_made-clause-ends
returns-in_err-write_made-clause-ends g c = λ before early answers.
    let t = c.args.task.now.translation.now in
    let so_far = c.loop-at.invariant in
    let told = g.F.Folder.names c.args.folder.now in
    let x = c.in_err-write_made.field-0.0 in
    ends_so told before (g.F.Folder.faults c.write_made.new.folder) 0 0 x c.from_residual.result (err_is c.from_residual.result x c.from_residual.ensures)
    (subst (λ (o : Option Files). MayEnd {T = Unit {0}} o before (g.F.Folder.faults c.write_made.new.folder) 0 0 (Err x)) so_far.names
    (c.in_err-write_made.ensures.ends before
    (ends_later g.S.Scene.told before (g.F.Folder.faults c.args.folder.now) (g.F.Folder.faults c.loop-at.folder) 0 0 _ so_far.later
    (answer_kept g.S.Scene.told t.cat t.id t.plan c.args.task.now.packing c.args.task.now.rows before (g.F.Folder.faults c.args.folder.now) c.loop-at.at c.args.made.now c.loop-at.made answers so_far.written (omega (arith, so_far.written.count, c.loop-at-test.true)) _))))

pub returns-clause-ends : goal.returns-clause-ends
returns-clause-ends g c = λ before early answers. ends_ok tt (g.F.Folder.names c.args.folder.now) before (g.F.Folder.faults c.loop-at.folder) 0 0 (omega (arith, early, c.loop-at.invariant.later)) (omega arith)

pub returns-clause-rooms : goal.returns-clause-rooms
returns-clause-rooms g c =
    let t = c.args.task.now.translation.now in
    written_ready g.S.Scene.told t.cat t.id t.plan c.args.task.now.packing c.args.task.now.rows c.args.first c.loop-at.at c.args.made.now c.loop-at.made c.requires.made c.loop-at.invariant.written

pub returns-in_err-write_made-clause-rooms : goal.returns-in_err-write_made-clause-rooms
returns-in_err-write_made-clause-rooms g c =
    let t = c.args.task.now.translation.now in
    written_ready g.S.Scene.told t.cat t.id t.plan c.args.task.now.packing c.args.task.now.rows c.args.first (c.loop-at.at + 1) c.args.made.now (slice_set c.loop-at.made c.loop-at.at c.write_made.new.made) c.requires.made
    (written_more g.S.Scene.told t.cat t.id t.plan c.args.task.now.packing c.args.task.now.rows c.loop-at.at c.args.made.now c.loop-at.made c.write_made.new.made (omega (arith, c.loop-at.invariant.written.count, c.loop-at-test.true)) c.write_made.ensures.room c.loop-at.invariant.written)

pub loop-at-preserved : goal.loop-at-preserved
loop-at-preserved g c =
    let t = c.args.task.now.translation.now in
    let w = c.args.task.now.packing in
    let so_far = c.loop-at.invariant in
    let o = c.in_ok-write_made.ensures in
    record {
      blocks = subst (λ (n : Option Files). AreBlocksWritten n t.cat t.id t.plan w (cut_of w).by_columns c.write_made.new.target (top_of (cut_of w).blocks c.args.task.now.rows c.args.first (c.loop-at.at + 1))) (o.names ∙ so_far.names)
          (subst (λ (n : ℕ). AreBlocksWritten (g.F.Folder.names c.write_made.new.folder) t.cat t.id t.plan w (cut_of w).by_columns c.write_made.new.target n)
          (top_is c.extent_of-extent.result (cut_of w).blocks c.args.task.now.rows c.args.first (c.loop-at.at + 1) c.portion_of-portion.result.end c.portion_of-portion.ensures.end c.extent_of-extent.ensures.extent) o.written);
      empty = o.empty;
      written = written_more g.S.Scene.told t.cat t.id t.plan c.args.task.now.packing c.args.task.now.rows c.loop-at.at c.args.made.now c.loop-at.made c.write_made.new.made (omega (arith, c.loop-at.invariant.written.count, c.loop-at-test.true)) o.room so_far.written;
      name = o.name ∙ so_far.name;
      names = o.names ∙ so_far.names;
      later = omega (arith, so_far.later, o.later);
    }

pub returns-clause-written : goal.returns-clause-written
returns-clause-written g c =
    let t = c.args.task.now.translation.now in
    let w = c.args.task.now.packing in
    let rows = c.args.task.now.rows in
    let so_far = c.loop-at.invariant in
    let all : c.loop-at.at ≡ length c.args.made.now = omega (arith, so_far.written.count, c.loop-at-test.false, c.loop-at.auto.at-end) in
    subst (λ (o : Option Files). AreBlocksWritten o t.cat t.id t.plan w (cut_of w).by_columns c.loop-at.target (top_of (cut_of w).blocks rows c.args.first (length c.args.made.now))) (sym so_far.names)
    (subst (λ (n : ℕ). AreBlocksWritten (g.F.Folder.names c.args.folder.now) t.cat t.id t.plan w (cut_of w).by_columns c.loop-at.target (top_of (cut_of w).blocks rows c.args.first n)) all so_far.blocks)

pub returns-in_err-write_made-clause-changed : goal.returns-in_err-write_made-clause-changed
returns-in_err-write_made-clause-changed g c =
    let cat = c.args.task.now.translation.now.cat in
    let x = c.in_err-write_made.field-0.0 in
    handed_on (TellsChange cat) x c.from_residual.result c.from_residual.ensures c.in_err-write_made.ensures.changed
