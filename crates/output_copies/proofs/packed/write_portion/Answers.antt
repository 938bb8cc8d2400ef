use Rattle.std.proofs.Common.{◌≡◌, ◌∙◌, ◌+◌, arith, sym, subst, ℕ, Option}
use Rattle.outside.specs.Outside.{Files}
use Rattle.write_back.specs.Forms.{cut_of}
use Rattle.output_copies.specs.Copying.{TellsChange}
use Rattle.output_copies.specs.Packed.{AreBlocksWritten, AreMade}
use Rattle.output_copies.proofs.Changes.{handed_on}
use Rattle.output_copies.proofs.Packs.{made_line}
use Rattle.output_copies.proofs.packed.write_portion.Goals as goal

pub write_block-requires-clause-made : goal.write_block-requires-clause-made
write_block-requires-clause-made g c κs within =
    let t = c.args.task.now.translation.now in
    subst (λ (o : Option Files). AreMade o t.cat t.id t.plan c.args.task.now.packing c.args.portion.top c.args.packed.now (c.loop-block.block + 1) (c.loop-block.block + 1) 0) (sym c.loop-block.invariant.names)
    (made_line (g.F.Folder.names c.args.folder.now) t.cat t.id t.plan c.args.task.now.packing c.args.portion.top c.args.packed.now c.args.portion.end c.requires.made c.loop-block.block c.loop-block-test.true)

pub write_block-requires-clause-written : goal.write_block-requires-clause-written
write_block-requires-clause-written g c κs within =
    let t = c.args.task.now.translation.now in
    let w = c.args.task.now.packing in
    subst (λ (o : Option Files). AreBlocksWritten o t.cat t.id t.plan w (cut_of w).by_columns c.loop-block.target c.loop-block.block) (sym c.loop-block.invariant.names) c.loop-block.invariant.written

pub loop-block-preserved : goal.loop-block-preserved
loop-block-preserved g c =
    let t = c.args.task.now.translation.now in
    let w = c.args.task.now.packing in
    let before = c.loop-block.invariant in
    let o = c.in_ok-write_block.ensures in
    record {
      written = subst (λ (n : Option Files). AreBlocksWritten n t.cat t.id t.plan w (cut_of w).by_columns c.write_block.new.target (c.loop-block.block + 1)) (o.names ∙ before.names) o.written;
      empty = o.empty;
      name = o.name ∙ before.name;
      names = o.names ∙ before.names;
      later = (let more = o.ends.cause.folder_later in omega (arith, before.later, more));
    }

pub returns-clause-written : goal.returns-clause-written
returns-clause-written g c =
    let t = c.args.task.now.translation.now in
    let w = c.args.task.now.packing in
    let before = c.loop-block.invariant in
    let all : c.loop-block.block ≡ c.args.portion.end = omega (arith, c.requires.order, c.loop-block-test.false, c.loop-block.auto.block-end) in
    subst (λ (o : Option Files). AreBlocksWritten o t.cat t.id t.plan w (cut_of w).by_columns c.loop-block.target c.args.portion.end) (sym before.names)
    (subst (λ (n : ℕ). AreBlocksWritten (g.F.Folder.names c.args.folder.now) t.cat t.id t.plan w (cut_of w).by_columns c.loop-block.target n) all before.written)

pub returns-in_err-write_block-clause-changed : goal.returns-in_err-write_block-clause-changed
returns-in_err-write_block-clause-changed g c =
    let cat = c.args.task.now.translation.now.cat in
    let x = c.in_err-write_block.field-0.0 in
    handed_on (TellsChange cat) x c.from_residual.result c.from_residual.ensures c.in_err-write_block.ensures.changed
