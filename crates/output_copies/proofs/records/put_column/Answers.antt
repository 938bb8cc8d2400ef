use Rattle.std.proofs.Common.{◌≡◌, ◌∙◌, ◌≤◌, ◌-◌, ◌*◌, ap, sym, subst, arith, length, ℕ}
use Rattle.std.proofs.Math.Nat.{mul_comm}
use Rattle.geotransform.specs.declared.types.PixelType.{PixelType}
use Rattle.band_blocks.specs.Blocks.{AreIn, BlockView}
use Rattle.write_back.proofs.States.{in_range}
use Rattle.output_copies.specs.Packed.{HasRows}
use Rattle.output_copies.proofs.Fronts.{column_front, column_held, long_written}
use Rattle.output_copies.proofs.Packs.{are_held, column_spots}
use Rattle.output_copies.proofs.records.put_column.Goals as goal

-- so many rows of a width fit into samples that have them
rows_fit : (n high wide size : ℕ) → n ≡ high → size ≡ wide * high → n * wide ≤ size
rows_fit n high wide size is long = let same = ap (λ k. k * wide) is in let turned = mul_comm high wide in omega (arith, same, turned, long)

pub gather-requires-clause-room : goal.gather-requires-clause-room
gather-requires-clause-room g c =
    rows_fit (length c.split_at_mut-run.result.0.now) (c.args.piece.end - c.args.piece.first) (c.args.piece.right - c.args.piece.left) (length c.args.samples.now) c.split_at_mut-run.ensures.front_len c.requires.read.long

pub write_run-requires-clause-within : goal.write_run-requires-clause-within
write_run-requires-clause-within g c =
    let t = c.args.task.now.translation.now in
    let spots = column_spots t.plan c.args.task.now.packing c.rules.ensures.kept c.requires.task.output c.requires.columns in
    let count = c.requires.block.count in
    let height = c.requires.piece.height in
    let order = c.requires.piece.lines in
    let low = c.split_at_mut-run.ensures.front_len in
    omega (arith, spots, count, height, order, low, c.gather.auto.run)

pub write_run-requires-clause-range : goal.write_run-requires-clause-range
write_run-requires-clause-range g c =
    let t = c.args.task.now.translation.now in
    let w = c.args.task.now.packing in
    let low = c.split_at_mut-run.ensures.front_len in
    let long : length c.gather.new.run ≡ c.args.piece.end - c.args.piece.first = c.gather.auto.run ∙ low in
    let held = column_held g.S.Scene.told t.cat t.id t.plan c.args.piece c.args.samples.now c.requires.read c.args.at c.requires.at c.gather.new.run long (subst (λ n. HasRows c.args.samples.now (c.args.piece.right - c.args.piece.left) c.args.at n c.gather.new.run) (sym c.gather.auto.run) c.gather.ensures.run) in
    subst (λ (k : PixelType). AreIn k c.gather.new.run) (sym c.requires.block.kind)
    (in_range w c.gather.new.run (are_held t.plan w c.rules.ensures.kept c.requires.task.output c.args.piece.band c.gather.new.run g.S.Scene.told t.cat t.id c.requires.piece.band held))

pub returns-clause-block : goal.returns-clause-block
returns-clause-block g c =
    let t = c.args.task.now.translation.now in
    let spots = column_spots t.plan c.args.task.now.packing c.rules.ensures.kept c.requires.task.output c.requires.columns in
    let count = c.requires.block.count in
    let height = c.requires.piece.height in
    let order = c.requires.piece.lines in
    let low = c.split_at_mut-run.ensures.front_len in
    let set = c.write_run.ensures.samples in
    record {
      kind = ap (λ (b : BlockView). b.kind) set ∙ c.requires.block.kind;
      count = ap (λ (b : BlockView). length b.samples) set ∙ long_written c.args.piece.first c.gather.new.run c.args.column.now.samples (omega (arith, spots, count, height, order, low, c.gather.auto.run)) ∙ count;
    }

pub returns-clause-front : goal.returns-clause-front
returns-clause-front g c =
    let t = c.args.task.now.translation.now in
    let spots = column_spots t.plan c.args.task.now.packing c.rules.ensures.kept c.requires.task.output c.requires.columns in
    let count = c.requires.block.count in
    let height = c.requires.piece.height in
    let low = c.split_at_mut-run.ensures.front_len in
    let long : length c.gather.new.run ≡ c.args.piece.end - c.args.piece.first = c.gather.auto.run ∙ low in
    column_front g.S.Scene.told t.cat t.id t.plan c.args.piece c.args.samples.now c.requires.read c.requires.band c.args.at c.requires.at c.gather.new.run c.args.column.now.samples c.write_run.new.self.samples long c.requires.piece.lines
    (subst (λ n. HasRows c.args.samples.now (c.args.piece.right - c.args.piece.left) c.args.at n c.gather.new.run) (sym c.gather.auto.run) c.gather.ensures.run)
    (ap (λ (b : BlockView). b.samples) c.write_run.ensures.samples) (omega (arith, spots, count, height)) c.requires.front
