use Rattle.std.proofs.Common.{ap, length, subst, sym, ◌∙◌, arith}
use Rattle.band_blocks.specs.Blocks.{BlockView}
use Rattle.write_back.specs.Forms.{AreHeld}
use Rattle.write_back.proofs.Packs.{block_is}
use Rattle.write_back.proofs.States.{in_range}
use Rattle.target_tests.proofs.packed.pack_held.Goals as goal

pub write_run-requires-clause-range : goal.write_run-requires-clause-range
write_run-requires-clause-range c = rw c.requires.kind (in_range c.args.packing.now c.args.samples.now c.requires.range)

pub pack_column-requires-clause-kind : goal.pack_column-requires-clause-kind
pack_column-requires-clause-kind c = ap (λ (b : BlockView). b.kind) c.write_run.ensures.samples ∙ c.requires.kind

pub pack_column-requires-clause-count : goal.pack_column-requires-clause-count
pack_column-requires-clause-count c =
    let set = block_is c.args.block.now c.write_run.new.self c.args.samples.now c.write_run.ensures.samples (omega (arith, c.requires.count, c.requires.size)) in
    ap length set ∙ c.requires.size

pub pack_column-requires-clause-range : goal.pack_column-requires-clause-range
pack_column-requires-clause-range c =
    let set = block_is c.args.block.now c.write_run.new.self c.args.samples.now c.write_run.ensures.samples (omega (arith, c.requires.count, c.requires.size)) in
    subst (AreHeld c.args.packing.now) (sym set) c.requires.range
