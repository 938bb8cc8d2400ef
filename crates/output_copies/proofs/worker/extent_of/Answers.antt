use Rattle.std.proofs.Common.{arith, refl}
use Rattle.write_back.specs.Forms.{cut_of}
use Rattle.output_copies.proofs.Packs.{some_blocks}
use Rattle.output_copies.proofs.worker.extent_of.Goals as goal

pub returns-clause-some : goal.returns-clause-some
returns-clause-some g c =
    let w = c.args.task.now.packing in
    let some = some_blocks c.args.task.now.translation.now.plan w c.rules.ensures.kept c.requires.task.output c.requires.task.apart (cut_of w).by_columns refl in
    omega (arith, some, c.blocks-2.ensures.blocks)
