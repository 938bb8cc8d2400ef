use Rattle.std.proofs.Common.{◌+◌, refl, sym, length, subst}
use Rattle.band_blocks.specs.Blocks.{IsPacked, block_view}
use Rattle.band_blocks.proofs.Cells.{run_copied, run_typed}
use Rattle.band_blocks.proofs.packed.Packed.copy_run.Goals as goal

pub returns-clause-samples : goal.returns-clause-samples
returns-clause-samples g c =
    let is = rw c.deref.ensures.value at c.copy_cells.ensures in
    run_copied g.T.Cell.value c.self.inside.cells.items c.args.self.now c.args.at (c.args.at + length c.args.out.now) (length c.args.out.now) c.copy_cells.new.out (sym c.self.view_is) refl is

pub returns-clause-range : goal.returns-clause-range
returns-clause-range g c =
    let is = rw c.deref.ensures.value at c.copy_cells.ensures in
    run_typed g.T.Cell.kind c.args.self.now c.args.at (length c.args.out.now) c.copy_cells.new.out (subst (λ l. IsPacked (block_view g.T.Cell.kind l)) c.self.view_is c.self.invariant)
    (run_copied g.T.Cell.value c.self.inside.cells.items c.args.self.now c.args.at (c.args.at + length c.args.out.now) (length c.args.out.now) c.copy_cells.new.out (sym c.self.view_is) refl is)
