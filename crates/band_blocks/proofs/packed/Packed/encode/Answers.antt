use Rattle.std.proofs.Common.{◌+◌, refl, sym, subst, ap}
use Rattle.band_blocks.specs.Blocks.{IsPacked, block_view}
use Rattle.band_blocks.proofs.Cells.{cells_written, run_written}
use Rattle.band_blocks.proofs.packed.Packed.encode.Goals as goal

pub returns-clause-bytes : goal.returns-clause-bytes
returns-clause-bytes g c =
    let is = rw c.deref.ensures.value at c.encode_cells.ensures.bytes in
    cells_written g.T.Cell.value c.self.inside.cells.items (block_view g.T.Cell.kind c.args.self.now) g.T.Cell.kind c.args.head.now c.args.at (c.args.at + c.args.count) c.args.count c.encode_cells.new.bytes (ap (block_view g.T.Cell.kind) (sym c.self.view_is)) refl c.requires.within is

pub returns-clause-samples : goal.returns-clause-samples
returns-clause-samples g c =
    let is = rw c.deref.ensures.value at c.encode_cells.ensures.bytes in
    let bytes = cells_written g.T.Cell.value c.self.inside.cells.items (block_view g.T.Cell.kind c.args.self.now) g.T.Cell.kind c.args.head.now c.args.at (c.args.at + c.args.count) c.args.count c.encode_cells.new.bytes (ap (block_view g.T.Cell.kind) (sym c.self.view_is)) refl c.requires.within is in
    run_written c.args.head.now (block_view g.T.Cell.kind c.args.self.now) c.args.at c.args.count c.encode_cells.new.bytes (subst (λ l. IsPacked (block_view g.T.Cell.kind l)) c.self.view_is c.self.invariant) c.requires.kind c.requires.within bytes
