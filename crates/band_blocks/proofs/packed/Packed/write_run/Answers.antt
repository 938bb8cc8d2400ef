use Rattle.std.proofs.Common.{◌≡◌, ap, ◌∙◌, sym, refl, map, arith}
use Rattle.band_blocks.specs.Blocks.{block_view, written}
use Rattle.band_blocks.proofs.Cells.{shown_list, written_packed}
use Rattle.band_blocks.proofs.packed.Packed.write_run.Goals as goal

pub invariant_of-self : goal.invariant_of-self
invariant_of-self g c =
    let len = c.self.inside.cells.ok in
    let same = c.write_cells.auto.cells in
    let all = c.deref_mut.ensures.len in
    let shows : map g.T.Cell.value c.write_cells.new.cells ≡ written c.args.at c.args.samples.now (map g.T.Cell.value c.self.inside.cells.items) = c.write_cells.ensures ∙ ap (λ l. written c.args.at c.args.samples.now (map g.T.Cell.value l)) c.deref_mut.ensures.value in
    written_packed g.T.Cell.value g.T.Cell.kind (block_view g.T.Cell.kind (map g.T.Cell.value c.self.inside.cells.items)) c.self.inside.cells.items c.write_cells.new.cells c.self.inside.cells.len c.args.at c.args.samples.now refl c.self.invariant (omega arith) (omega arith) c.requires.range shows

pub returns : goal.returns
returns g c =
    let len = c.self.inside.cells.ok in
    let same = c.write_cells.auto.cells in
    let all = c.deref_mut.ensures.len in
    let shows : map g.T.Cell.value c.write_cells.new.cells ≡ written c.args.at c.args.samples.now (map g.T.Cell.value c.self.inside.cells.items) = c.write_cells.ensures ∙ ap (λ l. written c.args.at c.args.samples.now (map g.T.Cell.value l)) c.deref_mut.ensures.value in
    record { samples = shown_list g.T.Cell.value c.args.self.now c.self.inside.cells.items c.write_cells.new.cells c.self.inside.cells.len (written c.args.at c.args.samples.now) (sym c.self.view_is) (omega arith) (omega arith) shows }
