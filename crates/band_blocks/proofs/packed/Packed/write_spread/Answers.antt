use Rattle.std.proofs.Common.{◌≡◌, sym, refl, subst, map, length, arith}
use Rattle.band_blocks.specs.Blocks.{block_view}
use Rattle.band_blocks.specs.Spread.{IsSpread}
use Rattle.band_blocks.proofs.Scatter.{scatter_packed, scatter_shown}
use Rattle.band_blocks.proofs.packed.Packed.write_spread.Goals as goal

pub invariant_of-self : goal.invariant_of-self
invariant_of-self g c =
    let len = c.self.inside.cells.ok in
    let same = c.scatter_cells.auto.cells in
    let all = c.deref_mut.ensures.len in
    let spread : IsSpread c.args.samples.now 0 (length c.args.samples.now) c.args.at c.args.stride (map g.T.Cell.value c.self.inside.cells.items) (map g.T.Cell.value c.scatter_cells.new.cells) =
    subst (λ l. IsSpread c.args.samples.now 0 (length c.args.samples.now) c.args.at c.args.stride (map g.T.Cell.value l) (map g.T.Cell.value c.scatter_cells.new.cells)) c.deref_mut.ensures.value c.scatter_cells.ensures in
    scatter_packed g.T.Cell.value g.T.Cell.kind (block_view g.T.Cell.kind (map g.T.Cell.value c.self.inside.cells.items)) c.self.inside.cells.items c.scatter_cells.new.cells c.self.inside.cells.len c.args.at c.args.stride c.args.samples.now refl c.self.invariant (omega arith) (omega arith) c.requires.range spread

pub returns : goal.returns
returns g c =
    let len = c.self.inside.cells.ok in
    let same = c.scatter_cells.auto.cells in
    let all = c.deref_mut.ensures.len in
    let spread : IsSpread c.args.samples.now 0 (length c.args.samples.now) c.args.at c.args.stride (map g.T.Cell.value c.self.inside.cells.items) (map g.T.Cell.value c.scatter_cells.new.cells) =
    subst (λ l. IsSpread c.args.samples.now 0 (length c.args.samples.now) c.args.at c.args.stride (map g.T.Cell.value l) (map g.T.Cell.value c.scatter_cells.new.cells)) c.deref_mut.ensures.value c.scatter_cells.ensures in
    record { spread = scatter_shown g.T.Cell.value c.args.self.now c.self.inside.cells.items c.scatter_cells.new.cells c.self.inside.cells.len c.args.at c.args.stride c.args.samples.now (sym c.self.view_is) (omega arith) (omega arith) spread }
