use Rattle.std.proofs.Common.{sym, map, arith}
use Rattle.geotransform.specs.Types.{clamp}
use Rattle.band_blocks.proofs.Cells.{clamped_packed, shown_list}
use Rattle.band_blocks.proofs.packed.Packed.clamp_all.Goals as goal

pub invariant_of-self : goal.invariant_of-self
invariant_of-self g c =
    let len = c.self.inside.cells.ok in
    let same = c.clamp_cells.auto.cells in
    let all = c.deref_mut.ensures.len in
    clamped_packed g.T.Cell.value g.T.Cell.kind c.self.inside.cells.items c.clamp_cells.new.cells c.self.inside.cells.len c.args.samples.now c.self.invariant (omega arith) (omega arith) c.clamp_cells.ensures

pub returns : goal.returns
returns g c =
    let len = c.self.inside.cells.ok in
    let same = c.clamp_cells.auto.cells in
    let all = c.deref_mut.ensures.len in
    record { samples = shown_list g.T.Cell.value c.args.self.now c.self.inside.cells.items c.clamp_cells.new.cells c.self.inside.cells.len (λ _. map (clamp g.T.Cell.kind) c.args.samples.now) (sym c.self.view_is) (omega arith) (omega arith) c.clamp_cells.ensures }
