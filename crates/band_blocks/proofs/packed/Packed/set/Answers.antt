use Rattle.std.proofs.Common.{◌≡◌, ◌∙◌, ap, sym, refl, map, rules, arith, slice_set, to_z, of_z}
use mir.Syntax.{w128}
use Rattle.band_blocks.specs.Blocks.{block_view}
use Rattle.band_blocks.proofs.Cells.{set_packed, shown_list}
use Rattle.band_blocks.proofs.packed.Packed.set.Goals as goal

pub invariant_of-self : goal.invariant_of-self
invariant_of-self g c =
    let len = c.self.inside.cells.ok in
    let same = c.set_cell.auto.cells in
    let all = c.deref_mut.ensures.len in
    let e : to_z w128 (of_z w128 c.args.value) ≡ c.args.value = search rules in
    let shows : map g.T.Cell.value c.set_cell.new.cells ≡ slice_set (map g.T.Cell.value c.self.inside.cells.items) c.args.at c.args.value = c.set_cell.ensures ∙ ap (λ v. slice_set (map g.T.Cell.value c.deref_mut.result.now) c.args.at v) e ∙ ap (λ l. slice_set (map g.T.Cell.value l) c.args.at c.args.value) c.deref_mut.ensures.value in
    set_packed g.T.Cell.value g.T.Cell.kind (block_view g.T.Cell.kind (map g.T.Cell.value c.self.inside.cells.items)) c.self.inside.cells.items c.set_cell.new.cells c.self.inside.cells.len c.args.at c.args.value refl c.self.invariant (omega arith) (omega arith) c.requires.range shows

pub returns : goal.returns
returns g c =
    let len = c.self.inside.cells.ok in
    let same = c.set_cell.auto.cells in
    let all = c.deref_mut.ensures.len in
    let e : to_z w128 (of_z w128 c.args.value) ≡ c.args.value = search rules in
    let shows : map g.T.Cell.value c.set_cell.new.cells ≡ slice_set (map g.T.Cell.value c.self.inside.cells.items) c.args.at c.args.value = c.set_cell.ensures ∙ ap (λ v. slice_set (map g.T.Cell.value c.deref_mut.result.now) c.args.at v) e ∙ ap (λ l. slice_set (map g.T.Cell.value l) c.args.at c.args.value) c.deref_mut.ensures.value in
    record { sample = shown_list g.T.Cell.value c.args.self.now c.self.inside.cells.items c.set_cell.new.cells c.self.inside.cells.len (λ l. slice_set l c.args.at c.args.value) (sym c.self.view_is) (omega arith) (omega arith) shows }
