use Rattle.std.proofs.Common.{◌≡◌, ap, ◌∙◌, sym, refl, ℤ, List, map, arith}
use Rattle.std.specs.List.{range_with_len}
use Rattle.interleaved_raw.specs.Raw.{strided_at as sample_of}
use Rattle.band_blocks.specs.Blocks.{block_view, written}
use Rattle.band_blocks.proofs.Cells.{shown_list, written_packed}
use Rattle.band_blocks.proofs.packed.Packed.decode.Goals as goal

pub invariant_of-self : goal.invariant_of-self
invariant_of-self g c =
    let len = c.self.inside.cells.ok in
    let same = c.decode_cells.auto.cells in
    let all = c.deref_mut.ensures.len in
    let samples : List ℤ = map (sample_of c.args.head.now c.args.bytes.now) (range_with_len 0 c.args.count) in
    let shows : map g.T.Cell.value c.decode_cells.new.cells ≡ written c.args.at samples (map g.T.Cell.value c.self.inside.cells.items) = c.decode_cells.ensures.samples ∙ ap (λ l. written c.args.at samples (map g.T.Cell.value l)) c.deref_mut.ensures.value in
    written_packed g.T.Cell.value g.T.Cell.kind (block_view g.T.Cell.kind (map g.T.Cell.value c.self.inside.cells.items)) c.self.inside.cells.items c.decode_cells.new.cells c.self.inside.cells.len c.args.at samples refl c.self.invariant (omega arith) (omega arith) c.decode_cells.ensures.range shows

pub returns : goal.returns
returns g c =
    let len = c.self.inside.cells.ok in
    let same = c.decode_cells.auto.cells in
    let all = c.deref_mut.ensures.len in
    let samples : List ℤ = map (sample_of c.args.head.now c.args.bytes.now) (range_with_len 0 c.args.count) in
    let shows : map g.T.Cell.value c.decode_cells.new.cells ≡ written c.args.at samples (map g.T.Cell.value c.self.inside.cells.items) = c.decode_cells.ensures.samples ∙ ap (λ l. written c.args.at samples (map g.T.Cell.value l)) c.deref_mut.ensures.value in
    record { samples = shown_list g.T.Cell.value c.args.self.now c.self.inside.cells.items c.decode_cells.new.cells c.self.inside.cells.len (written c.args.at samples) (sym c.self.view_is) (omega arith) (omega arith) shows }
