use Rattle.std.proofs.Common.{◌≡◌, ◌*◌, true, false, ap, sym, ◌∙◌, length, arith}
use Rattle.hgt_tiles.specs.Samples.{row_bytes}
use Rattle.esri_hdr.specs.Head.{sample_len}
use Rattle.write_back.specs.declared.forms.Writer.{Writer}
use Rattle.write_back.specs.Forms.{cut_of}
use Rattle.write_back.specs.Packed.{block_len}
use Rattle.write_back.specs.Seen.{writer_by}
use Rattle.write_back.proofs.Packs.{block_is, lines_packed, tile_packed}
use Rattle.band_blocks.specs.Blocks.{BlockView}
use Rattle.write_back.proofs.States.{in_range}
use Rattle.write_back.proofs.packing.Packing.pack.Goals as goal

pub write_run-requires-clause-range : goal.write_run-requires-clause-range
write_run-requires-clause-range c = rw c.requires.kind (in_range c.args.self.now c.args.samples.now c.requires.range)

pub encode_run-requires-clause-bytes : goal.encode_run-requires-clause-bytes
encode_run-requires-clause-bytes c =
    let is = ap writer_by (sym c.in-Lines.is) ∙ c.self.view_is in
    c.requires.bytes ∙ ap block_len (sym is) ∙ ap (λ n. n * sample_len c.in-Lines.head.kind) (sym c.line_len.ensures.len)

pub encode_run-requires-clause-spots : goal.encode_run-requires-clause-spots
encode_run-requires-clause-spots c =
    let is = ap writer_by (sym c.in-Lines.is) ∙ c.self.view_is in
    let spots = ap (λ (w : Writer). (cut_of w).spots) is in
    let set = block_is c.args.block.now c.write_run.new.self c.args.samples.now c.write_run.ensures.samples (omega (arith, c.requires.count, c.requires.size)) in
    omega (arith, c.line_len.ensures.len, spots, c.requires.size, ap length set)

pub encode_run-requires-clause-kind : goal.encode_run-requires-clause-kind
encode_run-requires-clause-kind c =
    let is = ap writer_by (sym c.in-Lines.is) ∙ c.self.view_is in
    ap (λ (b : BlockView). b.kind) c.write_run.ensures.samples ∙ c.requires.kind ∙ ap (λ (w : Writer). (cut_of w).kind) (sym is)

pub encode_items-requires-clause-kind : goal.encode_items-requires-clause-kind
encode_items-requires-clause-kind c =
    let is = ap writer_by (sym c.in-Tile.is) ∙ c.self.view_is in
    ap (λ (b : BlockView). b.kind) c.write_run.ensures.samples ∙ c.requires.kind ∙ ap (λ (w : Writer). (cut_of w).kind) (sym is)

pub encode_items-requires-clause-two : goal.encode_items-requires-clause-two
encode_items-requires-clause-two c =
    let is = ap writer_by (sym c.in-Tile.is) ∙ c.self.view_is in
    let set = block_is c.args.block.now c.write_run.new.self c.args.samples.now c.write_run.ensures.samples (omega (arith, c.requires.count, c.requires.size)) in
    c.requires.bytes ∙ ap block_len (sym is) ∙ ap (λ n. 2 * n) (ap (λ (w : Writer). (cut_of w).spots) is ∙ sym c.requires.size ∙ sym (ap length set))

pub returns-in-Lines-clause-packed : goal.returns-in-Lines-clause-packed
returns-in-Lines-clause-packed c =
    let is = ap writer_by (sym c.in-Lines.is) ∙ c.self.view_is in
    let set = block_is c.args.block.now c.write_run.new.self c.args.samples.now c.write_run.ensures.samples (omega (arith, c.requires.count, c.requires.size)) in
    lines_packed c.args.self.now _ c.encode_run.new.bytes c.write_run.new.self.samples c.args.samples.now c.line_len.result is c.line_len.ensures.len c.encode_run.ensures.samples set c.requires.size

pub returns-in-Tile-clause-packed : goal.returns-in-Tile-clause-packed
returns-in-Tile-clause-packed c =
    let is = ap writer_by (sym c.in-Tile.is) ∙ c.self.view_is in
    let set = block_is c.args.block.now c.write_run.new.self c.args.samples.now c.write_run.ensures.samples (omega (arith, c.requires.count, c.requires.size)) in
    tile_packed c.args.self.now _ c.encode_items.new.bytes c.args.samples.now is (c.encode_items.ensures.bytes ∙ ap row_bytes set) c.requires.size c.requires.range

pub returns-in-Lines-clause-count : goal.returns-in-Lines-clause-count
returns-in-Lines-clause-count c =
    let set = block_is c.args.block.now c.write_run.new.self c.args.samples.now c.write_run.ensures.samples (omega (arith, c.requires.count, c.requires.size)) in
    ap length set ∙ c.requires.size ∙ sym c.requires.count

pub returns-in-Tile-clause-count : goal.returns-in-Tile-clause-count
returns-in-Tile-clause-count c =
    let set = block_is c.args.block.now c.write_run.new.self c.args.samples.now c.write_run.ensures.samples (omega (arith, c.requires.count, c.requires.size)) in
    ap length set ∙ c.requires.size ∙ sym c.requires.count

pub returns-in-Lines-clause-kind : goal.returns-in-Lines-clause-kind
returns-in-Lines-clause-kind c = ap (λ (b : BlockView). b.kind) c.write_run.ensures.samples

pub returns-in-Tile-clause-kind : goal.returns-in-Tile-clause-kind
returns-in-Tile-clause-kind c = ap (λ (b : BlockView). b.kind) c.write_run.ensures.samples

pub unreachable-requires : goal.unreachable-requires
unreachable-requires c =
    let columns = ap (λ (w : Writer). (cut_of w).by_columns) (ap writer_by (sym c.in-Columns.is) ∙ c.self.view_is) in
    let clash : true ≡ false = columns ∙ c.requires.lined.rows in
    cc
