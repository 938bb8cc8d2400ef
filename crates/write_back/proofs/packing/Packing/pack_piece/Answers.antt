use Rattle.std.proofs.Common.{◌≡◌, ◌+◌, ◌*◌, ◌≤◌, ℕ, true, false, ap, sym, subst, ◌∙◌, length, map, arith}
use Rattle.std.specs.List.{range_with_len}
use Rattle.esri_hdr.specs.Head.{Head, sample_len}
use Rattle.interleaved_raw.specs.Raw.{strided_at as sample_of}
use Rattle.band_blocks.specs.Blocks.{BlockView, samples_from, written}
use Rattle.write_back.specs.declared.forms.Writer.{Writer}
use Rattle.write_back.specs.Forms.{cut_of}
use Rattle.write_back.specs.Packed.{block_len}
use Rattle.write_back.specs.Pieces.{spots_of}
use Rattle.write_back.specs.Spots.{plain_of}
use Rattle.write_back.specs.Seen.{writer_by}
use Rattle.write_back.proofs.Packs.{front_count, front_is, lines_pieced, piece_fits, tile_pieced}
use Rattle.write_back.proofs.States.{in_range}
use Rattle.write_back.proofs.packing.Packing.pack_piece.Goals as goal

pub write_run-requires-clause-range : goal.write_run-requires-clause-range
write_run-requires-clause-range c = rw c.requires.kind (in_range c.args.self.now c.args.samples.now c.requires.range)

pub encode_over-requires-clause-kind : goal.encode_over-requires-clause-kind
encode_over-requires-clause-kind c =
    let is = ap writer_by (sym c.in-Lines.is) ∙ c.self.view_is in
    ap (λ (b : BlockView). b.kind) c.write_run.ensures.samples ∙ c.requires.kind ∙ ap (λ (w : Writer). (cut_of w).kind) (sym is)

pub encode_over-requires-clause-spots : goal.encode_over-requires-clause-spots
encode_over-requires-clause-spots c = omega (arith, c.count_of-count.ensures.count, c.requires.room, front_count c.args.block.now c.write_run.new.self c.args.samples.now c.write_run.ensures.samples c.requires.room)

pub encode_over-requires-clause-within : goal.encode_over-requires-clause-within
encode_over-requires-clause-within c =
    let is = ap writer_by (sym c.in-Lines.is) ∙ c.self.view_is in
    let bytes : length c.args.bytes.now ≡ spots_of c.in-Lines.head * sample_len c.in-Lines.head.kind = c.requires.bytes ∙ ap block_len (sym is) in
    let spots : spots_of c.in-Lines.head ≡ (cut_of c.args.self.now).spots = ap (λ (w : Writer). (cut_of w).spots) is in
    let fits = piece_fits c.args.x c.count_of-count.result (spots_of c.in-Lines.head) (sample_len c.in-Lines.head.kind) (omega (arith, c.count_of-count.ensures.count, c.requires.within, spots)) in
    omega (arith, bytes, fits)

pub encode_over-requires-in-Tile-clause-kind : goal.encode_over-requires-in-Tile-clause-kind
encode_over-requires-in-Tile-clause-kind c =
    let is = ap writer_by (sym c.in-Tile.is) ∙ c.self.view_is in
    ap (λ (b : BlockView). b.kind) c.write_run.ensures.samples ∙ c.requires.kind ∙ ap (λ (w : Writer). (cut_of w).kind) (sym is) ∙ ap (λ (h : Head). h.kind) (sym c.item_head-head.ensures.head)

pub encode_over-requires-in-Tile-clause-spots : goal.encode_over-requires-in-Tile-clause-spots
encode_over-requires-in-Tile-clause-spots c = omega (arith, c.count_of-count.ensures.count, c.requires.room, front_count c.args.block.now c.write_run.new.self c.args.samples.now c.write_run.ensures.samples c.requires.room)

pub encode_over-requires-in-Tile-clause-within : goal.encode_over-requires-in-Tile-clause-within
encode_over-requires-in-Tile-clause-within c =
    let is = ap writer_by (sym c.in-Tile.is) ∙ c.self.view_is in
    let bytes = c.requires.bytes ∙ ap block_len (sym is) in
    let spots = ap (λ (w : Writer). (cut_of w).spots) is in
    subst (λ (h : Head). c.args.x * sample_len h.kind + c.count_of-count.result * sample_len h.kind ≤ length c.args.bytes.now) (sym c.item_head-head.ensures.head)
    (let fits : c.args.x * 2 + c.count_of-count.result * 2 ≤ length c.args.bytes.now = omega (arith, c.count_of-count.ensures.count, c.requires.within, spots, bytes) in fits)

pub returns-in-Lines-clause-packed : goal.returns-in-Lines-clause-packed
returns-in-Lines-clause-packed c =
    let is = ap writer_by (sym c.in-Lines.is) ∙ c.self.view_is in
    let front = front_is c.args.block.now c.write_run.new.self c.args.samples.now c.count_of-count.result c.write_run.ensures.samples c.count_of-count.ensures.count in
    lines_pieced c.args.self.now _ c.args.x c.count_of-count.result c.args.bytes.now c.encode_over.new.bytes _ c.args.samples.now is front c.requires.bytes (omega (arith, c.count_of-count.ensures.count, c.requires.within)) c.encode_over.ensures.over

pub returns-in-Tile-clause-packed : goal.returns-in-Tile-clause-packed
returns-in-Tile-clause-packed c =
    let is = ap writer_by (sym c.in-Tile.is) ∙ c.self.view_is in
    let front = front_is c.args.block.now c.write_run.new.self c.args.samples.now c.count_of-count.result c.write_run.ensures.samples c.count_of-count.ensures.count in
    tile_pieced c.args.self.now _ c.args.x c.count_of-count.result c.args.bytes.now c.encode_over-in-Tile.new.bytes _ c.args.samples.now is front c.requires.bytes (omega (arith, c.count_of-count.ensures.count, c.requires.within))
    (subst (λ (h : Head). (n : ℕ) → length c.args.bytes.now ≡ n * sample_len h.kind → c.args.x + c.count_of-count.result ≤ n → map (sample_of (plain_of h) c.encode_over-in-Tile.new.bytes) (range_with_len 0 n)
    ≡ written c.args.x (samples_from 0 c.count_of-count.result c.write_run.new.self.samples) (map (sample_of (plain_of h) c.args.bytes.now) (range_with_len 0 n))) c.item_head-head.ensures.head c.encode_over-in-Tile.ensures.over)

pub returns-in-Lines-clause-kind : goal.returns-in-Lines-clause-kind
returns-in-Lines-clause-kind c = ap (λ (b : BlockView). b.kind) c.write_run.ensures.samples

pub returns-in-Tile-clause-kind : goal.returns-in-Tile-clause-kind
returns-in-Tile-clause-kind c = ap (λ (b : BlockView). b.kind) c.write_run.ensures.samples

pub returns-in-Lines-clause-count : goal.returns-in-Lines-clause-count
returns-in-Lines-clause-count c = front_count c.args.block.now c.write_run.new.self c.args.samples.now c.write_run.ensures.samples c.requires.room

pub returns-in-Tile-clause-count : goal.returns-in-Tile-clause-count
returns-in-Tile-clause-count c = front_count c.args.block.now c.write_run.new.self c.args.samples.now c.write_run.ensures.samples c.requires.room

pub unreachable-requires : goal.unreachable-requires
unreachable-requires c =
    let columns = ap (λ (w : Writer). (cut_of w).by_columns) (ap writer_by (sym c.in-Columns.is) ∙ c.self.view_is) in
    let clash : true ≡ false = columns ∙ c.requires.lined.rows in
    cc
