use Rattle.std.proofs.Common.{◌≡◌, ◌<◌, true, false, ap, sym, subst, ◌∙◌}
use Rattle.dted_records.specs.Written.{record_bytes}
use Rattle.write_back.specs.declared.forms.Writer.{Writer}
use Rattle.write_back.specs.Forms.{cut_of, AreHeld}
use Rattle.write_back.specs.Packed.{block_len, in_bytes, IsBlockOf}
use Rattle.write_back.specs.Seen.{writer_by}
use Rattle.write_back.proofs.packing.Packing.pack_column.Goals as goal

pub unreachable-requires : goal.unreachable-requires
unreachable-requires c =
    let columns = ap (λ (w : Writer). (cut_of w).by_columns) (ap writer_by (sym c.in-Lines.is) ∙ c.self.view_is) in
    let clash : false ≡ true = columns ∙ c.requires.columns in
    cc

pub unreachable-requires-in-Tile : goal.unreachable-requires-in-Tile
unreachable-requires-in-Tile c =
    let columns = ap (λ (w : Writer). (cut_of w).by_columns) (ap writer_by (sym c.in-Tile.is) ∙ c.self.view_is) in
    let clash : false ≡ true = columns ∙ c.requires.columns in
    cc

pub encode_column-requires-clause-column : goal.encode_column-requires-clause-column
encode_column-requires-clause-column c = subst (λ (w : Writer). c.args.x < (cut_of w).blocks) (sym (ap writer_by (sym c.in-Columns.is) ∙ c.self.view_is)) c.requires.column

pub encode_column-requires-clause-kind : goal.encode_column-requires-clause-kind
encode_column-requires-clause-kind c = c.requires.kind ∙ ap (λ (w : Writer). (cut_of w).kind) (sym (ap writer_by (sym c.in-Columns.is) ∙ c.self.view_is))

pub encode_column-requires-clause-range : goal.encode_column-requires-clause-range
encode_column-requires-clause-range c = subst (λ (w : Writer). AreHeld w c.args.block.now.samples) (sym (ap writer_by (sym c.in-Columns.is) ∙ c.self.view_is)) c.requires.range

pub encode_column-requires-clause-room : goal.encode_column-requires-clause-room
encode_column-requires-clause-room c = c.requires.count ∙ ap (λ (w : Writer). (cut_of w).spots) (sym (ap writer_by (sym c.in-Columns.is) ∙ c.self.view_is))

pub encode_column-requires-clause-bytes : goal.encode_column-requires-clause-bytes
encode_column-requires-clause-bytes c = c.requires.bytes ∙ ap block_len (sym (ap writer_by (sym c.in-Columns.is) ∙ c.self.view_is))

pub returns-in-Columns-clause-packed : goal.returns-in-Columns-clause-packed
returns-in-Columns-clause-packed c = subst (λ (w : Writer). in_bytes w c.encode_column.new.bytes ≡ c.args.block.now.samples) (ap writer_by (sym c.in-Columns.is) ∙ c.self.view_is) c.encode_column.ensures.samples

pub returns-in-Columns-clause-whole : goal.returns-in-Columns-clause-whole
returns-in-Columns-clause-whole c =
    subst (λ (w : Writer). IsBlockOf w c.args.x c.encode_column.new.bytes) (ap writer_by (sym c.in-Columns.is) ∙ c.self.view_is)
    (c.encode_column.ensures.bytes ∙ ap (record_bytes c.args.x) (sym c.encode_column.ensures.samples))
