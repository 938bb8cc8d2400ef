use Rattle.std.proofs.Common.{◌*◌, ap, sym, ◌∙◌}
use Rattle.esri_hdr.specs.Head.{sample_len}
use Rattle.write_back.specs.Packed.{block_len}
use Rattle.write_back.specs.Seen.{writer_by}
use Rattle.write_back.proofs.packing.Packing.block_len.Goals as goal

pub returns-in-Lines : goal.returns-in-Lines
returns-in-Lines c = record {
  len =
      c.len_of_samples.ensures.bytes
      ∙ ap (λ n. n * sample_len c.in-Lines.head.kind) c.line_len.ensures.len
      ∙ ap block_len (ap writer_by (sym c.in-Lines.is) ∙ c.self.view_is);
}

pub returns-in-Tile : goal.returns-in-Tile
returns-in-Tile c = record { len = ap block_len (ap writer_by (sym c.in-Tile.is) ∙ c.self.view_is) }

pub returns-in-Columns : goal.returns-in-Columns
returns-in-Columns c = record { len = c.record_len.ensures.value ∙ ap block_len (ap writer_by (sym c.in-Columns.is) ∙ c.self.view_is) }
