use Rattle.std.proofs.Common.{◌∙◌, ap, ℕ, map, arith}
use Rattle.std.specs.List.{range_with_len}
use Rattle.synthetic_rasters.specs.Tiles.{tile_sample}
use Rattle.synthetic_rasters.proofs.Lines.{line_is}
use Rattle.synthetic_rasters.proofs.tiles.fill_line.Goals as goal

pub returns : goal.returns
returns c = record {
  bytes = line_is c.args.side c.args.tile c.args.line c.tile_head-head.result c.fill_samples.new.samples c.encode_run.new.bytes c.tile_head-head.ensures.head (omega arith)
      (c.fill_samples.ensures.samples ∙ ap (λ (k : ℕ). map (λ (x : ℕ). tile_sample c.args.tile x c.args.line) (range_with_len 0 k)) c.requires.samples)
      (omega arith) c.encode_run.ensures.bytes;
}
