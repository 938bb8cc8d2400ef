use Rattle.std.proofs.Common.{◌≡◌, ℕ, ◌<◌, map, true}
use Rattle.std.specs.List.{range_with_len}
use Rattle.geotransform.specs.Types.{is_in}
use Rattle.interleaved_raw.specs.Raw.{strided_at}
use Rattle.band_blocks.specs.Blocks.{written}
use Rattle.band_blocks.proofs.cell.decode_apart.Given as goal

abbrev pub invariant-loop-i : goal.invariant-loop-i
invariant-loop-i g l = record {
  samples : map g.T.Cell.value l.cells ≡ written l.first (map (strided_at l.head l.bytes) (range_with_len 0 l.i)) (map g.T.Cell.value l.fn.cells);
  range : (k : ℕ) → k < l.i → is_in g.T.Cell.kind (strided_at l.head l.bytes k) ≡ true;
}
