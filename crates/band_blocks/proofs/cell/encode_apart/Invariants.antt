use Rattle.std.proofs.Common.{◌≡◌, ℕ, ◌<◌, map, get_or, pos}
use Rattle.interleaved_raw.specs.Raw.{bytes_at, sample_bytes, IsBetween}
use Rattle.band_blocks.proofs.cell.encode_apart.Given as goal

abbrev pub invariant-loop-i : goal.invariant-loop-i
invariant-loop-i g l = record {
  written : (k : ℕ) → k < l.i → bytes_at l.head l.bytes k ≡ sample_bytes l.head (get_or (map g.T.Cell.value l.cells) k (pos 0));
  others : (j : ℕ) → IsBetween l.head l.i j → get_or l.bytes j 0 ≡ get_or l.initial.bytes j 0;
}
