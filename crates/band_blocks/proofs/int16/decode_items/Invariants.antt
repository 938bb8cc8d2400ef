use Rattle.std.proofs.Common.{◌≡◌, ℕ, ◌<◌, get_or, pos, true}
use Rattle.geotransform.specs.Types.{is_in}
use Rattle.geotransform.specs.declared.types.PixelType.TheVariants.{Int16}
use Rattle.hgt_tiles.specs.Samples.{item_at}
use Rattle.band_blocks.proofs.int16.decode_items.Given as goal

abbrev pub invariant-loop-i : goal.invariant-loop-i
invariant-loop-i l = record {
  samples : (k : ℕ) → k < l.i → get_or l.cells k (pos 0) ≡ item_at l.bytes k;
  range : (k : ℕ) → k < l.i → is_in Int16 (item_at l.bytes k) ≡ true;
}
