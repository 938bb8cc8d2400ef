use Rattle.std.proofs.Common.{◌≡◌, ℕ, ◌<◌, get_or, pos, true}
use Rattle.geotransform.specs.Types.{is_in}
use Rattle.geotransform.specs.declared.types.PixelType.TheVariants.{Int16}
use Rattle.dted_records.specs.Records.{elevation_in}
use Rattle.band_blocks.proofs.int16.decode_elevations.Given as goal

abbrev pub invariant-loop-y : goal.invariant-loop-y
invariant-loop-y l = record {
  samples : (k : ℕ) → k < l.y → get_or l.cells k (pos 0) ≡ elevation_in l.head l.bytes k;
  range : (k : ℕ) → k < l.y → is_in Int16 (elevation_in l.head l.bytes k) ≡ true;
}
