use Rattle.std.proofs.Common.{◌≡◌, ℕ, ◌<◌, get_or, pos, true}
use Rattle.geotransform.specs.Types.{is_in}
use Rattle.geotransform.specs.declared.types.PixelType.TheVariants.{Int16}
use Rattle.synthetic_rasters.specs.Tiles.{tile_sample}
use Rattle.synthetic_rasters.proofs.tiles.fill_samples.Given as goal

abbrev pub invariant-loop-x : goal.invariant-loop-x
invariant-loop-x l = record {
  samples : (k : ℕ) → k < l.x → get_or l.samples k (pos 0) ≡ tile_sample l.tile k l.line;
  range : (k : ℕ) → k < l.x → is_in Int16 (tile_sample l.tile k l.line) ≡ true;
}
