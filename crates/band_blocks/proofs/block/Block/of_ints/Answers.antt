use Rattle.std.proofs.Common.{ap, ◌∙◌, sym, subst}
use Rattle.std.proofs.lemmas.List.{map-id}
use Rattle.geotransform.specs.declared.types.PixelType.TheVariants.{Int32}
use Rattle.band_blocks.specs.Blocks.{AreIn, block_view}
use Rattle.band_blocks.proofs.block.Block.of_ints.Goals as goal

pub of-requires-clause-range : goal.of-requires-clause-range
of-requires-clause-range c = subst (AreIn Int32) (sym (map-id c.args.cells.items)) c.requires.range

pub returns : goal.returns
returns c = record { samples = ap (block_view Int32) (c.of.ensures.samples ∙ map-id c.args.cells.items) }
