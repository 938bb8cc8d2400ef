use Rattle.std.proofs.Common.{arith}
use Rattle.std.proofs.lemmas.List.{length-map}
use Rattle.band_blocks.proofs.packed.Packed.of.Goals as goal

pub invariant_of-result : goal.invariant_of-result
invariant_of-result g c = record { range = c.requires.range; few = let n = length-map c.args.cells.items g.T.Cell.value in let few = c.requires.few in omega arith }
