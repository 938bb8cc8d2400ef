use Rattle.std.proofs.Common.{◌≡◌, sym, subst, ap, true, arith}
use Rattle.std.specs.List.{All}
use Rattle.band_blocks.specs.Blocks.{BlockView}
use Rattle.write_back.specs.Columns.{is_elevation}
use Rattle.write_back.proofs.RecordBytes.{elevations}
use Rattle.write_back.proofs.cells.decode_column.Goals as goal

pub returns-clause-range : goal.returns-clause-range
returns-clause-range c = subst (All (λ n. is_elevation n ≡ true)) (sym (ap (λ (b : BlockView). b.samples) c.decode_record.ensures.samples)) (elevations c.args.head.now c.args.bytes.now (λ i. let f = (c.type_inv.bytes i).fits in omega arith))
