use Rattle.std.proofs.Common.{◌∙◌, ap, sym, arith}
use Rattle.strip_copies.specs.Portions.{makes_columns}
use Rattle.output_copies.proofs.Packs.{column_blocks, is_lined, line_blocks}
use Rattle.output_copies.proofs.making.make_blocks.Goals as goal

pub make_portion-requires-clause-end : goal.make_portion-requires-clause-end
make_portion-requires-clause-end g c κs within =
    let w = c.args.task.now.packing in
    let lined = is_lined w c.requires.task.apart (sym c.requires.task.columns ∙ ap makes_columns c.in-Lines.is) in
    let high = line_blocks c.args.task.now.translation.now.plan w c.rules.ensures.kept c.requires.task.output lined in
    omega (arith, c.requires.end, high)

pub make_pieces-requires-clause-end : goal.make_pieces-requires-clause-end
make_pieces-requires-clause-end g c κs within =
    let w = c.args.task.now.packing in
    let lined = is_lined w c.requires.task.apart (sym c.requires.task.columns ∙ ap makes_columns c.in-Pieces.is) in
    let high = line_blocks c.args.task.now.translation.now.plan w c.rules.ensures.kept c.requires.task.output lined in
    omega (arith, c.requires.end, high)

pub make_records-requires-clause-end : goal.make_records-requires-clause-end
make_records-requires-clause-end g c κs within =
    let w = c.args.task.now.packing in
    let wide = column_blocks c.args.task.now.translation.now.plan w c.rules.ensures.kept c.requires.task.output (sym c.requires.task.columns ∙ ap makes_columns c.in-Records.is) in
    omega (arith, c.requires.end, wide)
