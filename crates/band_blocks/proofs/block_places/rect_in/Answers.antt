use Rattle.std.proofs.Common.{arith}
use Rattle.band_blocks.proofs.Corners.{some_across, column_within, line_within}
use Rattle.band_blocks.proofs.block_places.rect_in.Goals as goal

pub nonzero_rem-column : goal.nonzero_rem-column
nonzero_rem-column c = omega (arith, some_across c.args.block c.args.size c.requires.size c.requires.wide, c.steps_over-across.ensures.steps)

pub nonzero_div-row : goal.nonzero_div-row
nonzero_div-row c = omega (arith, some_across c.args.block c.args.size c.requires.size c.requires.wide, c.steps_over-across.ensures.steps)

pub start_of-x-requires : goal.start_of-x-requires
start_of-x-requires c = rw c.steps_over-across.ensures.steps (record { within = column_within c.args.block c.args.size c.args.number c.requires.size c.requires.wide })

pub start_of-y-requires : goal.start_of-y-requires
start_of-y-requires c = rw c.steps_over-across.ensures.steps (record { within = line_within c.args.block c.args.size c.args.number c.requires.size c.requires.wide c.requires.high c.requires.within })
