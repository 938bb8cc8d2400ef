use Rattle.error_lines.specs.Faults.{load_fault_of}
use Rattle.output_copies.specs.Copying.{TellsChange}
use Rattle.output_copies.proofs.Changes.{handed_on, load_tells}
use Rattle.output_copies.proofs.band_lines.read_part_of.Goals as goal

pub returns-in_err-read_piece-clause-changed : goal.returns-in_err-read_piece-clause-changed
returns-in_err-read_piece-clause-changed g c =
    let cat = c.args.translation.now.cat in
    let l = c.in_err-read_piece.field-0.0 in
    handed_on (TellsChange cat) (load_fault_of l) c.from_residual.result c.from_residual.ensures (load_tells cat l c.in_err-read_piece.ensures.changed)
