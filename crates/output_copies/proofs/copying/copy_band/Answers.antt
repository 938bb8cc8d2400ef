use Rattle.lane_teams.proofs.Lanes.{lanes_kept}
use Rattle.output_copies.specs.Copying.{TellsChange}
use Rattle.output_copies.proofs.Changes.{handed_on}
use Rattle.output_copies.proofs.copying.copy_band.Goals as goal

pub returns-clause-ready : goal.returns-clause-ready
returns-clause-ready g c = lanes_kept g.F.Folder g.S.Scene.told g.S.Scene.cat c.args.translation.now.cat _ c.read_part.new.folder c.write_part.new.folder c.write_part.ensures.names c.read_part.ensures.ready

pub returns-in_err-read_part-clause-changed : goal.returns-in_err-read_part-clause-changed
returns-in_err-read_part-clause-changed g c =
    let cat = c.args.translation.now.cat in
    let x = c.in_err-read_part.field-0.0 in
    handed_on (TellsChange cat) x c.from_residual.result c.from_residual.ensures c.in_err-read_part.ensures.changed
