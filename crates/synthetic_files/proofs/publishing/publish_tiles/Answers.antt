use Rattle.std.proofs.Common.{refl, inr}
use Rattle.error_lines.specs.declared.faults.Fault.TheVariants.{Memory}
use Rattle.synthetic_rasters.specs.Tiles.{tiles_files}
use Rattle.synthetic_files.proofs.Parts.{err_is, none_goes, published_goes}
use Rattle.synthetic_files.proofs.publishing.publish_tiles.Goals as goal

pub returns-in_err-room-clause-told : goal.returns-in_err-room-clause-told
returns-in_err-room-clause-told g c = λ m told out.
    none_goes (tiles_files c.args.side) m c.from_residual.result Memory (g.F.Folder.names c.args.folder.now) out (err_is c.from_residual.result Memory c.from_residual.ensures) (inr refl) told

pub returns-clause-told : goal.returns-clause-told
returns-clause-told g c = λ m told out.
    published_goes (tiles_files c.args.side) m c.publish_all.result (g.F.Folder.names c.publish_all.new.folder) out c.publish_all.ensures.faults (c.publish_all.ensures.told m told)
