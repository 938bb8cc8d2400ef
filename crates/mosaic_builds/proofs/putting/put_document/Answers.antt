use Rattle.std.proofs.Common.{◌∙◌}
use Rattle.mosaic_builds.proofs.Ended.{folder_outside}
use Rattle.mosaic_builds.proofs.Going.{document_goes, document_stops}
use Rattle.mosaic_builds.proofs.putting.put_document.Goals as goal

pub returns-in-Ok-clause-told : goal.returns-in-Ok-clause-told
returns-in-Ok-clause-told g c = λ m is.
    document_goes c.args.quiet c.args.name.now c.args.document.now m c.put_progress.result (g.F.Folder.names c.publish_document.new.folder) (g.O.Sink.got c.args.out.now) (g.O.Sink.got c.put_progress.new.out)
    (c.in-Ok.ensures.told m is (g.O.Sink.got c.args.out.now)) (λ n at. c.put_progress.ensures.told n (g.F.Folder.names c.publish_document.new.folder) at)

pub returns-in-Err-clause-told : goal.returns-in-Err-clause-told
returns-in-Err-clause-told g c = λ m is.
    document_stops c.args.quiet c.args.name.now c.args.document.now m c.in-Err.fault (g.F.Folder.names c.publish_document.new.folder) (g.O.Sink.got c.args.out.now)
    (c.in-Err.ensures.names ∙ is) (folder_outside c.in-Err.fault c.in-Err.ensures.faults)
