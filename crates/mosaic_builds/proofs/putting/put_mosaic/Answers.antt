use Rattle.std.proofs.Common.{◌∙◌, ◌≡◌, refl, []}
use Rattle.mosaic_builds.specs.Built.{built_by, built_in}
use Rattle.mosaic_builds.proofs.Ended.{making_ends, making_causes, writing_refuses}
use Rattle.mosaic_builds.proofs.Going.{refused_goes, unwarned}
use Rattle.mosaic_builds.proofs.putting.put_mosaic.Goals as goal

pub returns-in-Err-clause-told : goal.returns-in-Err-clause-told
returns-in-Err-clause-told g c = λ fresh m is.
    let building = c.args.building in
    refused_goes building.quiet building.options.now.out (built_in m building.verify c.args.inputs building.list.now building.options.now) m c.in-Err.fault (g.F.Folder.names c.make.new.folder) (g.O.Sink.got c.args.out.now) c.args.failed.now (g.E.Sink.faults c.args.err.now) (g.E.Sink.got c.args.err.now)
    fresh (c.make.ensures.names ∙ is) (c.in-Err.ensures.told m is)

pub returns-in-Err-clause-may_end : goal.returns-in-Err-clause-may_end
returns-in-Err-clause-may_end g c = making_ends c.args.building.options.now.out c.in-Err.fault c.in-Err.ensures.faults

pub returns-in-Err-clause-cause : goal.returns-in-Err-clause-cause
returns-in-Err-clause-cause g c = making_causes c.args.building.options.now.out c.make.result c.in-Err.fault (g.F.Folder.faults c.args.folder.now) (g.F.Folder.faults c.make.new.folder) (g.O.Sink.faults c.args.out.now) c.in-Err.is c.in-Err.ensures.faults c.make.ensures.cause

pub returns-in-Ok-clause-warned : goal.returns-in-Ok-clause-warned
returns-in-Ok-clause-warned g c = λ fresh.
    let lines = (built_by c.in-Ok.made).warnings in
    (lines, c.put_made.ensures.warned fresh, writing_refuses c.put_made.result (lines ≡ []) c.put_made.ensures.faults)

pub returns-in-Err-clause-warned : goal.returns-in-Err-clause-warned
returns-in-Err-clause-warned g c = λ fresh. ([], unwarned c.args.failed.now (g.E.Sink.faults c.args.err.now) (g.E.Sink.got c.args.err.now) fresh, λ is. refl)
