use Rattle.std.proofs.Common.{subst}
use Rattle.buildvrt.specs.Options.{Options}
use Rattle.error_lines.specs.Steps.{Goes, all_done}
use Rattle.mosaic_builds.specs.Built.{built_by}
use Rattle.mosaic_builds.specs.Steps.{publishing_steps}
use Rattle.mosaic_builds.proofs.Going.{goes_behind, publishing_silent}
use Rattle.mosaic_builds.proofs.putting.put_made.Goals as goal

pub returns-clause-told : goal.returns-clause-told
returns-clause-told g c = λ fresh m is.
    let quiet = c.args.building.quiet in
    let made = c.args.made.now in
    let name = c.args.building.options.now.out in
    let names = g.F.Folder.names c.put_document.new.folder in
    let before = g.O.Sink.got c.args.out.now in
    let after = g.O.Sink.got c.put_document.new.out in
    goes_behind (built_by made).warnings (publishing_steps quiet name made.document) m c.put_document.result names before after c.warn_all.new.failed (g.E.Sink.faults c.args.err.now) (g.E.Sink.faults c.warn_all.new.err) (g.E.Sink.got c.args.err.now) (g.E.Sink.got c.warn_all.new.err)
    (publishing_silent quiet name made.document) (c.warn_all.ensures.warned fresh)
    (subst (λ (o : Options). Goes (all_done (publishing_steps quiet o.out made.document)) m c.put_document.result names before after) c.options.view_is (c.put_document.ensures.told m is))
