use Rattle.mosaic_builds.proofs.Walked.{numbers_next}
use Rattle.mosaic_builds.proofs.walks.walk_next.Goals as goal

pub returns-in-Ok-push-clause-numbers : goal.returns-in-Ok-push-clause-numbers
returns-in-Ok-push-clause-numbers g c = λ names are. numbers_next c.args.cat.now c.walk.new.cat c.walk.ensures.kept names c.args.ids.now c.push.new.self c.args.name.now c.in-Ok.id are c.in-Ok.ensures.number c.in-Ok-push.ensures.ok
