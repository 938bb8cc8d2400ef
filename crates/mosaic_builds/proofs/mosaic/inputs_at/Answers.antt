use Rattle.mosaic_builds.proofs.Heads.{one_more_input}
use Rattle.mosaic_builds.proofs.mosaic.inputs_at.Goals as goal

pub loop-id-preserved : goal.loop-id-preserved
loop-id-preserved c = one_more_input c.args.cat.now c.args.ids.now c.loop-id.id-index c.loop-id.inputs c.push.new.self c.head.result.now c.loop-id-test.true c.loop-id.invariant c.head.ensures.head c.in_ok-push.ensures.ok
