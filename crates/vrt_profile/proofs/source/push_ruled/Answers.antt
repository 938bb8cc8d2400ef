use Rattle.vrt_profile.specs.Values.{IsSource}
use Rattle.vrt_profile.proofs.Built.{pushed}
use Rattle.vrt_profile.proofs.source.push_ruled.Goals as goal

pub returns-in-Ok-clause-rules : goal.returns-in-Ok-clause-rules
returns-in-Ok-clause-rules c = λ all. pushed IsSource c.push.result c.args.sources.now c.push.new.self c.args.source c.push.ensures.ok c.push.ensures.err all c.rules.ensures.rules
