use Rattle.vrt_profile.specs.Values.{IsSource}
use Rattle.vrt_profile.proofs.Built.{pushed}
use Rattle.vrt_profile.proofs.building.SourceList.push.Goals as goal

pub invariant_of-self : goal.invariant_of-self
invariant_of-self c = pushed IsSource c.push.result c.self.inside.sources c.push.new.self c.args.source c.push.ensures.ok c.push.ensures.err c.self.invariant c.rules.ensures.rules
