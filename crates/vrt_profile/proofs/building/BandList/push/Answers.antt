use Rattle.vrt_profile.specs.Values.{IsBand}
use Rattle.vrt_profile.proofs.Built.{pushed}
use Rattle.vrt_profile.proofs.building.BandList.push.Goals as goal

pub invariant_of-self : goal.invariant_of-self
invariant_of-self c = pushed IsBand c.push.result c.self.inside.bands c.push.new.self c.args.band c.push.ensures.ok c.push.ensures.err c.self.invariant c.rules.ensures.rules
