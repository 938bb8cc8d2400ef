use Rattle.geotransform.specs.Parts.{view}
use Rattle.geotransform.proofs.Fewer.{near_is}
use Rattle.geotransform.proofs.decimal.rounded_near.Goals as goal

pub returns-then-magnitude-lt-SIXTEENTH_LIMIT-clause-value : goal.returns-then-magnitude-lt-SIXTEENTH_LIMIT-clause-value
returns-then-magnitude-lt-SIXTEENTH_LIMIT-clause-value c = near_is c.args.places c.magnitude.result c.rounded_magnitude.result (view c.args.parts) c.requires.places c.magnitude.ensures c.if-magnitude-lt-SIXTEENTH_LIMIT.true c.rounded_magnitude.ensures.value
