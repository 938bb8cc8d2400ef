use Rattle.std.proofs.Common.{◌≡◌, ◌∙◌, sym, true, rules}
use Rattle.std.specs.Ordering.{int_eq}
use Rattle.synthetic_rasters.specs.Tiles.{nodata}
use Rattle.synthetic_rasters.proofs.Tallied.{nodata_added}
use Rattle.synthetic_rasters.proofs.tally.Tally.add_one.Goals as goal

pub returns-else-sample-neminus1-clause-added : goal.returns-else-sample-neminus1-clause-added
returns-else-sample-neminus1-clause-added c = λ seen same.
    let is : int_eq c.args.sample nodata ≡ true = search rules in
    same ∙ sym (nodata_added seen c.args.sample is)
