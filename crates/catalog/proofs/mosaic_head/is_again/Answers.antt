use Rattle.std.proofs.Common.{◌≡◌, ℕ, ◌+◌, ◌-◌, take, subst, arith}
use Rattle.catalog.specs.Gathered.{IsThere}
use Rattle.catalog.proofs.Repeated.{same_name, again_there}
use Rattle.catalog.proofs.mosaic_head.is_again.Goals as goal

pub returns : goal.returns
returns c = record {
  again = λ same base.
      let before : (c.args.at - 1) + 1 ≡ c.args.at = omega arith in
      subst (λ (n : ℕ). IsThere base (take n c.args.sources.now) c.args.source.now) before
      (again_there base c.args.sources.now (c.args.at - 1) c.index-sources-at.result c.args.source.now (omega arith) c.index-sources-at.is (same_name base c.args.source.now c.index-sources-at.result (c.is_same_file.ensures.relative same) (c.is_same_file.ensures.file same)));
}
