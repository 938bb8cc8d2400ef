use Rattle.std.proofs.Common.{◌≡◌, ◌+◌, ◌≤◌, ◌++◌, ℤ, List, take}
use Rattle.synthetic_rasters.specs.Tally.{tally_of}
use Rattle.synthetic_rasters.proofs.tally.Tally.add.Given as goal

abbrev pub invariant-loop-sample : goal.invariant-loop-sample
invariant-loop-sample l = record {
  added : (seen : List ℤ) → l.fn.self ≡ tally_of seen → l.self ≡ tally_of (seen ++ take l.sample-index l.samples);
  count : l.self.count ≤ l.fn.self.count + l.sample-index;
}
