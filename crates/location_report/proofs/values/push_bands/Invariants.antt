use Rattle.std.proofs.Common.{◌≡◌, ◌++◌, drop}
use Rattle.lists_and_answers.specs.Growth.{KeepsFront}
use Rattle.location_report.specs.Location.{bands_text}
use Rattle.location_report.proofs.values.push_bands.Given as goal

-- the lines so far, and those of the bands that are left; what was there stands in front
abbrev pub invariant-loop-at : goal.invariant-loop-at
invariant-loop-at l = record {
  text : l.out.items ++ bands_text (drop l.at l.bands) (drop l.at l.values) ≡ l.fn.out.items ++ bands_text l.bands l.values;
  front : KeepsFront l.fn.out.items l.out.items;
}
