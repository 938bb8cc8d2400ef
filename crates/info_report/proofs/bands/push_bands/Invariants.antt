use Rattle.std.proofs.Common.{◌≡◌, ◌++◌, ◌+◌, drop}
use Rattle.info_report.specs.Report.{bands_text}
use Rattle.info_report.proofs.bands.push_bands.Given as goal

-- the lines so far, and those of the bands that are left
abbrev pub invariant-loop-at : goal.invariant-loop-at
invariant-loop-at l = l.out.items ++ bands_text (l.at + 1) (drop l.at l.bands) ≡ l.fn.out.items ++ bands_text 1 l.bands
