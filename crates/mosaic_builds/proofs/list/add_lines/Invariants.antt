use Rattle.std.proofs.Common.{◌≡◌, ◌≤◌, length, drop}
use Rattle.std.specs.Str.Lines.{lines}
use Rattle.mosaic_builds.specs.Inputs.{filled, with_lines}
use Rattle.mosaic_builds.proofs.list.add_lines.Given as goal

-- what the lines so far gave, and those that are left
abbrev pub invariant-loop-line : goal.invariant-loop-line
invariant-loop-line l = record {
  few : length l.names ≤ 65536;
  same : with_lines l.fn.names (filled (lines l.text)) ≡ with_lines l.names (filled (drop (length l.yielded) (lines l.text)));
}
