use Rattle.std.proofs.Common.{◌≡◌, ◌≤◌, ◌-◌}
use Rattle.nearest_window.specs.Right.{IsReady}
use Rattle.synth_runs.specs.Tallied.{AreTallied}
use Rattle.synth_runs.proofs.strips.tally_lines.Given as goal

-- the lines so far are tallied
abbrev pub invariant-loop-line : goal.invariant-loop-line
invariant-loop-line g l = record {
  below : l.line ≤ l.height;
  ready : IsReady g.F.Folder l.folder l.copied.cat l.pixels.lane;
  tallied : AreTallied (g.F.Folder.names l.fn.folder) l.copied.cat l.copied.id l.copied.size l.line l.tally;
  names : g.F.Folder.names l.folder ≡ g.F.Folder.names l.fn.folder;
  later : g.F.Folder.faults l.fn.folder ≤ g.F.Folder.faults l.folder;
}

abbrev pub decreases-loop-line : goal.decreases-loop-line
decreases-loop-line g l = l.height - l.line
