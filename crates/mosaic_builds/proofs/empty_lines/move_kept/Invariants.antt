use Rattle.std.proofs.Common.{◌≡◌, ◌≤◌, true, ◌++◌, length, take, drop}
use Rattle.mosaic_builds.specs.Feeds.{without_empty}
use Rattle.mosaic_builds.proofs.empty_lines.move_kept.Given as goal

-- the bytes that are kept, and what is kept of those that are left
abbrev pub invariant-loop-at : goal.invariant-loop-at
invariant-loop-at l = record {
  room : l.kept ≤ l.at;
  size : length l.bytes ≡ length l.fn.bytes;
  same : take l.kept l.bytes ++ without_empty l.begins (drop l.at l.bytes) ≡ without_empty true l.fn.bytes;
}
