use Rattle.std.proofs.Common.{◌≡◌, ◌++◌, take}
use Rattle.location_report.specs.Location.{files_text}
use Rattle.location_report.proofs.files.push_files.Given as goal

-- the names so far
abbrev pub invariant-loop-name : goal.invariant-loop-name
invariant-loop-name l = l.out.items ≡ l.fn.out.items ++ files_text (take l.name-index l.names)
