use Rattle.std.proofs.Common.{◌≡◌, ◌++◌, take}
use Rattle.outside.specs.Histories.{history_bytes}
use Rattle.outside.proofs.calm_sink.note.Given as goal

-- what was noted so far
abbrev pub invariant-loop-byte : goal.invariant-loop-byte
invariant-loop-byte l = history_bytes l.history.items ≡ history_bytes l.fn.history.items ++ take l.byte-index l.bytes
