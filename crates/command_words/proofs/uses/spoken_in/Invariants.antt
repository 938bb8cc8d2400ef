use Rattle.std.proofs.Common.{◌≤◌, ◌+◌, map, drop, string_bytes}
use Rattle.command_words.proofs.Told.{Told}
use Rattle.command_words.proofs.uses.spoken_in.Given as goal

-- the words so far, and those that are left
abbrev pub invariant-loop-i : goal.invariant-loop-i
invariant-loop-i l = record {
  told : Told l.tool l.count l.before l.taken (l.i + 1) l.all (map string_bytes (drop l.i l.words)) (map string_bytes l.words);
  few : l.before ≤ l.i;
}
