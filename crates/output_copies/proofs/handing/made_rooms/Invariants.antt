use Rattle.std.proofs.Common.{◌≡◌, length, true}
use Rattle.std.specs.List.{All}
use Rattle.output_copies.specs.Packed.{HasRoom}
use Rattle.output_copies.proofs.handing.made_rooms.Given as goal

-- the rooms so far
abbrev pub invariant-loop-at : goal.invariant-loop-at
invariant-loop-at g l = record {
  count : length l.made.items ≡ l._at;
  rooms : l.others ≡ true → All (HasRoom l.task.translation.now.plan l.task.packing l.task.rows) l.made.items;
}
