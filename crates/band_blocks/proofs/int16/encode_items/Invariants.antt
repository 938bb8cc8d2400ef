use Rattle.std.proofs.Common.{◌≡◌, ◌*◌, take}
use Rattle.hgt_tiles.specs.Samples.{row_bytes}
use Rattle.band_blocks.proofs.int16.encode_items.Given as goal

abbrev pub invariant-loop-i : goal.invariant-loop-i
invariant-loop-i l = take (l.i * 2) l.out ≡ row_bytes (take l.i l.cells)
