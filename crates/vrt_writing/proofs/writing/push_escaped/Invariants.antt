use Rattle.std.proofs.Common.{◌≡◌, ◌++◌, take, flat_map}
use Rattle.vrt_writing.specs.Spelled.{escape}
use Rattle.vrt_writing.proofs.writing.push_escaped.Given as goal

abbrev pub invariant-loop-c : goal.invariant-loop-c
invariant-loop-c l = l.out.items ≡ l.fn.out.items ++ flat_map escape (take l.c-index l.c-items)
