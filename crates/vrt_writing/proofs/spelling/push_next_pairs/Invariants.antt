use Rattle.std.proofs.Common.{◌≡◌, ◌++◌, flat_map, take}
use Rattle.vrt_writing.specs.Spelled.{next_pair_text}
use Rattle.vrt_writing.proofs.spelling.push_next_pairs.Given as goal

abbrev pub invariant-loop-pair : goal.invariant-loop-pair
invariant-loop-pair l = l.out.items ≡ l.fn.out.items ++ flat_map next_pair_text (take l.pair-index l.pairs)
