use Rattle.std.proofs.Common.{◌≡◌, ◌++◌, flat_map, take}
use Rattle.vrt_writing.specs.Appended.{source_text}
use Rattle.vrt_writing.proofs.spelling.push_each_source.Given as goal

abbrev pub invariant-loop-source : goal.invariant-loop-source
invariant-loop-source l = l.out.items ≡ l.fn.out.items ++ flat_map source_text (take l.source-index l.sources)
