use Rattle.std.proofs.Common.{◌≡◌, map, take}
use Rattle.vrt_markup.specs.Hashes.{text_hash}
use Rattle.catalog.proofs.gathered.hashes_of.Given as goal

-- the hashes so far
abbrev pub invariant-loop-name : goal.invariant-loop-name
invariant-loop-name l = l.hashes.items ≡ map (text_hash l.key) (take l.name-index l.names)
