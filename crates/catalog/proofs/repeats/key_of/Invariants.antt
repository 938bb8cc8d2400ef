use Rattle.std.proofs.Common.{◌≡◌, drop}
use Rattle.std.specs.List.{fold}
use Rattle.vrt_markup.specs.Hashes.{text_hash}
use Rattle.catalog.proofs.repeats.key_of.Given as goal

-- the key of the names that are left
abbrev pub invariant-loop-name : goal.invariant-loop-name
invariant-loop-name l = fold text_hash l.key (drop l.name-index l.names) ≡ fold text_hash 0 l.names
