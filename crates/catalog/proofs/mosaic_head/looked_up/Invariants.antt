use Rattle.std.proofs.Common.{take}
use Rattle.catalog.specs.Listed.{HasListed}
use Rattle.catalog.proofs.mosaic_head.looked_up.Given as goal

-- the names so far are listed
abbrev pub invariant-loop-name : goal.invariant-loop-name
invariant-loop-name l = HasListed l.own (take l.name-index l.names) l.listing
