use Rattle.std.proofs.Common.{◌≡◌, drop}
use Rattle.catalog.specs.Linked.{first_above}
use Rattle.catalog.proofs.links.Met.first_above_in.Given as goal

-- the first is among those that are left
abbrev pub invariant-loop-id : goal.invariant-loop-id
invariant-loop-id l = first_above l.self.links l.room (drop l.id-index l.ids) ≡ first_above l.self.links l.room l.ids
