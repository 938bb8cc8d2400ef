use Rattle.std.proofs.Common.{◌≡◌, drop}
use Rattle.std.specs.Prelude.{max}
use Rattle.catalog.specs.Linked.{most}
use Rattle.catalog.proofs.links.Met.highest_in.Given as goal

-- the greatest height so far, and of those that are left
abbrev pub invariant-loop-id : goal.invariant-loop-id
invariant-loop-id l = max l.height (most l.self.links (drop l.id-index l.ids)) ≡ most l.self.links l.ids
