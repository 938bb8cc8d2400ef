use Rattle.std.proofs.Common.{◌≡◌, drop}
use Rattle.lists_and_answers.specs.Lists.{flattened}
use Rattle.catalog.specs.Linked.{first_above}
use Rattle.catalog.proofs.links.Met.first_above.Given as goal

-- the first is in the rows that are left
abbrev pub invariant-loop-row : goal.invariant-loop-row
invariant-loop-row l = first_above l.self.links l.room (flattened (drop l.row-index l.rows)) ≡ first_above l.self.links l.room (flattened l.rows)
