use Rattle.std.proofs.Common.{◌≡◌, drop}
use Rattle.std.specs.Prelude.{max}
use Rattle.lists_and_answers.specs.Lists.{flattened}
use Rattle.catalog.specs.Linked.{most}
use Rattle.catalog.proofs.links.Met.highest.Given as goal

-- the greatest height so far, and of the rows that are left
abbrev pub invariant-loop-row : goal.invariant-loop-row
invariant-loop-row l = max l.height (most l.self.links (flattened (drop l.row-index l.rows))) ≡ most l.self.links (flattened l.rows)
