use Rattle.std.proofs.Common.{ℕ, ◌-◌, ◌*◌, List, Option}
use Rattle.outside.specs.Outside.{Files}
use Rattle.strip_copies.specs.Rows.{strip_rect, AreSamples, IsStrip}
use Rattle.strip_copies.proofs.making.make_lines.Given as goal

-- the rows so far
abbrev pub invariant-loop-line : goal.invariant-loop-line
invariant-loop-line l = (told : Option Files) (name : List ℕ) → IsStrip told name l.making.plan.now l.making.band (strip_rect l.making.columns.now l.run.span) l.strip → AreSamples told name l.making.plan.now l.making.size l.making.band l.run.first ((l.line - l.run.first) * l.making.plan.now.size.w) l.out
