use Rattle.std.proofs.Common.{◌≡◌, ◌∙◌, ap, sym, arith, length}
use Rattle.std.specs.List.{list_all}
use Rattle.std.specs.Str.Lines.{lines}
use Rattle.std.proofs.lemmas.Bool.{eqb-false, eqb-true, both_ways}
use Rattle.input_points.specs.Lines.{is_in_line, ended_lines}
use Rattle.input_points.specs.Reading.{Reading}
use Rattle.input_points.proofs.PieceCalls.{nothing_comes, over_nothing, none_ended, past_comes, last_over, kept_nothing}
use Rattle.input_points.proofs.reading.PointLines.next.Goals as goal

pub returns-then-self-clause-all : goal.returns-then-self-clause-all
returns-then-self-clause-all c more = nothing_comes lines c.args.self.now c.args.piece.now more (ap (λ (r : Reading). r.over) (sym c.self.view_is) ∙ c.if-self.true)

pub returns-then-self-clause-ended : goal.returns-then-self-clause-ended
returns-then-self-clause-ended c _ more = nothing_comes ended_lines c.args.self.now c.args.piece.now more (ap (λ (r : Reading). r.over) (sym c.self.view_is) ∙ c.if-self.true)

pub returns-then-self-clause-given : goal.returns-then-self-clause-given
returns-then-self-clause-given c = none_ended c.args.self.now (ap (λ (r : Reading). list_all is_in_line r.held) (sym c.self.view_is) ∙ c.self.invariant.4)

pub returns-then-is_empty-clause-given : goal.returns-then-is_empty-clause-given
returns-then-is_empty-clause-given c = none_ended c.args.self.now (ap (λ (r : Reading). list_all is_in_line r.held) (sym c.self.view_is) ∙ c.self.invariant.4)

pub returns-then-self-gt-MOST_LINES-clause-all : goal.returns-then-self-gt-MOST_LINES-clause-all
returns-then-self-gt-MOST_LINES-clause-all c more = past_comes c.args.self.now c.answer.new.self c.args.piece.now c.answer.result more _ (ap (λ (r : Reading). r.over) (sym c.self.view_is) ∙ c.if-self.false) (omega (arith, ap (λ (r : Reading). r.line) c.self.view_is, c.if-self-gt-MOST_LINES.true)) (omega (arith, eqb-false (length c.args.piece.now) 0 (sym c.is_empty.ensures ∙ c.if-is_empty.false))) c.answer.ensures.entry c.answer.ensures.state

pub returns-then-self-gt-MOST_LINES-clause-last : goal.returns-then-self-gt-MOST_LINES-clause-last
returns-then-self-gt-MOST_LINES-clause-last c _ more = over_nothing lines c.answer.new.self more (ap (λ (r : Reading). r.over) c.answer.ensures.state)

pub returns-then-self-gt-MOST_LINES-clause-given : goal.returns-then-self-gt-MOST_LINES-clause-given
returns-then-self-gt-MOST_LINES-clause-given c = none_ended c.answer.new.self (ap (λ (r : Reading). list_all is_in_line r.held) c.answer.ensures.state)

pub returns-clause-given : goal.returns-clause-given
returns-clause-given c = none_ended c.read.new.self c.read.ensures.inside

pub returns-clause-last : goal.returns-clause-last
returns-clause-last c = last_over c.read.result.0 c.read.new.self c.read.ensures.last

pub returns-then-self-clause-kept : goal.returns-then-self-clause-kept
returns-then-self-clause-kept c _ going = absurd (both_ways c.args.self.now.over going (ap (λ (r : Reading). r.over) (sym c.self.view_is) ∙ c.if-self.true))

pub returns-then-self-clause-few : goal.returns-then-self-clause-few
returns-then-self-clause-few c _ = let size : length c.args.self.now.held ≡ length c.self.inside.bytes.items = ap (λ (r : Reading). length r.held) (sym c.self.view_is) in omega (arith, size, c.self.invariant.2)

pub returns-then-is_empty-clause-kept : goal.returns-then-is_empty-clause-kept
returns-then-is_empty-clause-kept c _ _ = kept_nothing c.args.self.now c.args.piece.now (eqb-true (length c.args.piece.now) 0 (sym c.is_empty.ensures ∙ c.if-is_empty.true))

pub returns-then-is_empty-clause-few : goal.returns-then-is_empty-clause-few
returns-then-is_empty-clause-few c _ = let size : length c.args.self.now.held ≡ length c.self.inside.bytes.items = ap (λ (r : Reading). length r.held) (sym c.self.view_is) in omega (arith, size, c.self.invariant.2)
