use Rattle.std.proofs.Common.{sym, ◌∙◌}
use Rattle.std.proofs.lemmas.Bool.{eqb-true}
use Rattle.std.proofs.lemmas.List.{nil_from_length}
use Rattle.ascii_grid.proofs.Rows.{full_more, closed_more, ended_more, counted}
use Rattle.ascii_grid.proofs.row.RowState.read.Goals as goal

pub returns-clause-row : goal.returns-clause-row
returns-clause-row c text f full = full_more c.args.self.now c.take.new.self c.args.out.now c.take.new.out text c.args.bytes.now f c.take.ensures.fed c.take.ensures.over c.take.ensures.size (eqb-true _ _ (sym c.is_full.ensures ∙ full))

pub returns-then-is_empty-clause-row : goal.returns-then-is_empty-clause-row
returns-then-is_empty-clause-row c text f whole = closed_more c.args.self.now c.args.out.now c.close.new.out text c.args.bytes.now f (nil_from_length c.args.bytes.now (eqb-true _ _ (sym c.is_empty.ensures ∙ c.if-is_empty.true))) c.close.ensures.row c.close.ensures.size

pub returns-clause-ended : goal.returns-clause-ended
returns-clause-ended c text f some = c.is_full.ensures ∙ ended_more c.args.self.now c.take.new.self c.args.out.now c.take.new.out text c.args.bytes.now f c.take.ensures.fed c.take.ensures.over c.take.ensures.size

pub returns-clause-counted : goal.returns-clause-counted
returns-clause-counted c some going = counted c.args.self.now c.take.new.self c.args.out.now c.take.new.out c.args.bytes.now c.requires c.take.ensures.fed
