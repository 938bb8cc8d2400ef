use Rattle.std.proofs.Common.{◌∙◌, sym}
use Rattle.command_words.proofs.Tables.{row_passed, row_met}
use Rattle.command_words.proofs.options.option_in.Goals as goal

pub returns-then-eq : goal.returns-then-eq
returns-then-eq c = row_met c.args.table.now c.args.word.now c.loop-name.name-index _ c.loop-name-test.true (sym c.eq.ensures ∙ c.if-eq.true) ∙ c.loop-name.invariant

pub loop-name-preserved : goal.loop-name-preserved
loop-name-preserved c = row_passed c.args.table.now c.args.word.now c.loop-name.name-index _ c.loop-name-test.true (sym c.eq.ensures ∙ c.if-eq.false) ∙ c.loop-name.invariant
