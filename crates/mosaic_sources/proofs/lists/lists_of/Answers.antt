use Rattle.std.proofs.Common.{[], ap, arith, get_or, ◌∙◌}
use Rattle.std.proofs.lemmas.List.{take_all}
use Rattle.mosaic_sources.specs.Stretches.{holding_lines}
use Rattle.mosaic_sources.specs.Rows.{is_in_span}
use Rattle.mosaic_sources.proofs.Passing.{passing_here}
use Rattle.mosaic_sources.proofs.lists.lists_of.Goals as goal

pub loop-number-preserved : goal.loop-number-preserved
loop-number-preserved c =
    let before = c.loop-number.invariant in
    let more = c.in_ok-add_between.ensures in
    record {
      count = more.count ∙ before.count;
      lists = λ k less. passing_here (λ s. is_in_span s k) c.args.stretches.now c.loop-number.number _ (get_or c.loop-number.lists.items k []) (get_or c.add_between.new.lists.items k []) c.loop-number-test.true (before.lists k less) (more.lists k (omega (arith, before.count, less)));
    }

pub returns-clause-lists : goal.returns-clause-lists
returns-clause-lists c = λ k less. c.loop-number.invariant.lists k less ∙ ap (λ l. holding_lines l k) (take_all c.loop-number.number c.args.stretches.now c.loop-number-test.false)
