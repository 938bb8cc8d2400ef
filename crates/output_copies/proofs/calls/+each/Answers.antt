use Rattle.std.proofs.Common.{arith, length-append, refl}
use Rattle.std.specs.Fork.{AcceptsAt, ChangesAt}
use Rattle.output_copies.proofs.Numbered.{of_both, of_first, of_one, of_only, of_others}
use Rattle.output_copies.proofs.calls.+each.Goals as goal

pub each_from-call_first-requires-clause-accepts : goal.each_from-call_first-requires-clause-accepts
each_from-call_first-requires-clause-accepts g t c = of_one (AcceptsAt g.F.Fn c.args.f.now) c.args.from c.args.values.now c.requires.some c.requires.accepts

pub each_from-returns-then-count-eq1 : goal.each_from-returns-then-count-eq1
each_from-returns-then-count-eq1 g t c = record {
  count = c.call_first.ensures.count;
  changes = of_only (ChangesAt g.F.Fn c.args.f.now) c.args.from c.args.values.now c.call_first.new.one c.if-count-eq1.true c.call_first.ensures.changes;
}

pub each_from-one_and_others-requires-clause-front : goal.each_from-one_and_others-requires-clause-front
each_from-one_and_others-requires-clause-front g t c κs within =
    let cut = c.split_at_mut-one in
    of_first (AcceptsAt g.F.Fn c.args.f.now) c.args.from c.args.values.now cut.result.0.now cut.result.1.now cut.ensures.value cut.ensures.front_len c.requires.accepts

pub each_from-one_and_others-requires-clause-back : goal.each_from-one_and_others-requires-clause-back
each_from-one_and_others-requires-clause-back g t c κs within =
    let cut = c.split_at_mut-one in
    of_others (AcceptsAt g.F.Fn c.args.f.now) c.args.from c.args.values.now cut.result.0.now cut.result.1.now cut.ensures.value cut.ensures.front_len c.requires.accepts

pub each_from-returns : goal.each_from-returns
each_from-returns g t c =
    let cut = c.split_at_mut-one in
    let o = c.one_and_others.ensures in
    let new = length-append c.one_and_others.new.one c.one_and_others.new.others in
    record {
      count = omega (arith, new, o.front.count, o.back.count, cut.ensures.front_len, cut.ensures.back_len);
      changes =
          of_both (ChangesAt g.F.Fn c.args.f.now) c.args.from c.args.values.now _ cut.result.0.now cut.result.1.now _ _ cut.ensures.value refl cut.ensures.front_len o.front.count o.front.changes o.back.changes;
    }
