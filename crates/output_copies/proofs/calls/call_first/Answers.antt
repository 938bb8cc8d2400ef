use Rattle.std.proofs.Common.{◌<◌, arith, get_or, length, sym, subst}
use Rattle.std.specs.Fork.{ChangesAt}
use Rattle.std.proofs.lemmas.List.{get_or_default, get_or-set_same, length-set}
use Rattle.output_copies.proofs.calls.call_first.Goals as goal

pub returns : goal.returns
returns g c =
    let one = c.requires.one in
    let xs = c.args.one.now in
    let y = c.call_at.new.it in
    let some : 0 < length c.args.one.now = omega arith in
    record {
      count = length-set xs 0 y;
      changes = λ d.
          subst (λ v. ChangesAt g.F.Fn c.args.f.now c.args.from (get_or c.args.one.now 0 d) v) (sym (get_or-set_same xs 0 y d some))
          (subst (λ v. ChangesAt g.F.Fn c.args.f.now c.args.from v c.call_at.new.it) (get_or_default xs 0 _ d some) c.call_at.ensures);
    }
