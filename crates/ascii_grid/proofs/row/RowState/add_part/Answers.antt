use Rattle.std.proofs.Common.{◌∙◌, ap, sym, get_or}
use Rattle.std.proofs.lemmas.List.{take_more}
use Rattle.ascii_grid.specs.Row.{reading, row_fed}
use Rattle.ascii_grid.proofs.row.RowState.add_part.Goals as goal

pub returns-in-Some-clause-fed : goal.returns-in-Some-clause-fed
returns-in-Some-clause-fed c =
    let o = c.in-Some.ensures in
    c.add_whole.ensures.fed (get_or c.args.bytes.now c.in-Some.n 0) o.white ∙ ap
    (row_fed (reading c.args.self.now c.args.out.now)) (sym (take_more c.args.bytes.now c.in-Some.n 0 o.within))

pub returns-then-n-gt0-clause-fed : goal.returns-then-n-gt0-clause-fed
returns-then-n-gt0-clause-fed c = c.add_white.ensures.fed c.args.out.now

pub returns-then-n-bytes-clause-fed : goal.returns-then-n-bytes-clause-fed
returns-then-n-bytes-clause-fed c =
    c.add_whole-then-n-bytes.ensures.fed (get_or c.args.bytes.now c.dark_len-n.result 0)
    (c.dark_len-n.ensures.white c.if-n-bytes.true)
    ∙ ap (row_fed (reading c.args.self.now c.args.out.now))
    (sym (take_more c.args.bytes.now c.dark_len-n.result 0 c.if-n-bytes.true))
