use Rattle.std.proofs.Common.{ap, sym}
use Rattle.output_copies.proofs.Handed.{may_put_at}
use Rattle.output_copies.proofs.rounds.write_and_make.Goals as goal

pub do_both-requires-clause-may_put : goal.do_both-requires-clause-may_put
do_both-requires-clause-may_put g c κs within =
    let t = c.args.task.now.translation.now in
    let e = c.who_writes-writing.ensures in
    may_put_at g.F.Folder g.S.Scene.told t.cat t.id t.plan c.args.task.now.packing c.args.task.now.form c.args.task.now.rows c.args.task.now.step c.args.round.first _ _ _ _ _ _ c.requires.may_put
    (ap (λ x. x.now) (sym e.folder)) (ap (λ x. x.now) (sym e.target)) (ap (λ x. x.now.items) (sym e.made))
