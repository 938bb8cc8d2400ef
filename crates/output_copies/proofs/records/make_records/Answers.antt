use Rattle.std.proofs.Common.{arith, subst, ℕ}
use Rattle.output_copies.specs.Packed.{AreMade}
use Rattle.output_copies.proofs.Ends.{ends_ok}
use Rattle.output_copies.proofs.Packs.{made_none}
use Rattle.output_copies.proofs.records.make_records.Goals as goal

pub returns-then-is_empty-clause-made : goal.returns-then-is_empty-clause-made
returns-then-is_empty-clause-made g c =
    let t = c.args.task.now.translation.now in
    let w = c.args.task.now.packing in
    let top = c.args.portion.top in
    let packed = c.args.desk.now.packed.items in
    subst (λ (n : ℕ). AreMade g.S.Scene.told t.cat t.id t.plan w top packed n n 0) (c.is_empty.ensures.empty c.if-is_empty.true) (made_none g.S.Scene.told t.cat t.id t.plan w top packed)

pub returns-then-is_empty-clause-ends : goal.returns-then-is_empty-clause-ends
returns-then-is_empty-clause-ends g c = ends_ok tt g.S.Scene.told _ _ 0 0 (omega arith) (omega arith)

pub make_some-requires-clause-order : goal.make_some-requires-clause-order
make_some-requires-clause-order g c κs within = let other = c.is_empty.ensures.some c.if-is_empty.false in omega (arith, other, c.requires.order)
