use Rattle.std.proofs.Common.{◌≡◌, ◌∙◌, ap, false, refl, sym, arith, subst}
use Rattle.translate_plan.specs.Plan.{Planned}
use Rattle.write_back.specs.Forms.{cut_of}
use Rattle.strip_copies.specs.Portions.{makes_columns}
use Rattle.output_copies.specs.Copying.{TellsChange}
use Rattle.output_copies.specs.Packed.{AreFronts}
use Rattle.output_copies.proofs.Changes.{handed_on}
use Rattle.output_copies.proofs.Fronts.{front_none}
use Rattle.output_copies.proofs.Packs.{is_lined, line_spots, made_fronts}
use Rattle.output_copies.proofs.pieces.make_band.Goals as goal

pub loop-left-init : goal.loop-left-init
loop-left-init g c =
    let t = c.args.task.now.translation.now in
    record {
      low = omega arith;
      ready = c.requires.ready;
      room = c.requires.room;
      desk = c.requires.desk;
      made = c.requires.made;
      fronts = λ y low high. front_none g.S.Scene.told t.cat t.id t.plan false c.args.band y _;
      names = refl;
      later = omega arith;
    }

pub make_piece-requires-clause-piece : goal.make_piece-requires-clause-piece
make_piece-requires-clause-piece g c κs within =
    let wide : c.plan.inside.size.w ≡ c.args.task.now.translation.now.plan.size.w = ap (λ (p : Planned). p.size.w) c.plan.view_is in
    let some = c.requires.task.some_step in
    record {
      band = c.requires.band;
      lines = c.requires.order;
      height = c.requires.end;
      columns = omega (arith, some, c.min.ensures, c.loop-left-test.true);
      width = omega (arith, wide, c.min.ensures, c.loop-left-test.true);
    }

pub make_piece-requires-clause-narrow : goal.make_piece-requires-clause-narrow
make_piece-requires-clause-narrow g c κs within = omega (arith, c.min.ensures)

pub loop-left-smaller : goal.loop-left-smaller
loop-left-smaller g c = let some = c.requires.task.some_step in omega (arith, some, c.min.ensures, c.loop-left-test.true)

pub returns-clause-made : goal.returns-clause-made
returns-clause-made g c =
    let t = c.args.task.now.translation.now in
    let w = c.args.task.now.packing in
    let before = c.loop-left.invariant in
    let wide : c.plan.inside.size.w ≡ c.args.task.now.translation.now.plan.size.w = ap (λ (p : Planned). p.size.w) c.plan.view_is in
    let lined = is_lined w c.requires.task.apart (sym c.requires.task.columns ∙ ap makes_columns c.requires.form) in
    let spots = line_spots t.plan w c.rules.ensures.kept c.requires.task.output lined in
    let all : c.loop-left.left ≡ (cut_of c.args.task.now.packing).spots = omega (arith, before.low, c.loop-left-test.false, wide, spots) in
    made_fronts g.S.Scene.told t.cat t.id t.plan w c.args.portion.top c.loop-left.desk.packed.items c.args.portion.top c.args.portion.end c.args.band lined before.made
    (subst (λ n. AreFronts g.S.Scene.told t.cat t.id t.plan w c.args.portion.top c.loop-left.desk.packed.items c.args.portion.top c.args.portion.end c.args.band n) all before.fronts)

pub returns-in_err-make_piece-clause-changed : goal.returns-in_err-make_piece-clause-changed
returns-in_err-make_piece-clause-changed g c =
    let cat = c.args.task.now.translation.now.cat in
    let x = c.in_err-make_piece.field-0.0 in
    handed_on (TellsChange cat) x c.from_residual.result c.from_residual.ensures c.in_err-make_piece.ensures.changed
