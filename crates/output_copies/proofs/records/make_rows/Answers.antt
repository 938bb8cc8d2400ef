use Rattle.std.proofs.Common.{◌∙◌, ◌≤◌, ◌-◌, ◌*◌, ap, sym, subst, arith, length, Err, Option}
use Rattle.std.specs.List.{All}
use Rattle.std.proofs.Math.Nat.{mul-le-mul}
use Rattle.outside.specs.Outside.{Files}
use Rattle.output_copies.proofs.Kept.{put_back}
use Rattle.strip_copies.specs.Pieces.{piece_rect}
use Rattle.strip_copies.specs.Portions.{makes_columns, reads_pieces}
use Rattle.output_copies.specs.Copying.{MayEnd, TellsChange}
use Rattle.output_copies.specs.Packed.{records_in, room_in, AreColumnFronts, IsBlockFor}
use Rattle.output_copies.specs.Parts.{BeginsWithIn}
use Rattle.output_copies.proofs.Changes.{handed_on}
use Rattle.output_copies.proofs.Ends.{ends_ok, ends_so, err_is}
use Rattle.output_copies.proofs.records.make_rows.Goals as goal

pub fill_piece-requires-clause-copied : goal.fill_piece-requires-clause-copied
fill_piece-requires-clause-copied g c κs within = c.requires.task.form_is.copied (ap reads_pieces c.requires.form)

pub fill_piece-requires-clause-long : goal.fill_piece-requires-clause-long
fill_piece-requires-clause-long g c κs within =
    let p = c.args.task.now.translation.now.plan in
    let less : (c.args.piece.right - c.args.piece.left) * (c.args.piece.end - c.args.piece.first) ≤ c.args.task.now.rows * c.args.task.now.step = mul-le-mul c.requires.few c.requires.low in
    let wide : c.args.task.now.rows * c.args.task.now.step ≤ length c.args.desk.now.room.items = subst (λ f. room_in f p c.args.task.now.rows c.args.task.now.step ≤ length c.args.desk.now.room.items) c.requires.form c.requires.desk.wide in
    omega (arith, less, wide)

pub put_front-requires-clause-columns : goal.put_front-requires-clause-columns
put_front-requires-clause-columns g c κs within = sym c.requires.task.columns ∙ ap makes_columns c.requires.form

pub put_front-requires-clause-long : goal.put_front-requires-clause-long
put_front-requires-clause-long g c κs within =
    let p = c.args.task.now.translation.now.plan in
    let less : (c.args.piece.right - c.args.piece.left) * (c.args.piece.end - c.args.piece.first) ≤ c.args.task.now.rows * c.args.task.now.step = mul-le-mul c.requires.few c.requires.low in
    let wide : c.args.task.now.rows * c.args.task.now.step ≤ length c.args.desk.now.room.items = subst (λ f. room_in f p c.args.task.now.rows c.args.task.now.step ≤ length c.args.desk.now.room.items) c.requires.form c.requires.desk.wide in
    omega (arith, less, wide, c.in_ok-fill_piece.ensures.size, ap length c.as_slice-samples.ensures.value)

pub put_front-requires-clause-read : goal.put_front-requires-clause-read
put_front-requires-clause-read g c κs within =
    let t = c.args.task.now.translation.now in
    subst (BeginsWithIn g.S.Scene.told t.cat t.id t.plan c.args.piece.band (piece_rect c.args.piece)) (sym c.as_slice-samples.ensures.value)
    (subst (λ (o : Option Files). BeginsWithIn o t.cat t.id t.plan c.args.piece.band (piece_rect c.args.piece) c.fill_piece.new.room.items) (sym c.requires.ready.told_is) c.in_ok-fill_piece.ensures.read)

pub put_front-requires-clause-few : goal.put_front-requires-clause-few
put_front-requires-clause-few g c κs within =
    let count = c.requires.desk.count ∙ ap (λ f. records_in f c.args.task.now.rows) c.requires.form in
    omega (arith, c.requires.few, count, ap length c.as_mut_slice-records.ensures.value)

pub put_front-requires-clause-blocks : goal.put_front-requires-clause-blocks
put_front-requires-clause-blocks g c κs within = subst (All (IsBlockFor c.args.task.now.packing)) (sym c.as_mut_slice-records.ensures.value) c.requires.desk.each

pub put_front-requires-clause-fronts : goal.put_front-requires-clause-fronts
put_front-requires-clause-fronts g c κs within =
    let t = c.args.task.now.translation.now in
    subst (AreColumnFronts g.S.Scene.told t.cat t.id t.plan c.args.task.now.packing c.args.piece.left (c.args.piece.right - c.args.piece.left) c.args.piece.first) (sym c.as_mut_slice-records.ensures.value) c.requires.fronts

pub returns-clause-fronts : goal.returns-clause-fronts
returns-clause-fronts g c =
    let t = c.args.task.now.translation.now in
    let whole = put_back c.args.desk.now.records.len c.put_front.new.records c.args.desk.now.records.items (sym (c.put_front.auto.records ∙ c.as_mut_slice-records.ensures.len)) in
    subst (AreColumnFronts g.S.Scene.told t.cat t.id t.plan c.args.task.now.packing c.args.piece.left (c.args.piece.right - c.args.piece.left) c.args.piece.end) (sym whole) c.put_front.ensures.fronts

pub returns-clause-desk : goal.returns-clause-desk
returns-clause-desk g c =
    let whole = put_back c.args.desk.now.records.len c.put_front.new.records c.args.desk.now.records.items (sym (c.put_front.auto.records ∙ c.as_mut_slice-records.ensures.len)) in
    let was = c.requires.desk in
    record {
      wide = omega (arith, was.wide, c.in_ok-fill_piece.ensures.size);
      packs = was.packs;
      count = ap length whole ∙ c.put_front.auto.records ∙ ap length c.as_mut_slice-records.ensures.value ∙ was.count;
      each = subst (All (IsBlockFor c.args.task.now.packing)) (sym whole) c.put_front.ensures.blocks;
    }

pub returns-in_err-fill_piece-clause-desk : goal.returns-in_err-fill_piece-clause-desk
returns-in_err-fill_piece-clause-desk g c =
    let was = c.requires.desk in
    record { wide = omega (arith, was.wide, c.in_err-fill_piece.ensures.size); packs = was.packs; count = was.count; each = was.each }

pub returns-in_err-fill_piece-clause-changed : goal.returns-in_err-fill_piece-clause-changed
returns-in_err-fill_piece-clause-changed g c =
    let cat = c.args.task.now.translation.now.cat in
    let x = c.in_err-fill_piece.field-0.0 in
    handed_on (TellsChange cat) x c.from_residual.result c.from_residual.ensures c.in_err-fill_piece.ensures.changed

pub returns-in_err-fill_piece-clause-ends : goal.returns-in_err-fill_piece-clause-ends
returns-in_err-fill_piece-clause-ends g c =
    let x = c.in_err-fill_piece.field-0.0 in
    ends_so g.S.Scene.told (g.F.Folder.faults c.args.desk.now.view) _ 0 0 x c.from_residual.result (err_is c.from_residual.result x c.from_residual.ensures)
    (subst (λ (o : Option Files). MayEnd {T = Unit {0}} o (g.F.Folder.faults c.args.desk.now.view) (g.F.Folder.faults c.fill_piece.new.folder) 0 0 (Err x)) (sym c.requires.ready.told_is) c.in_err-fill_piece.ensures.ends)

pub returns-clause-ends : goal.returns-clause-ends
returns-clause-ends g c = ends_ok tt g.S.Scene.told _ _ 0 0 c.in_ok-fill_piece.ensures.ends.cause.folder_later (omega arith)
