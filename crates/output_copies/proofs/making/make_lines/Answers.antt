use Rattle.std.proofs.Common.{◌∙◌, ◌+◌, ap, sym, subst, arith, length, ℕ, List, Err, Option}
use Rattle.outside.specs.Outside.{Files}
use Rattle.output_copies.proofs.Kept.{put_back}
use Rattle.strip_copies.specs.Portions.{makes_columns}
use Rattle.output_copies.specs.Copying.{MayEnd, TellsChange}
use Rattle.output_copies.specs.Packed.{AreMade, ArePacks}
use Rattle.output_copies.specs.Parts.{BeginsWith}
use Rattle.output_copies.proofs.Changes.{handed_on}
use Rattle.output_copies.proofs.Ends.{ends_ok, ends_so, err_is}
use Rattle.output_copies.proofs.making.make_lines.Goals as goal

pub pack_front-requires-clause-lines : goal.pack_front-requires-clause-lines
pack_front-requires-clause-lines g c κs within = sym c.requires.task.columns ∙ ap makes_columns c.requires.lines

pub pack_front-requires-clause-packs : goal.pack_front-requires-clause-packs
pack_front-requires-clause-packs g c κs within =
    subst (ArePacks c.args.task.now.translation.now.plan c.args.task.now.packing c.args.task.now.rows c.args.desk.now.block) (sym c.as_mut_slice-packed.ensures.value) c.requires.desk.packs

pub pack_front-requires-clause-long : goal.pack_front-requires-clause-long
pack_front-requires-clause-long g c κs within = omega (arith, c.requires.long, c.in_ok-fill_front.ensures.size, ap length c.as_slice-samples.ensures.value)

pub pack_front-requires-clause-read : goal.pack_front-requires-clause-read
pack_front-requires-clause-read g c κs within =
    let t = c.args.task.now.translation.now in
    subst (BeginsWith g.S.Scene.told t.cat t.id t.plan c.args.lines) (sym c.as_slice-samples.ensures.value)
    (subst (λ (o : Option Files). BeginsWith o t.cat t.id t.plan c.args.lines c.fill_front.new.room.items) (sym c.requires.ready.told_is) c.in_ok-fill_front.ensures.read)

pub pack_front-requires-clause-made : goal.pack_front-requires-clause-made
pack_front-requires-clause-made g c κs within =
    let t = c.args.task.now.translation.now in
    subst (λ (l : List (List ℕ)). AreMade g.S.Scene.told t.cat t.id t.plan c.args.task.now.packing c.args.top l c.args.lines.first c.args.lines.end c.args.lines.band) (sym c.as_mut_slice-packed.ensures.value) c.requires.made

pub returns-clause-made : goal.returns-clause-made
returns-clause-made g c =
    let t = c.args.task.now.translation.now in
    let whole = put_back c.args.desk.now.packed.len c.pack_front.new.packed c.args.desk.now.packed.items (sym (c.pack_front.auto.packed ∙ c.as_mut_slice-packed.ensures.len)) in
    subst (λ (l : List (List ℕ)). AreMade g.S.Scene.told t.cat t.id t.plan c.args.task.now.packing c.args.top l c.args.lines.first c.args.lines.end (c.args.lines.band + 1)) (sym whole) c.pack_front.ensures.made

pub returns-clause-desk : goal.returns-clause-desk
returns-clause-desk g c =
    let whole = put_back c.args.desk.now.packed.len c.pack_front.new.packed c.args.desk.now.packed.items (sym (c.pack_front.auto.packed ∙ c.as_mut_slice-packed.ensures.len)) in
    let was = c.requires.desk in
    record {
      wide = omega (arith, was.wide, c.in_ok-fill_front.ensures.size);
      packs = subst (ArePacks c.args.task.now.translation.now.plan c.args.task.now.packing c.args.task.now.rows c.pack_front.new.block) (sym whole) c.pack_front.ensures.packs;
      count = was.count;
      each = was.each;
    }

pub returns-in_err-fill_front-clause-desk : goal.returns-in_err-fill_front-clause-desk
returns-in_err-fill_front-clause-desk g c =
    let was = c.requires.desk in
    record { wide = omega (arith, was.wide, c.in_err-fill_front.ensures.size); packs = was.packs; count = was.count; each = was.each }

pub returns-in_err-fill_front-clause-changed : goal.returns-in_err-fill_front-clause-changed
returns-in_err-fill_front-clause-changed g c =
    let cat = c.args.task.now.translation.now.cat in
    let x = c.in_err-fill_front.field-0.0 in
    handed_on (TellsChange cat) x c.from_residual.result c.from_residual.ensures c.in_err-fill_front.ensures.changed

pub returns-in_err-fill_front-clause-ends : goal.returns-in_err-fill_front-clause-ends
returns-in_err-fill_front-clause-ends g c =
    let x = c.in_err-fill_front.field-0.0 in
    ends_so g.S.Scene.told (g.F.Folder.faults c.args.desk.now.view) _ 0 0 x c.from_residual.result (err_is c.from_residual.result x c.from_residual.ensures)
    (subst (λ (o : Option Files). MayEnd {T = Unit {0}} o (g.F.Folder.faults c.args.desk.now.view) (g.F.Folder.faults c.fill_front.new.folder) 0 0 (Err x)) (sym c.requires.ready.told_is) c.in_err-fill_front.ensures.ends)

pub returns-clause-ends : goal.returns-clause-ends
returns-clause-ends g c = ends_ok tt g.S.Scene.told _ _ 0 0 c.in_ok-fill_front.ensures.ends.cause.folder_later (omega arith)
