use Rattle.std.proofs.Common.{◌≡◌, ◌∙◌, ◌-◌, ap, arith, length, subst, sym, ℕ, List, Err}
use Rattle.std.specs.List.{All}
use Rattle.output_copies.proofs.Kept.{put_back}
use Rattle.strip_copies.specs.Portions.{makes_columns}
use Rattle.write_back.specs.Packed.{block_len}
use Rattle.output_copies.specs.Copying.{TellsChange}
use Rattle.output_copies.specs.Packed.{records_in, AreColumnFronts, AreMade, IsBlockFor}
use Rattle.error_lines.specs.declared.faults.Fault.{Fault}
use Rattle.error_lines.specs.declared.faults.Fault.TheVariants.{Memory}
use Rattle.output_copies.proofs.Changes.{handed_on, memory_tells}
use Rattle.output_copies.proofs.Ends.{ends_memory, ends_ok, ends_so, err_is}
use Rattle.output_copies.proofs.records.make_some.Goals as goal

pub make_columns-requires-clause-run : goal.make_columns-requires-clause-run
make_columns-requires-clause-run g c κs within = omega (arith, c.in_ok-run.ensures.long, ap length c.as_mut_slice-room.ensures.value)

pub returns-in_err-run-clause-ends : goal.returns-in_err-run-clause-ends
returns-in_err-run-clause-ends g c =
    let x = c.in_err-run.field-0.0 in
    let view = g.F.Folder.faults c.args.desk.now.view in
    ends_so g.S.Scene.told view view 0 0 Memory c.from_residual.result (err_is c.from_residual.result x c.from_residual.ensures ∙ ap (λ (f : Fault). Err f) c.in_err-run.ensures.memory)
    (ends_memory {T = Unit {0}} g.S.Scene.told view view 0 0 (omega arith) (omega arith))

pub returns-in_err-run-clause-changed : goal.returns-in_err-run-clause-changed
returns-in_err-run-clause-changed g c =
    let cat = c.args.task.now.translation.now.cat in
    let x = c.in_err-run.field-0.0 in
    handed_on (TellsChange cat) x c.from_residual.result c.from_residual.ensures (memory_tells cat x c.in_err-run.ensures.memory)

pub pack_columns-requires-clause-columns : goal.pack_columns-requires-clause-columns
pack_columns-requires-clause-columns g c κs within = sym c.requires.task.columns ∙ ap makes_columns c.requires.form

pub pack_columns-requires-clause-order : goal.pack_columns-requires-clause-order
pack_columns-requires-clause-order g c κs within = omega (arith, c.requires.order)

pub pack_columns-requires-clause-count : goal.pack_columns-requires-clause-count
pack_columns-requires-clause-count g c κs within =
    ap length c.as_slice-records.ensures.value ∙ c.in_ok-make_columns.ensures.desk.count ∙ ap (λ f. records_in f c.args.task.now.rows) c.requires.form

pub pack_columns-requires-clause-blocks : goal.pack_columns-requires-clause-blocks
pack_columns-requires-clause-blocks g c κs within = subst (All (IsBlockFor c.args.task.now.packing)) (sym c.as_slice-records.ensures.value) c.in_ok-make_columns.ensures.desk.each

pub pack_columns-requires-clause-fronts : goal.pack_columns-requires-clause-fronts
pack_columns-requires-clause-fronts g c κs within =
    let t = c.args.task.now.translation.now in
    subst (AreColumnFronts g.S.Scene.told t.cat t.id t.plan c.args.task.now.packing c.args.portion.top (c.args.portion.end - c.args.portion.top) t.plan.size.h) (sym c.as_slice-records.ensures.value) c.in_ok-make_columns.ensures.fronts

pub pack_columns-requires-clause-long : goal.pack_columns-requires-clause-long
pack_columns-requires-clause-long g c κs within = ap length c.as_mut_slice-packed.ensures.value ∙ c.in_ok-make_columns.ensures.desk.packs.long

pub pack_columns-requires-clause-each : goal.pack_columns-requires-clause-each
pack_columns-requires-clause-each g c κs within = subst (All (λ (b : List ℕ). length b ≡ block_len c.args.task.now.packing)) (sym c.as_mut_slice-packed.ensures.value) c.in_ok-make_columns.ensures.desk.packs.each

pub returns-clause-made : goal.returns-clause-made
returns-clause-made g c =
    let t = c.args.task.now.translation.now in
    let was = c.make_columns.new.desk.packed in
    let whole = put_back was.len c.pack_columns.new.packed was.items (sym (c.pack_columns.auto.packed ∙ c.as_mut_slice-packed.ensures.len)) in
    subst (λ (l : List (List ℕ)). AreMade g.S.Scene.told t.cat t.id t.plan c.args.task.now.packing c.args.portion.top l c.args.portion.end c.args.portion.end 0) (sym whole) c.pack_columns.ensures.made

pub returns-clause-desk : goal.returns-clause-desk
returns-clause-desk g c =
    let was = c.make_columns.new.desk.packed in
    let whole = put_back was.len c.pack_columns.new.packed was.items (sym (c.pack_columns.auto.packed ∙ c.as_mut_slice-packed.ensures.len)) in
    let desk = c.in_ok-make_columns.ensures.desk in
    record {
      wide = desk.wide;
      packs = record {
        block_is = desk.packs.block_is;
        long = ap length whole ∙ c.pack_columns.auto.packed ∙ ap length c.as_mut_slice-packed.ensures.value ∙ desk.packs.long;
        each = subst (All (λ (b : List ℕ). length b ≡ block_len c.args.task.now.packing)) (sym whole) c.pack_columns.ensures.each;
      };
      count = desk.count;
      each = desk.each;
    }

pub returns-clause-ends : goal.returns-clause-ends
returns-clause-ends g c = ends_ok tt g.S.Scene.told _ _ 0 0 c.in_ok-make_columns.ensures.ends.cause.folder_later (omega arith)

pub returns-in_err-make_columns-clause-changed : goal.returns-in_err-make_columns-clause-changed
returns-in_err-make_columns-clause-changed g c =
    let cat = c.args.task.now.translation.now.cat in
    let x = c.in_err-make_columns.field-0.0 in
    handed_on (TellsChange cat) x c.from_residual-in_err-make_columns.result c.from_residual-in_err-make_columns.ensures c.in_err-make_columns.ensures.changed
