use Rattle.std.proofs.Common.{◌≡◌, ◌∙◌, ◌+◌, ◌-◌, ◌<◌, [], ap, sym, subst, arith, get_or, length, Bool}
use Rattle.std.specs.Prelude.{OnOk}
use Rattle.std.proofs.lemmas.List.{get_or_default}
use Rattle.output_copies.specs.Packed.{place_in, AreBlocksWritten, IsPackedAt}
use Rattle.output_copies.proofs.Packs.{is_lined, line_blocks, place_within}
use Rattle.output_copies.proofs.packed.write_block.Goals as goal

pub bounds-packed-place : goal.bounds-packed-place
bounds-packed-place g c =
    let p = c.args.task.now.translation.now.plan in
    let some = c.rules.ensures.kept.some_band in
    let within = place_within (length p.bands) 0 (c.args.block - c.args.top) c.args.task.now.rows some (omega (arith, c.requires.few, c.requires.top)) in
    let place : c.place_of-place.result ≡ place_in (length c.args.task.now.translation.now.plan.bands) 0 (c.args.block - c.args.top) = c.place_of-place.ensures.place ∙ ap (λ n. place_in n 0 (c.args.block - c.args.top)) c.count.ensures.count in
    omega (arith, within, place, c.requires.long)

pub write_column-requires-clause-columns : goal.write_column-requires-clause-columns
write_column-requires-clause-columns g c κs within = sym c.by_columns.ensures.columns ∙ c.if-by_columns.true

pub write_column-requires-clause-bytes : goal.write_column-requires-clause-bytes
write_column-requires-clause-bytes g c κs within =
    let t = c.args.task.now.translation.now in
    let some = c.rules.ensures.kept.some_band in
    let below = place_within (length t.plan.bands) 0 (c.args.block - c.args.top) c.args.task.now.rows some (omega (arith, c.requires.few, c.requires.top)) in
    let place : c.place_of-place.result ≡ place_in (length c.args.task.now.translation.now.plan.bands) 0 (c.args.block - c.args.top) = c.place_of-place.ensures.place ∙ ap (λ n. place_in n 0 (c.args.block - c.args.top)) c.count.ensures.count in
    let inside : c.place_of-place.result < length c.args.packed.now = omega (arith, below, place, c.requires.long) in
    let column : c.index-packed-place.result ≡ get_or c.args.packed.now (place_in (length t.plan.bands) 0 (c.args.block - c.args.top)) [] =
    c.index-packed-place.is ∙ get_or_default c.args.packed.now c.place_of-place.result c.index-packed-place.result [] inside ∙ ap (λ n. get_or c.args.packed.now n []) place in
    subst (IsPackedAt (g.F.Folder.names c.args.folder.now) t.cat t.id t.plan c.args.task.now.packing 0 c.args.block) (sym column) (c.requires.made.above 0 c.args.block some c.requires.top (omega arith))

pub write_column-requires-clause-long : goal.write_column-requires-clause-long
write_column-requires-clause-long g c κs within =
    let p = c.args.task.now.translation.now.plan in
    let some = c.rules.ensures.kept.some_band in
    let below = place_within (length p.bands) 0 (c.args.block - c.args.top) c.args.task.now.rows some (omega (arith, c.requires.few, c.requires.top)) in
    let place : c.place_of-place.result ≡ place_in (length c.args.task.now.translation.now.plan.bands) 0 (c.args.block - c.args.top) = c.place_of-place.ensures.place ∙ ap (λ n. place_in n 0 (c.args.block - c.args.top)) c.count.ensures.count in
    ap length c.index-packed-place.is ∙ c.requires.each c.place_of-place.result c.index-packed-place.result (omega (arith, below, place, c.requires.long))

pub write_column-requires-clause-written : goal.write_column-requires-clause-written
write_column-requires-clause-written g c κs within =
    let t = c.args.task.now.translation.now in
    subst (λ (b : Bool). AreBlocksWritten (g.F.Folder.names c.args.folder.now) t.cat t.id t.plan c.args.task.now.packing b c.args.target.now c.args.block) (sym c.by_columns.ensures.columns ∙ c.if-by_columns.true) c.requires.written

pub returns-then-by_columns-clause-written : goal.returns-then-by_columns-clause-written
returns-then-by_columns-clause-written g c =
    let t = c.args.task.now.translation.now in
    subst (λ (b : Bool). OnOk c.write_column.result (AreBlocksWritten (g.F.Folder.names c.write_column.new.folder) t.cat t.id t.plan c.args.task.now.packing b c.write_column.new.target (c.args.block + 1))) (sym (sym c.by_columns.ensures.columns ∙ c.if-by_columns.true)) c.write_column.ensures.written

pub write_bands-requires-clause-lines : goal.write_bands-requires-clause-lines
write_bands-requires-clause-lines g c κs within = (sym c.by_columns.ensures.columns ∙ c.if-by_columns.false)

pub write_bands-requires-clause-line : goal.write_bands-requires-clause-line
write_bands-requires-clause-line g c κs within =
    let high = line_blocks c.args.task.now.translation.now.plan c.args.task.now.packing c.rules.ensures.kept c.requires.task.output (is_lined c.args.task.now.packing c.requires.task.apart (sym c.by_columns.ensures.columns ∙ c.if-by_columns.false)) in
    omega (arith, high, c.requires.block)

pub write_bands-requires-clause-filled : goal.write_bands-requires-clause-filled
write_bands-requires-clause-filled g c κs within =
    let t = c.args.task.now.translation.now in
    subst (λ (b : Bool). AreBlocksWritten (g.F.Folder.names c.args.folder.now) t.cat t.id t.plan c.args.task.now.packing b c.args.target.now c.args.block) (sym c.by_columns.ensures.columns ∙ c.if-by_columns.false) c.requires.written

pub returns-clause-written : goal.returns-clause-written
returns-clause-written g c =
    let t = c.args.task.now.translation.now in
    subst (λ (b : Bool). OnOk c.write_bands.result (AreBlocksWritten (g.F.Folder.names c.write_bands.new.folder) t.cat t.id t.plan c.args.task.now.packing b c.write_bands.new.target (c.args.block + 1))) (sym (sym c.by_columns.ensures.columns ∙ c.if-by_columns.false)) c.write_bands.ensures.filled
