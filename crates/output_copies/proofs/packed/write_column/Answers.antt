use Rattle.std.proofs.Common.{◌∙◌, ◌<◌, ap, sym, subst, arith, length}
use Rattle.error_lines.specs.Faults.{target_fault_of}
use Rattle.write_back.specs.Packed.{packed_blocks, packed_len, AreApart, IsPackedOf}
use Rattle.write_back.specs.View.{Output, Blocks}
use Rattle.write_back.proofs.Outputs.{has_size, is_same}
use Rattle.output_copies.specs.Copying.{TellsChange}
use Rattle.output_copies.specs.Packed.{IsPackedAt}
use Rattle.output_copies.proofs.Changes.{handed_on, target_tells}
use Rattle.output_copies.proofs.Columned.{column_more}
use Rattle.output_copies.proofs.packed.write_column.Goals as goal

pub write_packed-requires-clause-target : goal.write_packed-requires-clause-target
write_packed-requires-clause-target g c κs within = c.requires.written.target

pub write_packed-requires-clause-apart : goal.write_packed-requires-clause-apart
write_packed-requires-clause-apart g c κs within =
    subst AreApart (is_same (Blocks c.args.task.now.packing) c.args.target.now.output (sym c.requires.task.output ∙ c.requires.written.output)) c.requires.task.apart

pub write_packed-requires-clause-band : goal.write_packed-requires-clause-band
write_packed-requires-clause-band g c κs within =
    let p = c.args.task.now.translation.now.plan in
    let size = has_size p c.args.target.now.output c.rules.ensures.kept c.requires.written.output in
    let bands = size.bands_are in
    let some = c.rules.ensures.kept.some_band in
    omega (arith, bands, some)

pub write_packed-requires-clause-block : goal.write_packed-requires-clause-block
write_packed-requires-clause-block g c κs within =
    let out = is_same (Blocks c.args.task.now.packing) c.args.target.now.output (sym c.requires.task.output ∙ c.requires.written.output) in
    subst (λ (o : Output). c.args.x < packed_blocks o) out c.requires.column

pub write_packed-requires-clause-bytes : goal.write_packed-requires-clause-bytes
write_packed-requires-clause-bytes g c κs within =
    ap length c.bytes.ensures.bytes ∙ c.requires.long ∙ ap packed_len (is_same (Blocks c.args.task.now.packing) c.args.target.now.output (sym c.requires.task.output ∙ c.requires.written.output))

pub write_packed-requires-clause-whole : goal.write_packed-requires-clause-whole
write_packed-requires-clause-whole g c κs within =
    let out = is_same (Blocks c.args.task.now.packing) c.args.target.now.output (sym c.requires.task.output ∙ c.requires.written.output) in
    subst (λ (o : Output). IsPackedOf o c.args.x c.bytes.result.now) out (subst (λ b. IsPackedOf (Blocks c.args.task.now.packing) c.args.x b) (sym c.bytes.ensures.bytes) c.requires.bytes.whole)

pub returns-clause-written : goal.returns-clause-written
returns-clause-written g c =
    let t = c.args.task.now.translation.now in
    let w = c.args.task.now.packing in
    let put = c.in_ok-write_packed.ensures in
    column_more (g.F.Folder.names c.args.folder.now) t.cat t.id t.plan w c.rules.ensures.kept c.requires.task.output c.requires.columns (g.F.Folder.names c.write_packed.new.folder) c.args.target.now c.write_packed.new.self c.args.x c.bytes.result.now
    put.names c.requires.written put.target put.output put.fault put.overlay put.met
    (subst (IsPackedAt (g.F.Folder.names c.args.folder.now) t.cat t.id t.plan w 0 c.args.x) (sym c.bytes.ensures.bytes) c.requires.bytes)

pub returns-in_err-write_packed-clause-changed : goal.returns-in_err-write_packed-clause-changed
returns-in_err-write_packed-clause-changed g c =
    let cat = c.args.task.now.translation.now.cat in
    let t = c.in_err-write_packed.field-0.0 in
    handed_on (TellsChange cat) (target_fault_of t) c.from_residual.result c.from_residual.ensures (target_tells cat t)
