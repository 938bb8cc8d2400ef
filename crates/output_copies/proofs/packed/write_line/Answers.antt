use Rattle.std.proofs.Common.{◌∙◌, ◌+◌, ◌<◌, ap, sym, subst, arith, length}
use Rattle.error_lines.specs.Faults.{target_fault_of}
use Rattle.write_back.specs.Packed.{packed_blocks, packed_len, AreApart, IsPackedOf}
use Rattle.write_back.specs.View.{Output, Blocks}
use Rattle.write_back.proofs.Outputs.{is_same}
use Rattle.output_copies.specs.Copying.{TellsChange}
use Rattle.output_copies.specs.Packed.{IsPackedAt}
use Rattle.output_copies.proofs.Changes.{handed_on, target_tells}
use Rattle.output_copies.proofs.Copied.{may_come}
use Rattle.output_copies.proofs.Packs.{filled_line, is_lined, line_blocks}
use Rattle.output_copies.proofs.packed.write_line.Goals as goal

pub write_packed-requires-clause-apart : goal.write_packed-requires-clause-apart
write_packed-requires-clause-apart g c κs within =
    subst AreApart (is_same (Blocks c.args.task.now.packing) c.args.target.now.output (sym c.requires.task.output ∙ c.requires.filled.output)) c.requires.task.apart

pub write_packed-requires-clause-band : goal.write_packed-requires-clause-band
write_packed-requires-clause-band g c κs within =
    let t = c.args.task.now.translation.now in
    let come = may_come (g.F.Folder.names c.args.folder.now) t.cat t.id t.plan c.rules.ensures.kept c.args.target.now c.args.y (c.args.y + 1) c.args.band (omega arith) (omega (arith, c.requires.line)) c.requires.band c.requires.filled in
    come.band

pub write_packed-requires-clause-block : goal.write_packed-requires-clause-block
write_packed-requires-clause-block g c κs within =
    let t = c.args.task.now.translation.now in
    let w = c.args.task.now.packing in
    let high = line_blocks t.plan w c.rules.ensures.kept c.requires.task.output (is_lined w c.requires.task.apart c.requires.lines) in
    let out = is_same (Blocks c.args.task.now.packing) c.args.target.now.output (sym c.requires.task.output ∙ c.requires.filled.output) in
    subst (λ (o : Output). c.args.y < packed_blocks o) out (omega (arith, c.requires.line, high))

pub write_packed-requires-clause-bytes : goal.write_packed-requires-clause-bytes
write_packed-requires-clause-bytes g c κs within =
    ap length c.bytes.ensures.bytes ∙ c.requires.long ∙ ap packed_len (is_same (Blocks c.args.task.now.packing) c.args.target.now.output (sym c.requires.task.output ∙ c.requires.filled.output))

pub write_packed-requires-clause-whole : goal.write_packed-requires-clause-whole
write_packed-requires-clause-whole g c κs within =
    let out = is_same (Blocks c.args.task.now.packing) c.args.target.now.output (sym c.requires.task.output ∙ c.requires.filled.output) in
    subst (λ (o : Output). IsPackedOf o c.args.y c.bytes.result.now) out (subst (λ b. IsPackedOf (Blocks c.args.task.now.packing) c.args.y b) (sym c.bytes.ensures.bytes) c.requires.bytes.whole)

pub returns-clause-filled : goal.returns-clause-filled
returns-clause-filled g c =
    let t = c.args.task.now.translation.now in
    let w = c.args.task.now.packing in
    let put = c.in_ok-write_packed.ensures in
    filled_line (g.F.Folder.names c.args.folder.now) t.cat t.id t.plan c.rules.ensures.kept w (is_lined w c.requires.task.apart c.requires.lines) (g.F.Folder.names c.write_packed.new.folder) c.args.target.now c.write_packed.new.self c.args.y c.args.band c.bytes.result.now
    c.requires.task.output put.names c.requires.line c.requires.band c.requires.filled put.target put.output put.fault put.lines put.overlay put.met
    (subst (IsPackedAt (g.F.Folder.names c.args.folder.now) t.cat t.id t.plan w c.args.band c.args.y) (sym c.bytes.ensures.bytes) c.requires.bytes)

pub returns-in_err-write_packed-clause-changed : goal.returns-in_err-write_packed-clause-changed
returns-in_err-write_packed-clause-changed g c =
    let cat = c.args.task.now.translation.now.cat in
    let t = c.in_err-write_packed.field-0.0 in
    handed_on (TellsChange cat) (target_fault_of t) c.from_residual.result c.from_residual.ensures (target_tells cat t)
