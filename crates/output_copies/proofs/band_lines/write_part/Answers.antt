use Rattle.std.proofs.Common.{◌≡◌, ap, refl, arith}
use Rattle.translate_plan.specs.Plan.{Planned}
use Rattle.error_lines.specs.Faults.{target_fault_of}
use Rattle.output_copies.specs.Copying.{TellsChange}
use Rattle.output_copies.proofs.Changes.{handed_on, target_tells}
use Rattle.output_copies.proofs.Copied.{are_writable, filled_behind, may_come}
use Rattle.output_copies.proofs.band_lines.write_part.Goals as goal

pub write_window-requires-clause-across : goal.write_window-requires-clause-across
write_window-requires-clause-across g c κs within =
    let p = c.args.translation.now.plan in
    let wide : c.plan.inside.size.w ≡ p.size.w = ap (λ (p : Planned). p.size.w) c.plan.view_is in
    let come = may_come (g.F.Folder.names c.args.folder.now) c.args.translation.now.cat c.args.translation.now.id p c.rules.ensures.kept c.args.target.now c.args.lines.first c.args.lines.end c.args.lines.band c.requires.lines.order c.requires.lines.end c.requires.lines.band c.requires.filled in
    omega (arith, come.across, wide)

pub write_window-requires-clause-down : goal.write_window-requires-clause-down
write_window-requires-clause-down g c κs within =
    let p = c.args.translation.now.plan in
    let come = may_come (g.F.Folder.names c.args.folder.now) c.args.translation.now.cat c.args.translation.now.id p c.rules.ensures.kept c.args.target.now c.args.lines.first c.args.lines.end c.args.lines.band c.requires.lines.order c.requires.lines.end c.requires.lines.band c.requires.filled in
    come.down

pub write_window-requires-clause-range : goal.write_window-requires-clause-range
write_window-requires-clause-range g c κs within =
    are_writable (g.F.Folder.names c.args.folder.now) c.args.translation.now.cat c.args.translation.now.id c.args.translation.now.plan c.rules.ensures.kept c.args.target.now.output c.args.lines.band c.args.samples.now c.requires.filled.output c.requires.lines.band c.requires.read.held

pub returns-clause-filled : goal.returns-clause-filled
returns-clause-filled g c =
    let p = c.args.translation.now.plan in
    let size : c.plan.inside.size ≡ p.size = ap (λ (p : Planned). p.size) c.plan.view_is in
    let put = c.in_ok-write_window.ensures in
    filled_behind (g.F.Folder.names c.args.folder.now) c.args.translation.now.cat c.args.translation.now.id p c.rules.ensures.kept
    (g.F.Folder.names c.args.folder.now) (g.F.Folder.names c.write_window.new.folder) c.plan.inside.size c.args.target.now c.write_window.new.self c.args.lines.first c.args.lines.end c.args.lines.band c.args.samples.now
    refl put.names size c.requires.lines.order c.requires.lines.end c.requires.lines.band c.requires.filled
    put.target put.output put.fault put.lines put.overlay put.met (λ m told d at. c.requires.read.pixels m d told at)

pub returns-in_err-write_window-clause-changed : goal.returns-in_err-write_window-clause-changed
returns-in_err-write_window-clause-changed g c =
    let cat = c.args.translation.now.cat in
    let t = c.in_err-write_window.field-0.0 in
    handed_on (TellsChange cat) (target_fault_of t) c.from_residual.result c.from_residual.ensures (target_tells cat t)
