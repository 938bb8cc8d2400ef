use Rattle.std.proofs.Common.{◌≡◌, ◌+◌, ◌≤◌, ap, subst, sym}
use Rattle.write_back.specs.View.{TargetView, Meets, Shows, calls_of, lines_after, sheet_in, target_of}
use Rattle.write_back.specs.Files.{header_state, IsTarget}
use Rattle.write_back.specs.Packed.{packed_in, packed_rect}
use Rattle.write_back.proofs.Past.{one_tick, target_past}
use Rattle.write_back.proofs.Runs.{on_ok}
use Rattle.write_back.proofs.Windowed.{shows_after}
use Rattle.write_back.proofs.target.Target.write_packed.Goals as goal

pub returns-clause-target : goal.returns-clause-target
returns-clause-target g c =
    let header = header_state g.F.Folder.draft_bytes g.F.Folder.draft_name c.self.inside.header in
    let was = subst (λ f. IsTarget (g.F.Folder.names c.args.folder.now) (target_of c.self.inside.sheet header f)) c.in_default.is (subst (IsTarget (g.F.Folder.names c.args.folder.now)) (sym c.self.view_is) c.requires.target) in
    target_past c.args.band (packed_rect c.self.inside.sheet.output c.args.block) (packed_in c.self.inside.sheet.output c.args.bytes.now) _ _ _ _ _ _ _ _ c.self.inside.sheet c.put_past-done.new.self header c.put_past-done.result _ was c.put_past-done.ensures.kept c.put_past-done.ensures.put c.err-self-inside.ensures.value

pub returns-clause-overlay : goal.returns-clause-overlay
returns-clause-overlay g c =
    let header = header_state g.F.Folder.draft_bytes g.F.Folder.draft_name c.self.inside.header in
    on_ok c.put_past-done.result _ _ (λ put. subst (λ (t : TargetView). Shows (g.F.Folder.names c.args.folder.now) c.args.band (packed_rect t.output c.args.block) (packed_in t.output c.args.bytes.now) t (target_of c.put_past-done.new.self header c.err-self-inside.result)) c.self.view_is
    (shows_after c.args.band (packed_rect c.self.inside.sheet.output c.args.block) (packed_in c.self.inside.sheet.output c.args.bytes.now) _ _ c.self.inside.sheet c.put_past-done.new.self header c.self.inside.fault c.err-self-inside.result c.put_past-done.ensures.kept.output put)) c.put_past-done.ensures.put

pub returns-clause-met : goal.returns-clause-met
returns-clause-met g c = on_ok c.put_past-done.result _ _ (λ put some. subst (λ (t : TargetView). Meets t.output (packed_rect t.output c.args.block) (sheet_in t) c.put_past-done.new.self) c.self.view_is (put.met some)) c.put_past-done.ensures.put

pub returns-clause-lines : goal.returns-clause-lines
returns-clause-lines g c = on_ok c.put_past-done.result _ _ (λ put. subst (λ (t : TargetView). c.put_past-done.new.self.lines ≡ lines_after t.output t.lines (packed_rect t.output c.args.block)) c.self.view_is put.lines) c.put_past-done.ensures.put

pub returns-clause-calls : goal.returns-clause-calls
returns-clause-calls g c =
    let kept = c.put_past-done.ensures.kept in
    one_tick (calls_of c.args.self.now.output) (g.F.Folder.write_calls c.args.folder.now) (g.F.Folder.write_calls c.put_past-done.new.folder) _ _ kept.one
    (subst (λ n. g.F.Folder.write_calls c.put_past-done.new.folder ≤ g.F.Folder.write_calls c.args.folder.now + n) (ap (λ (t : TargetView). calls_of t.output) c.self.view_is) kept.calls)

pub returns-clause-fault : goal.returns-clause-fault
returns-clause-fault g c = c.err-self-inside.ensures.value
