use Rattle.std.proofs.Common.{◌≡◌, subst, sym}
use Rattle.write_back.specs.View.{TargetView, Meets, Shows, lines_after, sheet_in, target_of}
use Rattle.write_back.specs.Files.{header_state, IsTarget}
use Rattle.write_back.proofs.Runs.{on_ok}
use Rattle.write_back.proofs.Windowed.{shows_after, target_after}
use Rattle.write_back.proofs.target.Target.write_window.Goals as goal

pub returns-clause-target : goal.returns-clause-target
returns-clause-target g c =
    let header = header_state g.F.Folder.draft_bytes g.F.Folder.draft_name c.self.inside.header in
    let was = subst (λ f. IsTarget (g.F.Folder.names c.args.folder.now) (target_of c.self.inside.sheet header f)) c.in_default.is (subst (IsTarget (g.F.Folder.names c.args.folder.now)) (sym c.self.view_is) c.requires.target) in
    target_after c.args.band c.args.rect c.args.samples.now _ _ _ _ _ _ _ _ c.self.inside.sheet c.put-done.new.self header c.put-done.result _ was c.put-done.ensures.kept c.put-done.ensures.put c.err-fault.ensures.value

pub returns-clause-overlay : goal.returns-clause-overlay
returns-clause-overlay g c =
    let header = header_state g.F.Folder.draft_bytes g.F.Folder.draft_name c.self.inside.header in
    on_ok c.put-done.result _ _ (λ put. subst (λ (t : TargetView). Shows (g.F.Folder.names c.args.folder.now) c.args.band c.args.rect c.args.samples.now t (target_of c.put-done.new.self header c.err-fault.result)) c.self.view_is
    (shows_after c.args.band c.args.rect c.args.samples.now _ _ c.self.inside.sheet c.put-done.new.self header c.self.inside.fault c.err-fault.result c.put-done.ensures.kept.output put)) c.put-done.ensures.put

pub returns-clause-met : goal.returns-clause-met
returns-clause-met g c = on_ok c.put-done.result _ _ (λ put some. subst (λ (t : TargetView). Meets t.output c.args.rect (sheet_in t) c.put-done.new.self) c.self.view_is (put.met some)) c.put-done.ensures.put

pub returns-clause-lines : goal.returns-clause-lines
returns-clause-lines g c = on_ok c.put-done.result _ _ (λ put. subst (λ (t : TargetView). c.put-done.new.self.lines ≡ lines_after t.output t.lines c.args.rect) c.self.view_is put.lines) c.put-done.ensures.put

pub returns-clause-fault : goal.returns-clause-fault
returns-clause-fault g c = c.err-fault.ensures.value
