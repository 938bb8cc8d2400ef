use Rattle.std.proofs.Common.{◌≡◌, subst}
use Rattle.std.specs.Prelude.{IfErr, OnOk}
use Rattle.error_lines.specs.declared.faults.Fault.{Fault}
use Rattle.error_lines.specs.declared.faults.Fault.TheVariants.{OutFault}
use Rattle.synth_runs.specs.Ends.{PutsLines}
use Rattle.synth_runs.specs.Runs.{output_run, tally_run}
use Rattle.synth_runs.proofs.Ending.{changed_then, told_after}
use Rattle.synth_runs.proofs.Following.{then_goes, then_stops}
use Rattle.synth_runs.proofs.running.put_copy.Goals as goal

pub returns-in-Ok-clause-told : goal.returns-in-Ok-clause-told
returns-in-Ok-clause-told g c = λ m is.
    then_goes m (output_run m) tally_run c.put_tally.result (g.F.Folder.names c.put_output.new.folder) (g.F.Folder.names c.put_tally.new.folder) (g.O.Sink.got c.args.out.now) (g.O.Sink.got c.put_output.new.out) (g.O.Sink.got c.put_tally.new.out)
    (c.in-Ok.ensures.told m is) (λ k at. c.put_tally.ensures.told k at)

pub returns-in-Err-clause-told : goal.returns-in-Err-clause-told
returns-in-Err-clause-told g c = λ m is.
    then_stops m (output_run m) tally_run c.in-Err.fault (g.F.Folder.names c.put_output.new.folder) (g.O.Sink.got c.args.out.now) (g.O.Sink.got c.put_output.new.out)
    (c.in-Err.ensures.told m is)

pub returns-in-Ok-clause-changed : goal.returns-in-Ok-clause-changed
returns-in-Ok-clause-changed g c =
    changed_then (g.F.Folder.names c.args.folder.now) (g.F.Folder.names c.put_output.new.folder) _
    (λ m is. told_after (output_run m) m (g.F.Folder.names c.put_output.new.folder) (g.O.Sink.got c.args.out.now) (g.O.Sink.got c.put_output.new.out) (c.in-Ok.ensures.told m is))
    c.put_tally.ensures.changed

pub returns-in-Ok-clause-lines : goal.returns-in-Ok-clause-lines
returns-in-Ok-clause-lines g c =
    subst (λ o. OnOk c.put_tally.result (PutsLines (g.O.Sink.got o) (g.O.Sink.got c.put_tally.new.out))) c.put_output.ensures.quiet c.put_tally.ensures.lines

pub returns-in-Ok-clause-silent : goal.returns-in-Ok-clause-silent
returns-in-Ok-clause-silent g c =
    subst (λ o. IfErr c.put_tally.result (λ (f : Fault). (f ≡ OutFault → ⊥) → c.put_tally.new.out ≡ o)) c.put_output.ensures.quiet c.put_tally.ensures.silent
