use Rattle.std.proofs.Common.{sym, subst, Bool, Ok, Err}
use Rattle.error_lines.specs.declared.faults.Fault.TheVariants.{OutFault}
use Rattle.error_lines.specs.Steps.{Goes, all_done}
use Rattle.mosaic_builds.specs.Steps.{progress_steps}
use Rattle.mosaic_builds.proofs.Going.{told_goes, told_stops}
use Rattle.mosaic_builds.proofs.putting.put_progress.Goals as goal

pub returns-in-Ok-clause-told : goal.returns-in-Ok-clause-told
returns-in-Ok-clause-told g c = λ m names is.
    subst (λ (q : Bool). Goes (all_done (progress_steps q)) m (Ok tt) names (g.O.Sink.got c.args.out.now) (g.O.Sink.got c.put_all.new.sink)) (sym c.if-quiet.false)
    (told_goes m names (g.O.Sink.got c.args.out.now) (g.O.Sink.got c.put_all.new.sink) is (rw (c.progress_text.ensures.text, c.progress_end_text.ensures.text) at c.in-Ok.ensures.ok))

pub returns-in-Err-clause-told : goal.returns-in-Err-clause-told
returns-in-Err-clause-told g c = λ m names is.
    subst (λ (q : Bool). Goes (all_done (progress_steps q)) m (Err OutFault) names (g.O.Sink.got c.args.out.now) (g.O.Sink.got c.put_all.new.sink)) (sym c.if-quiet.false)
    (told_stops m OutFault names (g.O.Sink.got c.args.out.now) (g.O.Sink.got c.put_all.new.sink) is tt (rw (c.progress_text.ensures.text, c.progress_end_text.ensures.text) at c.in-Err.ensures.err))
