use Rattle.synth_runs.proofs.Parts.{text_stops}
use Rattle.error_lines.specs.declared.faults.Fault.TheVariants.{OutFault}
use Rattle.synth_runs.proofs.telling.put_lines.Goals as goal

pub returns-in-Err-clause-told : goal.returns-in-Err-clause-told
returns-in-Err-clause-told g c = λ m names is.
    text_stops c.args.text.now m OutFault names (g.O.Sink.got c.args.out.now) (g.O.Sink.got c.put.new.self) is tt c.in-Err.ensures.err
