use Rattle.outside.proofs.Parts.{on_err}
use Rattle.location_report.proofs.Appended.{keeps_then}
use Rattle.location_report.proofs.files.push_files.Goals as goal

pub returns-in_err-push_all-clause-err : goal.returns-in_err-push_all-clause-err
returns-in_err-push_all-clause-err c = on_err c.from_residual.result (keeps_then c.args.out.now.items c.loop-name.out.items c.push_all.new.out.items _ c.loop-name.invariant c.in_err-push_all.ensures.err)
