use Rattle.std.proofs.Common.{Err}
use Rattle.mosaic_builds.proofs.Ended.{making_causes}
use Rattle.synthetic_rasters.specs.Names.{inner_name}
use Rattle.synth_runs.specs.Runs.{inner_run, outer_runs}
use Rattle.synth_runs.proofs.Ending.{changed_then, making_may, making_unchanged, inner_made, told_after}
use Rattle.synth_runs.proofs.Following.{then_goes, then_stops}
use Rattle.synth_runs.proofs.running.put_mosaics.Goals as goal

pub returns-in-Ok-clause-told : goal.returns-in-Ok-clause-told
returns-in-Ok-clause-told g c = λ m is.
    then_goes m (inner_run m) (outer_runs c.args.side) c.put_outer.result (g.F.Folder.names c.put_inner.new.folder) (g.F.Folder.names c.put_outer.new.folder) (g.O.Sink.got c.args.out.now) (g.O.Sink.got c.args.out.now) (g.O.Sink.got c.put_outer.new.out)
    (c.in-Ok.ensures.told m is (g.O.Sink.got c.args.out.now)) (λ k at. c.put_outer.ensures.told k at)

pub returns-in-Err-clause-told : goal.returns-in-Err-clause-told
returns-in-Err-clause-told g c = λ m is.
    then_stops m (inner_run m) (outer_runs c.args.side) c.in-Err.fault (g.F.Folder.names c.put_inner.new.folder) (g.O.Sink.got c.args.out.now) (g.O.Sink.got c.args.out.now)
    (c.in-Err.ensures.told m is (g.O.Sink.got c.args.out.now))

pub returns-in-Ok-clause-changed : goal.returns-in-Ok-clause-changed
returns-in-Ok-clause-changed g c =
    changed_then (g.F.Folder.names c.args.folder.now) (g.F.Folder.names c.put_inner.new.folder) _
    (λ m is. told_after (inner_run m) m (g.F.Folder.names c.put_inner.new.folder) (g.O.Sink.got c.args.out.now) (g.O.Sink.got c.args.out.now) (c.in-Ok.ensures.told m is (g.O.Sink.got c.args.out.now)))
    c.put_outer.ensures.changed

pub returns-in-Err-clause-may_end : goal.returns-in-Err-clause-may_end
returns-in-Err-clause-may_end g c = making_may inner_name inner_made c.in-Err.fault c.in-Err.ensures.faults

pub returns-in-Err-clause-changed : goal.returns-in-Err-clause-changed
returns-in-Err-clause-changed g c = making_unchanged inner_name (g.F.Folder.names c.args.folder.now) (Err c.in-Err.fault) c.in-Err.ensures.faults

pub returns-in-Err-clause-cause : goal.returns-in-Err-clause-cause
returns-in-Err-clause-cause g c = making_causes inner_name c.put_inner.result c.in-Err.fault (g.F.Folder.faults c.args.folder.now) (g.F.Folder.faults c.put_inner.new.folder) (g.O.Sink.faults c.args.out.now) c.in-Err.is c.in-Err.ensures.faults c.put_inner.ensures.cause
