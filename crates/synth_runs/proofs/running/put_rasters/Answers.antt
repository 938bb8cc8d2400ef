use Rattle.std.proofs.Common.{subst, Err}
use Rattle.synthetic_rasters.specs.Tiles.{IsSide}
use Rattle.synth_runs.specs.Runs.{mosaic_runs, synth_run, tiles_run}
use Rattle.synth_runs.proofs.Ending.{changed_then, folder_may, folder_unchanged, told_after}
use Rattle.synth_runs.proofs.Following.{goes_outside, then_goes, then_stops}
use Rattle.synth_runs.proofs.running.put_rasters.Goals as goal

pub returns-in-Ok-clause-told : goal.returns-in-Ok-clause-told
returns-in-Ok-clause-told g c = λ m is.
    then_goes m (tiles_run c.args.side) (mosaic_runs c.args.side) c.put_mosaics.result (g.F.Folder.names c.publish_tiles.new.folder) (g.F.Folder.names c.put_mosaics.new.folder) (g.O.Sink.got c.args.out.now) (g.O.Sink.got c.args.out.now) (g.O.Sink.got c.put_mosaics.new.out)
    (c.in-Ok.ensures.told m is (g.O.Sink.got c.args.out.now)) (λ k at. c.put_mosaics.ensures.told k at)

pub returns-in-Err-clause-told : goal.returns-in-Err-clause-told
returns-in-Err-clause-told g c = λ m is.
    then_stops m (tiles_run c.args.side) (mosaic_runs c.args.side) c.in-Err.fault (g.F.Folder.names c.publish_tiles.new.folder) (g.O.Sink.got c.args.out.now) (g.O.Sink.got c.args.out.now)
    (c.in-Err.ensures.told m is (g.O.Sink.got c.args.out.now))

pub returns-in-Ok-clause-changed : goal.returns-in-Ok-clause-changed
returns-in-Ok-clause-changed g c =
    changed_then (g.F.Folder.names c.args.folder.now) (g.F.Folder.names c.publish_tiles.new.folder) _
    (λ m is. told_after (tiles_run c.args.side) m (g.F.Folder.names c.publish_tiles.new.folder) (g.O.Sink.got c.args.out.now) (g.O.Sink.got c.args.out.now) (c.in-Ok.ensures.told m is (g.O.Sink.got c.args.out.now)))
    c.put_mosaics.ensures.changed

pub returns-in-Err-clause-may_end : goal.returns-in-Err-clause-may_end
returns-in-Err-clause-may_end g c = folder_may c.in-Err.fault c.in-Err.ensures.faults

pub returns-in-Err-clause-changed : goal.returns-in-Err-clause-changed
returns-in-Err-clause-changed g c = folder_unchanged (g.F.Folder.names c.args.folder.now) (Err c.in-Err.fault) c.in-Err.ensures.faults

pub returns-in-Ok-clause-made : goal.returns-in-Ok-clause-made
returns-in-Ok-clause-made g c = λ m is.
    goes_outside (synth_run c.args.side m) m c.put_mosaics.result _ _ _ (c.numbers_are_never_refused.ensures.fault c.args.side (subst IsSide c.get-side.ensures.value c.get-side.ensures.rules) m) (returns-in-Ok-clause-told g c m is)

pub returns-in-Err-clause-made : goal.returns-in-Err-clause-made
returns-in-Err-clause-made g c = λ m is.
    goes_outside (synth_run c.args.side m) m (Err c.in-Err.fault) _ _ _ (c.numbers_are_never_refused.ensures.fault c.args.side (subst IsSide c.get-side.ensures.value c.get-side.ensures.rules) m) (returns-in-Err-clause-told g c m is)
