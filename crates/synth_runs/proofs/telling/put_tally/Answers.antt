use Rattle.std.proofs.Common.{◌∙◌, subst, Option, Err}
use Rattle.outside.specs.Outside.{Files}
use Rattle.error_lines.specs.Faults.{HasChanged, IsOfReading}
use Rattle.mosaic_builds.proofs.Ended.{making_causes}
use Rattle.synthetic_rasters.specs.Names.{output_name}
use Rattle.translation_runs.specs.Ends.{ended}
use Rattle.synth_runs.specs.Ends.{MayEnd}
use Rattle.synth_runs.proofs.Ending.{ends_changed, making_may, making_unchanged, output_made, reading_may, where_failed}
use Rattle.synth_runs.proofs.Parts.{tally_found, tally_refused}
use Rattle.synth_runs.proofs.telling.put_tally.Goals as goal

pub returns-in-Ok-clause-told : goal.returns-in-Ok-clause-told
returns-in-Ok-clause-told g c = λ m told.
    let d = c.in-Ok.ensures.copied in
    tally_found m d.dataset c.put_told.result (g.F.Folder.names c.put_told.new.folder) (g.O.Sink.got c.args.out.now) (g.O.Sink.got c.put_told.new.out) (c.in-Ok.ensures.dataset m told d.dataset d.at)
    (c.put_told.ensures.told m d.dataset (c.open_copied.ensures.names ∙ told) d.at)

pub returns-in-Err-clause-told : goal.returns-in-Err-clause-told
returns-in-Err-clause-told g c = λ m told.
    tally_refused m c.in-Err.fault (g.F.Folder.names c.open_copied.new.folder) (g.O.Sink.got c.args.out.now) (c.open_copied.ensures.names ∙ told) (c.in-Err.ensures.refused m told)

pub returns-in-Ok-clause-may_end : goal.returns-in-Ok-clause-may_end
returns-in-Ok-clause-may_end g c = where_failed IsOfReading MayEnd c.put_told.result reading_may c.put_told.ensures.ends.reading

pub returns-in-Err-clause-may_end : goal.returns-in-Err-clause-may_end
returns-in-Err-clause-may_end g c = making_may output_name output_made c.in-Err.fault c.in-Err.ensures.faults

pub returns-in-Ok-clause-changed : goal.returns-in-Ok-clause-changed
returns-in-Ok-clause-changed g c =
    subst (λ (names : Option Files). HasChanged names (ended c.put_told.result)) c.open_copied.ensures.names
    (ends_changed (g.F.Folder.names c.open_copied.new.folder) _ _ _ _ c.put_told.result c.put_told.ensures.ends)

pub returns-in-Err-clause-changed : goal.returns-in-Err-clause-changed
returns-in-Err-clause-changed g c = making_unchanged output_name (g.F.Folder.names c.args.folder.now) (Err c.in-Err.fault) c.in-Err.ensures.faults

pub returns-in-Err-clause-cause : goal.returns-in-Err-clause-cause
returns-in-Err-clause-cause g c = making_causes output_name c.open_copied.result c.in-Err.fault (g.F.Folder.faults c.args.folder.now) (g.F.Folder.faults c.open_copied.new.folder) (g.O.Sink.faults c.args.out.now) c.in-Err.is c.in-Err.ensures.faults c.open_copied.ensures.cause
