use Rattle.std.proofs.Common.{rules, ◌∙◌, ap, refl, subst, sym, true≢false, List}
use Rattle.input_points.specs.Entries.{entries}
use Rattle.command_words.specs.declared.command.Job.{Job}
use Rattle.gdal_cli.specs.Published.{IsNamedJob}
use Rattle.error_lines.specs.Steps.{Step, AreWarned}
use Rattle.translation_runs.specs.Ends.{ended}
use Rattle.gdal_cli.specs.Run.{makes_rasters, names_published, reads_input, warns_of_inputs}
use Rattle.gdal_cli.specs.Jobs.{is_quiet}
use Rattle.gdal_cli.specs.Work.{judged_by, carried_out}
use Rattle.gdal_cli.proofs.Ended.{stops_same}
use Rattle.gdal_cli.proofs.Pieces.{always_ok}
use Rattle.gdal_cli.proofs.Printing.{info_prints, location_prints}
use Rattle.gdal_cli.proofs.TranslationEnds.{translate_silent}
use Rattle.gdal_cli.proofs.SynthEnds.{no_rasters, none_made, synth_made, synth_may, synth_owns, synth_reads_no_input, synth_refuses, synth_silent}
use Rattle.gdal_cli.proofs.Unread.{mosaic_published, publishes_some}
use Rattle.gdal_cli.proofs.Warning.{printing_as, silent_as, silent_may, warning_as}
use Rattle.gdal_cli.proofs.jobs.put_job.Goals as goal

pub returns-in-Info-clause-told : goal.returns-in-Info-clause-told
returns-in-Info-clause-told g c = λ m is i fed.
    printing_as _ (carried_out (judged_by c.args.command.job c.args.command.verify m) m (entries i)) m c.put_info.result (g.F.Folder.names c.put_info.new.folder) (g.O.Sink.got c.args.out.now) (g.O.Sink.got c.put_info.new.out) c.args.failed.now (g.E.Sink.faults c.args.err.now) (g.E.Sink.got c.args.err.now) c.requires.fresh
    (c.put_info.ensures.told m is (entries i)) (info_prints m (entries i) _ _) (rw c.in-Info.is (search rules)) (c.put_info.ensures.names ∙ is)

pub returns-in-Info-clause-refused : goal.returns-in-Info-clause-refused
returns-in-Info-clause-refused g c = λ rasters refusal. (c.put_info.ensures.refused refusal, refl, c.put_info.ensures.names)

pub returns-in-Info-clause-only_read : goal.returns-in-Info-clause-only_read
returns-in-Info-clause-only_read g c = λ none. record { names = c.put_info.ensures.names; writes = c.put_info.ensures.writes; faults = c.put_info.ensures.cause.folder_later }

pub returns-in-Locate-clause-told : goal.returns-in-Locate-clause-told
returns-in-Locate-clause-told g c = λ m is i fed.
    printing_as _ (carried_out (judged_by c.args.command.job c.args.command.verify m) m (entries i)) m c.put_location.result (g.F.Folder.names c.put_location.new.folder) (g.O.Sink.got c.args.out.now) (g.O.Sink.got c.put_location.new.out) c.args.failed.now (g.E.Sink.faults c.args.err.now) (g.E.Sink.got c.args.err.now) c.requires.fresh
    (c.put_location.ensures.told m is i (search rules)) (location_prints m (entries i) _ _ _ _ _ _) (rw c.in-Locate.is (search rules)) (c.put_location.ensures.names ∙ is)

pub returns-in-Locate-clause-stopped : goal.returns-in-Locate-clause-stopped
returns-in-Locate-clause-stopped g c = λ so m is i left.
    stops_same _ (λ lines. carried_out (judged_by c.args.command.job c.args.command.verify m) m lines)
    i _ _ _ (c.put_location.ensures.stopped so m is i left)
    (λ lines. rw c.in-Locate.is (search rules))

pub returns-in-Locate-clause-refused : goal.returns-in-Locate-clause-refused
returns-in-Locate-clause-refused g c = λ rasters refusal. let still = c.put_location.ensures.refused refusal in (still.0, still.1, c.put_location.ensures.names)

pub returns-in-Locate-clause-only_read : goal.returns-in-Locate-clause-only_read
returns-in-Locate-clause-only_read g c = λ none. record { names = c.put_location.ensures.names; writes = c.put_location.ensures.writes; faults = c.put_location.ensures.cause.folder_later }

pub put_translated-requires-clause-named : goal.put_translated-requires-clause-named
put_translated-requires-clause-named g c κs within = rw c.in-Translate.is (subst IsNamedJob c.in-Translate.is c.requires.named)

pub returns-in-Translate-clause-told : goal.returns-in-Translate-clause-told
returns-in-Translate-clause-told g c = λ m is i fed.
    silent_as _ (carried_out (judged_by c.args.command.job c.args.command.verify m) m (entries i)) m c.put_translated.result (g.F.Folder.names c.put_translated.new.folder) (g.O.Sink.got c.args.out.now) (g.O.Sink.got c.put_translated.new.out) c.args.failed.now (g.E.Sink.faults c.args.err.now) (g.E.Sink.got c.args.err.now) c.requires.fresh
    (c.put_translated.ensures.told m is (entries i)) (translate_silent m _ _ _ _ (entries i)) (rw c.in-Translate.is (search rules))

pub returns-in-Translate-clause-stopped : goal.returns-in-Translate-clause-stopped
returns-in-Translate-clause-stopped g c = λ so. absurd (c.put_translated.ensures.not_input so)

pub returns-in-Translate-clause-refused : goal.returns-in-Translate-clause-refused
returns-in-Translate-clause-refused g c = λ rasters refusal. let still = c.put_translated.ensures.refused refusal in (still.0, refl, still.1)

pub returns-in-Translate-clause-only_read : goal.returns-in-Translate-clause-only_read
returns-in-Translate-clause-only_read g c = λ none. absurd (publishes_some c.in-Translate.src c.in-Translate.options c.in-Translate.quiet (sym (ap (λ (j : Job). names_published j) c.in-Translate.is) ∙ none))

pub returns-in-Info-clause-warned : goal.returns-in-Info-clause-warned
returns-in-Info-clause-warned g c = silent_may (warns_of_inputs c.args.command.job) (ended c.put_info.result) c.args.failed.now (g.E.Sink.faults c.args.err.now) (g.E.Sink.got c.args.err.now) c.requires.fresh

pub returns-in-Info-clause-unknown : goal.returns-in-Info-clause-unknown
returns-in-Info-clause-unknown g c = rw c.in-Info.is (rw c.in-Info.is at c.put_info.ensures.unknown)

pub returns-in-Locate-clause-warned : goal.returns-in-Locate-clause-warned
returns-in-Locate-clause-warned g c = silent_may (warns_of_inputs c.args.command.job) (ended c.put_location.result) c.args.failed.now (g.E.Sink.faults c.args.err.now) (g.E.Sink.got c.args.err.now) c.requires.fresh

pub returns-in-Locate-clause-unknown : goal.returns-in-Locate-clause-unknown
returns-in-Locate-clause-unknown g c = rw c.in-Locate.is (rw c.in-Locate.is at c.put_location.ensures.unknown)

pub returns-in-Translate-clause-read : goal.returns-in-Translate-clause-read
returns-in-Translate-clause-read g c = always_ok c.put_translated.result _ (λ reads. absurd (true≢false (sym reads ∙ ap (λ (j : Job). reads_input j) c.in-Translate.is)))

pub returns-in-Translate-clause-warned : goal.returns-in-Translate-clause-warned
returns-in-Translate-clause-warned g c = silent_may (warns_of_inputs c.args.command.job) (ended c.put_translated.result) c.args.failed.now (g.E.Sink.faults c.args.err.now) (g.E.Sink.got c.args.err.now) c.requires.fresh

pub returns-in-Translate-clause-unknown : goal.returns-in-Translate-clause-unknown
returns-in-Translate-clause-unknown g c = rw c.in-Translate.is (rw c.in-Translate.is at c.put_translated.ensures.unknown)

pub returns-in-Build-clause-told : goal.returns-in-Build-clause-told
returns-in-Build-clause-told g c = λ m is i fed.
    warning_as _ (carried_out (judged_by c.args.command.job c.args.command.verify m) m (entries i)) m c.put_build.result (g.F.Folder.names c.put_build.new.folder) (g.O.Sink.got c.args.out.now) (g.O.Sink.got c.put_build.new.out)
    (λ (steps : List Step). AreWarned steps c.put_build.new.failed (g.E.Sink.faults c.args.err.now) (g.E.Sink.faults c.put_build.new.err) (g.E.Sink.got c.args.err.now) (g.E.Sink.got c.put_build.new.err))
    (c.put_build.ensures.told m is (entries i)) (rw c.in-Build.is (search rules))

pub returns-in-Build-clause-stopped : goal.returns-in-Build-clause-stopped
returns-in-Build-clause-stopped g c = λ so. absurd (c.put_build.ensures.not_input so)

pub returns-in-Build-clause-refused : goal.returns-in-Build-clause-refused
returns-in-Build-clause-refused g c = λ rasters refusal. let still = c.put_build.ensures.refused refusal in (still.0, refl, still.1)

pub returns-in-Build-clause-warned : goal.returns-in-Build-clause-warned
returns-in-Build-clause-warned g c = rw c.in-Build.is c.put_build.ensures.warned

pub returns-in-Build-clause-unknown : goal.returns-in-Build-clause-unknown
returns-in-Build-clause-unknown g c = rw c.in-Build.is c.put_build.ensures.unknown

pub returns-in-Build-clause-only_read : goal.returns-in-Build-clause-only_read
returns-in-Build-clause-only_read g c = λ none. absurd (mosaic_published c.in-Build.inputs c.in-Build.list c.in-Build.options c.in-Build.quiet (sym (ap (λ (j : Job). names_published j) c.in-Build.is) ∙ none))

pub returns-in-Synth-clause-told : goal.returns-in-Synth-clause-told
returns-in-Synth-clause-told g c = λ m is i fed.
    silent_as _ (carried_out (judged_by c.args.command.job c.args.command.verify m) m (entries i)) m c.put_rasters.result (g.F.Folder.names c.put_rasters.new.folder) (g.O.Sink.got c.args.out.now) (g.O.Sink.got c.put_rasters.new.out) c.args.failed.now (g.E.Sink.faults c.args.err.now) (g.E.Sink.got c.args.err.now) c.requires.fresh
    (c.put_rasters.ensures.told m is) (synth_silent _ m) (rw c.in-Synth.is (search rules))

pub returns-in-Synth-clause-stopped : goal.returns-in-Synth-clause-stopped
returns-in-Synth-clause-stopped g c = λ so. absurd (synth_reads_no_input c.put_rasters.result c.put_rasters.ensures.may_end so)

pub returns-in-Synth-clause-refused : goal.returns-in-Synth-clause-refused
returns-in-Synth-clause-refused g c = λ rasters. absurd (no_rasters c.in-Synth.side (sym (ap (λ (j : Job). makes_rasters j) c.in-Synth.is) ∙ rasters))

pub returns-in-Synth-clause-warned : goal.returns-in-Synth-clause-warned
returns-in-Synth-clause-warned g c = silent_may (warns_of_inputs c.args.command.job) (ended c.put_rasters.result) c.args.failed.now (g.E.Sink.faults c.args.err.now) (g.E.Sink.got c.args.err.now) c.requires.fresh

pub returns-in-Synth-clause-only_read : goal.returns-in-Synth-clause-only_read
returns-in-Synth-clause-only_read g c = λ none. absurd (synth_made c.in-Synth.side (sym (ap (λ (j : Job). names_published j) c.in-Synth.is) ∙ none))

pub returns-in-Synth-clause-may_end : goal.returns-in-Synth-clause-may_end
returns-in-Synth-clause-may_end g c = rw c.in-Synth.is (synth_may c.in-Synth.side c.put_rasters.result c.put_rasters.ensures.may_end)

pub returns-in-Synth-clause-unknown : goal.returns-in-Synth-clause-unknown
returns-in-Synth-clause-unknown g c = rw c.in-Synth.is (synth_refuses c.put_rasters.result c.put_rasters.ensures.may_end)

pub returns-in-Synth-clause-own : goal.returns-in-Synth-clause-own
returns-in-Synth-clause-own g c = synth_owns c.put_rasters.result c.put_rasters.ensures.may_end

pub returns-in-Info-clause-made : goal.returns-in-Info-clause-made
returns-in-Info-clause-made g c = λ rasters m is. absurd (none_made (sym (ap (λ (j : Job). makes_rasters j) c.in-Info.is) ∙ rasters))

pub returns-in-Locate-clause-made : goal.returns-in-Locate-clause-made
returns-in-Locate-clause-made g c = λ rasters m is. absurd (none_made (sym (ap (λ (j : Job). makes_rasters j) c.in-Locate.is) ∙ rasters))

pub returns-in-Translate-clause-made : goal.returns-in-Translate-clause-made
returns-in-Translate-clause-made g c = λ rasters m is. absurd (none_made (sym (ap (λ (j : Job). makes_rasters j) c.in-Translate.is) ∙ rasters))

pub returns-in-Build-clause-made : goal.returns-in-Build-clause-made
returns-in-Build-clause-made g c = λ rasters m is. absurd (none_made (sym (ap (λ (j : Job). makes_rasters j) c.in-Build.is) ∙ rasters))

pub returns-in-Synth-clause-made : goal.returns-in-Synth-clause-made
returns-in-Synth-clause-made g c = λ rasters. c.put_rasters.ensures.made

pub returns-in-Info-clause-quiet : goal.returns-in-Info-clause-quiet
returns-in-Info-clause-quiet g c = λ quiet. absurd (true≢false (sym quiet ∙ ap (λ (j : Job). is_quiet j) c.in-Info.is))

pub returns-in-Locate-clause-quiet : goal.returns-in-Locate-clause-quiet
returns-in-Locate-clause-quiet g c = λ quiet. absurd (true≢false (sym quiet ∙ ap (λ (j : Job). is_quiet j) c.in-Locate.is))

pub returns-in-Synth-clause-quiet : goal.returns-in-Synth-clause-quiet
returns-in-Synth-clause-quiet g c = λ quiet. absurd (true≢false (sym quiet ∙ ap (λ (j : Job). is_quiet j) c.in-Synth.is))

pub returns-in-Translate-clause-quiet : goal.returns-in-Translate-clause-quiet
returns-in-Translate-clause-quiet g c = λ quiet. c.put_translated.ensures.quiet (rw c.in-Translate.is (sym (ap (λ (j : Job). is_quiet j) c.in-Translate.is) ∙ quiet))

pub returns-in-Build-clause-quiet : goal.returns-in-Build-clause-quiet
returns-in-Build-clause-quiet g c = λ quiet. c.put_build.ensures.quiet (rw c.in-Build.is (sym (ap (λ (j : Job). is_quiet j) c.in-Build.is) ∙ quiet))
