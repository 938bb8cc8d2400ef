use Rattle.std.proofs.Common.{◌∙◌, ap, sym, subst, map, string_bytes, List, Result, Err}
use Rattle.std.specs.Prelude.{IfOk, IfErr}
use Rattle.input_points.specs.Entries.{entries}
use Rattle.error_lines.specs.declared.faults.Fault.{Fault}
use Rattle.command_words.specs.declared.command.Command.{Command}
use Rattle.command_words.specs.declared.spoken.WordFault.{WordFault}
use Rattle.translation_runs.specs.Ends.{ended}
use Rattle.error_lines.specs.Faults.{IsOutside}
use Rattle.gdal_cli.specs.Run.{MayEnd, words_make_rasters, words_read_input, words_warn}
use Rattle.gdal_cli.specs.Jobs.{MayWarn}
use Rattle.error_lines.specs.Steps.{Step, AreWarned, GoesWarning}
use Rattle.command_words.specs.Words.{words_of}
use Rattle.gdal_cli.specs.Work.{Work, judged_by, carried_out, run_over}
use Rattle.gdal_cli.proofs.Causes.{words_may, words_outside}
use Rattle.gdal_cli.proofs.Datasets.{dataset_refused}
use Rattle.gdal_cli.proofs.Ended.{stops_same}
use Rattle.gdal_cli.proofs.Judging.{command_judged, command_goes, words_go}
use Rattle.gdal_cli.proofs.Named.{named_words}
use Rattle.gdal_cli.proofs.Warning.{silent_may, silent_steps}
use Rattle.gdal_cli.proofs.running.perform.Goals as goal

abbrev failed : Fault → Result (Unit {0}) Fault
failed f = Err f

pub put_job-requires-clause-named : goal.put_job-requires-clause-named
put_job-requires-clause-named g c κs within = named_words (map string_bytes c.args.words.now) c.in-Ok.command c.in-Ok.ensures.gives

pub returns-in-Err-clause-told : goal.returns-in-Err-clause-told
returns-in-Err-clause-told g c = λ m told i fed.
    let words = map string_bytes c.args.words.now in
    let f = c.in-Err.fault in
    let W : List Step → Type 0 = λ (steps : List Step). AreWarned steps c.args.failed.now (g.E.Sink.faults c.args.err.now) (g.E.Sink.faults c.args.err.now) (g.E.Sink.got c.args.err.now) (g.E.Sink.got c.args.err.now) in
    subst (λ (e : Fault). GoesWarning (run_over words m (entries i)) m (failed e) (g.F.Folder.names c.args.folder.now) (g.O.Sink.got c.args.out.now) (g.O.Sink.got c.args.out.now) W)
    (sym c.word_fault_of.ensures)
    (words_go words f m (entries i) (g.F.Folder.names c.args.folder.now) (g.O.Sink.got c.args.out.now) W told (silent_steps c.args.failed.now (g.E.Sink.faults c.args.err.now) (g.E.Sink.got c.args.err.now) c.requires.fresh) c.in-Err.ensures.gives)

pub returns-in-Err-clause-warned : goal.returns-in-Err-clause-warned
returns-in-Err-clause-warned g c = silent_may (words_warn (words_of (map string_bytes c.args.words.now))) _ c.args.failed.now (g.E.Sink.faults c.args.err.now) (g.E.Sink.got c.args.err.now) c.requires.fresh

pub returns-in-Err-clause-may_end : goal.returns-in-Err-clause-may_end
returns-in-Err-clause-may_end g c =
    let words = map string_bytes c.args.words.now in
    subst (λ (e : Fault). IfOk (words_of words) (λ command. IfErr (failed e) (MayEnd command.job)))
    (sym c.word_fault_of.ensures)
    (words_may (words_of words) c.in-Err.fault c.in-Err.ensures.gives)

pub returns-in-Ok-clause-told : goal.returns-in-Ok-clause-told
returns-in-Ok-clause-told g c = λ m told i fed.
    let words = map string_bytes c.args.words.now in
    let command = c.in-Ok.command in
    command_goes words command m (entries i) c.put_job.result (g.F.Folder.names c.put_job.new.folder) (g.O.Sink.got c.args.out.now) (g.O.Sink.got c.put_job.new.out)
    (λ (steps : List Step). AreWarned steps c.put_job.new.failed (g.E.Sink.faults c.args.err.now) (g.E.Sink.faults c.put_job.new.err) (g.E.Sink.got c.args.err.now) (g.E.Sink.got c.put_job.new.err)) c.in-Ok.ensures.gives
    (c.put_job.ensures.told m told i (λ reads. fed (ap (λ (d : Result Command WordFault). words_read_input d) c.in-Ok.ensures.gives ∙ reads)))

pub returns-in-Ok-clause-stopped : goal.returns-in-Ok-clause-stopped
returns-in-Ok-clause-stopped g c = λ so m told i left.
    let words = map string_bytes c.args.words.now in
    let command = c.in-Ok.command in
    stops_same (carried_out (judged_by command.job command.verify m) m) (run_over words m)
    i _ _ _ (c.put_job.ensures.stopped so m told i left)
    (λ lines. ap (λ (d : Result Work Fault). carried_out d m lines) (sym (command_judged words command m c.in-Ok.ensures.gives)))

pub returns-in-Ok-clause-refused : goal.returns-in-Ok-clause-refused
returns-in-Ok-clause-refused g c = λ rasters. c.put_job.ensures.refused (sym (ap (λ (d : Result Command WordFault). words_make_rasters d) c.in-Ok.ensures.gives) ∙ rasters)

pub returns-in-Ok-clause-may_end : goal.returns-in-Ok-clause-may_end
returns-in-Ok-clause-may_end g c =
    subst (λ (d : Result Command WordFault). IfOk d (λ command. IfErr c.put_job.result (MayEnd command.job))) (sym c.in-Ok.ensures.gives) c.put_job.ensures.may_end

pub returns-in-Ok-clause-unknown : goal.returns-in-Ok-clause-unknown
returns-in-Ok-clause-unknown g c = dataset_refused _ c.in-Ok.command c.put_job.result c.in-Ok.ensures.gives c.put_job.ensures.unknown

pub returns-in-Ok-clause-warned : goal.returns-in-Ok-clause-warned
returns-in-Ok-clause-warned g c =
    subst (λ (d : Result Command WordFault). MayWarn (words_warn d) (ended c.put_job.result) c.put_job.new.failed (g.E.Sink.faults c.args.err.now) (g.E.Sink.faults c.put_job.new.err) (g.E.Sink.got c.args.err.now) (g.E.Sink.got c.put_job.new.err)) (sym c.in-Ok.ensures.gives) c.put_job.ensures.warned

pub returns-in-Err-clause-made : goal.returns-in-Err-clause-made
returns-in-Err-clause-made g c = λ rasters m is.
    subst IsOutside (sym c.word_fault_of.ensures) (words_outside (words_of (map string_bytes c.args.words.now)) c.in-Err.fault c.in-Err.ensures.gives rasters)

pub returns-in-Ok-clause-made : goal.returns-in-Ok-clause-made
returns-in-Ok-clause-made g c = λ rasters. c.put_job.ensures.made (sym (ap (λ (d : Result Command WordFault). words_make_rasters d) c.in-Ok.ensures.gives) ∙ rasters)
