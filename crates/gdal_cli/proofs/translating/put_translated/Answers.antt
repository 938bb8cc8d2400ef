use Rattle.std.proofs.Common.{subst}
use Rattle.error_lines.specs.Steps.{Done, Goes}
use Rattle.gdal_cli.proofs.MosaicEnds.{refusal_so}
use Rattle.gdal_cli.proofs.TranslationEnds.{translate_done, translate_may, translate_owns, translate_reads_no_input, translate_refuses}
use Rattle.gdal_cli.proofs.translating.put_translated.Goals as goal

pub returns-clause-told : goal.returns-clause-told
returns-clause-told g c = λ m told lines.
    let w = c.args.way in
    subst (λ (d : Done). Goes d m c.put_translation.result (g.F.Folder.names c.put_translation.new.folder) (g.O.Sink.got c.args.out.now) (g.O.Sink.got c.put_translation.new.out))
    (translate_done m w.verify c.args.src.now c.args.options.now w.quiet lines)
    (c.put_translation.ensures.told m told)

pub returns-clause-refused : goal.returns-clause-refused
returns-clause-refused g c = λ refusal. refusal_so c.put_translation.result _ c.put_translation.ensures.refused refusal

pub returns-clause-may_end : goal.returns-clause-may_end
returns-clause-may_end g c = translate_may c.args.src.now c.args.options.now c.args.way.quiet c.put_translation.result c.put_translation.ensures.may_end

pub returns-clause-not_input : goal.returns-clause-not_input
returns-clause-not_input g c = translate_reads_no_input c.args.options.now c.put_translation.result c.put_translation.ensures.may_end

pub returns-clause-unknown : goal.returns-clause-unknown
returns-clause-unknown g c = translate_refuses c.args.options.now c.put_translation.result c.put_translation.ensures.may_end c.args.src.now c.put_translation.ensures.unknown

pub returns-clause-own : goal.returns-clause-own
returns-clause-own g c = translate_owns c.args.options.now c.put_translation.result c.put_translation.ensures.may_end

pub returns-clause-quiet : goal.returns-clause-quiet
returns-clause-quiet g c = c.put_translation.ensures.quiet
