use Rattle.std.proofs.Common.{List}
use Rattle.error_lines.specs.Steps.{Step, AreWarned}
use Rattle.gdal_cli.proofs.MosaicEnds.{build_done, build_may, build_owns, build_reads_no_input, build_refuses, build_unchanged, refusal_so}
use Rattle.gdal_cli.proofs.Warning.{warning_as}
use Rattle.gdal_cli.proofs.mosaics.put_build.Goals as goal

pub returns-clause-told : goal.returns-clause-told
returns-clause-told g c = λ m told lines.
    let b = c.args.building in
    warning_as _ _ m c.put_mosaic.result (g.F.Folder.names c.put_mosaic.new.folder) (g.O.Sink.got c.args.out.now) (g.O.Sink.got c.put_mosaic.new.out)
    (λ (steps : List Step). AreWarned steps c.put_mosaic.new.failed (g.E.Sink.faults c.args.err.now) (g.E.Sink.faults c.put_mosaic.new.err) (g.E.Sink.got c.args.err.now) (g.E.Sink.got c.put_mosaic.new.err))
    (c.put_mosaic.ensures.told c.requires.fresh m told)
    (build_done m b.verify c.args.inputs b.list.now b.options.now b.quiet lines)

pub returns-clause-refused : goal.returns-clause-refused
returns-clause-refused g c = λ refusal. let still = refusal_so c.put_mosaic.result _ c.put_mosaic.ensures.refused refusal in (still.0, still.3)

pub returns-clause-warned : goal.returns-clause-warned
returns-clause-warned g c =
    let w = c.put_mosaic.ensures.warned c.requires.fresh in
    record {
      warnings = w.0;
      told = w.1;
      none = λ is. let no : ⊥ = cc in absurd no;
      refused = refusal_so c.put_mosaic.result _ w.2;
    }

pub returns-clause-may_end : goal.returns-clause-may_end
returns-clause-may_end g c = build_may c.args.inputs c.args.building.list.now c.args.building.options.now c.args.building.quiet c.put_mosaic.result c.put_mosaic.ensures.may_end

pub returns-clause-not_input : goal.returns-clause-not_input
returns-clause-not_input g c = build_reads_no_input c.args.building.options.now.out c.put_mosaic.result c.put_mosaic.ensures.may_end

pub returns-clause-unknown : goal.returns-clause-unknown
returns-clause-unknown g c = build_refuses c.args.building.options.now.out c.put_mosaic.result c.put_mosaic.ensures.may_end

pub returns-clause-changed : goal.returns-clause-changed
returns-clause-changed g c = build_unchanged c.args.building.options.now.out c.put_mosaic.result c.put_mosaic.ensures.may_end (g.F.Folder.names c.args.folder.now)

pub returns-clause-own : goal.returns-clause-own
returns-clause-own g c = build_owns c.args.building.options.now.out c.put_mosaic.result c.put_mosaic.ensures.may_end

pub returns-clause-quiet : goal.returns-clause-quiet
returns-clause-quiet g c = c.put_mosaic.ensures.quiet
