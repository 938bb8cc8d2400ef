use Rattle.std.proofs.Common.{length}
use Rattle.std.specs.Str.Lines.{lines}
use Rattle.std.proofs.lemmas.Iterator.Consumers.{YieldsList-turn, YieldsList-end}
use Rattle.std.proofs.lemmas.Iterator.Splits.{YieldsList-from_lines}
use Rattle.std.proofs.lemmas.List.{length_push}
use Rattle.mosaic_builds.proofs.Listed.{lines_next, lines_refused, lines_end}
use Rattle.mosaic_builds.proofs.list.add_lines.Goals as goal

pub loop-line-preserved : goal.loop-line-preserved
loop-line-preserved c =
    let at = YieldsList-turn (YieldsList-from_lines c.args.text.now cc) c.loop-line.yielded _ c.loop-line.yielded_by _ _ c.in-Some.line c.in-Some.is c.next.ensures.steps in
    record {
      few = c.in-Ok.ensures.few;
      same = lines_next (lines c.args.text.now) (length c.loop-line.yielded) _ c.in-Some.line.now _ _ _ at (length_push c.loop-line.yielded c.in-Some.line) c.loop-line.invariant.same c.in-Ok.ensures.ok;
    }

pub returns-in-Err-clause-told : goal.returns-in-Err-clause-told
returns-in-Err-clause-told c =
    let at = YieldsList-turn (YieldsList-from_lines c.args.text.now cc) c.loop-line.yielded _ c.loop-line.yielded_by _ _ c.in-Some.line c.in-Some.is c.next.ensures.steps in
    lines_refused (lines c.args.text.now) (length c.loop-line.yielded) c.in-Some.line.now _ _ _ at c.loop-line.invariant.same c.in-Err.ensures.err

pub returns-clause-told : goal.returns-clause-told
returns-clause-told c =
    let all = YieldsList-end (YieldsList-from_lines c.args.text.now cc) c.loop-line.yielded _ c.loop-line.yielded_by _ _ c.in-None.is c.next.ensures.steps in
    lines_end (lines c.args.text.now) (length c.loop-line.yielded) _ _ all.1 c.loop-line.invariant.same
