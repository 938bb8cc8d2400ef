use Rattle.std.proofs.Common.{refl}
use Rattle.error_lines.specs.Texts.{warning_line}
use Rattle.error_lines.proofs.Said.{part_of_either}
use Rattle.error_lines.proofs.Warned.{adds_put, adds_nothing, warned_next}
use Rattle.error_lines.proofs.warnings.put_warning.Goals as goal

pub returns-then-not-failed-clause-part : goal.returns-then-not-failed-clause-part
returns-then-not-failed-clause-part g c = λ is. part_of_either c.put_skipped.result (warning_line c.args.name.now c.args.reason) _ _ (rw c.reason_word.ensures at c.put_skipped.ensures.ok) (rw c.reason_word.ensures at c.put_skipped.ensures.err)

pub returns-then-not-failed-clause-warned : goal.returns-then-not-failed-clause-warned
returns-then-not-failed-clause-warned g c = λ steps first start w.
    warned_next steps (warning_line c.args.name.now c.args.reason) c.args.failed.now c.is_err.result first _ _ start _ _ w
    (adds_put c.put_skipped.result (warning_line c.args.name.now c.args.reason) c.args.failed.now c.is_err.result _ _ _ _ c.if-not-failed.true c.is_err.ensures.value (rw c.reason_word.ensures at c.put_skipped.ensures.ok) (rw c.reason_word.ensures at c.put_skipped.ensures.err) c.put_skipped.ensures.cause)

pub returns-else-not-failed-clause-warned : goal.returns-else-not-failed-clause-warned
returns-else-not-failed-clause-warned g c = λ steps first start w.
    warned_next steps (warning_line c.args.name.now c.args.reason) c.args.failed.now c.args.failed.now first _ _ start _ _ w
    (adds_nothing (warning_line c.args.name.now c.args.reason) c.args.failed.now _ _ c.if-not-failed.false)
