use Rattle.std.proofs.Common.{◌∙◌, ap, subst, inr, IsUtf8}
use Rattle.std.specs.Str.Lines.{lines}
use Rattle.mosaic_builds.specs.Inputs.{filled}
use Rattle.mosaic_builds.proofs.Ended.{names_end, names_cause}
use Rattle.mosaic_builds.proofs.Listed.{refused_list, no_list, listed}
use Rattle.mosaic_builds.proofs.list.with_list.Goals as goal

pub returns-in-Err-clause-told : goal.returns-in-Err-clause-told
returns-in-Err-clause-told g c = λ m is. refused_list m c.args.names c.args.list.now c.in-Err.fault (c.in-Err.ensures.err m is)

pub returns-in-Ok-from_utf8-clause-told : goal.returns-in-Ok-from_utf8-clause-told
returns-in-Ok-from_utf8-clause-told g c = λ m is.
    listed m c.args.names c.args.list.now c.in-Ok.bytes.items c.in-Ok-from_utf8.text.now c.with_text.result (c.in-Ok.ensures.ok m is) (c.in-Ok.ensures.few m is)
    (c.drop_empty_lines.ensures.text.0 (subst IsUtf8 c.deref.ensures.value c.in-Ok-from_utf8.ensures.cases.1))
    (ap (λ t. filled (lines t)) (c.in-Ok-from_utf8.ensures.cases.0 ∙ c.deref.ensures.value) ∙ c.drop_empty_lines.ensures.lines) c.with_text.ensures.told

pub returns-in-Ok-from_utf8-clause-cause : goal.returns-in-Ok-from_utf8-clause-cause
returns-in-Ok-from_utf8-clause-cause g c = names_cause c.with_text.result _ _ c.read_list.ensures.cause.later c.with_text.ensures.faults

pub returns-in-Ok-from_utf8-clause-faults : goal.returns-in-Ok-from_utf8-clause-faults
returns-in-Ok-from_utf8-clause-faults g c = λ out. names_end c.with_text.result c.with_text.ensures.faults out

pub returns-in_ok-try_clone-in-Err-from_utf8-clause-told : goal.returns-in_ok-try_clone-in-Err-from_utf8-clause-told
returns-in_ok-try_clone-in-Err-from_utf8-clause-told g c = λ m is.
    rw c.in_ok-try_clone-in-Err-from_utf8.ensures.same
    (inr (no_list m c.args.names c.args.list.now c.in-Ok.bytes.items (c.in-Ok.ensures.ok m is) (c.in-Ok.ensures.few m is)
    (λ text. c.in-Err-from_utf8.ensures.cases.0 (rw c.deref.ensures.value (c.drop_empty_lines.ensures.text.1 text)))))
