use Rattle.std.proofs.Common.{◌≡◌, ◌∙◌, arith, subst, ℕ, List, [], ◌∷◌, Ok, Err}
use Rattle.error_lines.specs.declared.faults.Fault.{Fault}
use Rattle.error_lines.specs.declared.faults.Fault.TheVariants.{OutFault, Memory}
use Rattle.error_lines.specs.Steps.{all_done, prints, Goes}
use Rattle.output_copies.proofs.Ends.{ends_after, ends_beside, ends_memory, ends_so, err_is}
use Rattle.synth_runs.specs.Runs.{tally_done}
use Rattle.synth_runs.proofs.Ending.{where_failed}
use Rattle.synth_runs.proofs.Parts.{none_goes, lines_put}
use Rattle.synth_runs.proofs.Tallying.{told_as}
use Rattle.synth_runs.proofs.telling.put_told.Goals as goal

pub returns-in_err-tally-clause-told : goal.returns-in_err-tally-clause-told
returns-in_err-tally-clause-told g c = λ m d told at.
    let f = c.in_err-tally.field-0.0 in
    none_goes (tally_done m (Ok d)) m c.from_residual.result f (g.F.Folder.names c.tally_copied.new.folder) (g.O.Sink.got c.args.out.now) (err_is c.from_residual.result f c.from_residual.ensures) (c.tally_copied.ensures.names ∙ told) (c.in_err-tally.ensures.ends.never m told)

pub returns-in_err-tally-clause-ends : goal.returns-in_err-tally-clause-ends
returns-in_err-tally-clause-ends g c =
    let f = c.in_err-tally.field-0.0 in
    ends_so _ _ _ _ _ f c.from_residual.result (err_is c.from_residual.result f c.from_residual.ensures)
    (ends_beside (g.F.Folder.names c.args.folder.now) (g.F.Folder.faults c.args.folder.now) (g.F.Folder.faults c.tally_copied.new.folder) (g.O.Sink.faults c.args.out.now) (Err f) c.in_err-tally.ensures.ends)

pub returns-in_err-text-clause-told : goal.returns-in_err-text-clause-told
returns-in_err-text-clause-told g c = λ m d told at.
    none_goes (tally_done m (Ok d)) m c.from_residual-in_err-text.result Memory (g.F.Folder.names c.tally_copied.new.folder) (g.O.Sink.got c.args.out.now) (err_is c.from_residual-in_err-text.result Memory c.from_residual-in_err-text.ensures) (c.tally_copied.ensures.names ∙ told) tt

pub returns-in_err-text-clause-ends : goal.returns-in_err-text-clause-ends
returns-in_err-text-clause-ends g c =
    ends_so {T = Unit {0}} _ _ _ _ _ Memory c.from_residual-in_err-text.result (err_is c.from_residual-in_err-text.result Memory c.from_residual-in_err-text.ensures)
    (ends_memory (g.F.Folder.names c.args.folder.now) (g.F.Folder.faults c.args.folder.now) (g.F.Folder.faults c.tally_copied.new.folder) (g.O.Sink.faults c.args.out.now) (g.O.Sink.faults c.args.out.now) c.in_ok-tally.ensures.ends.cause.folder_later (omega arith))

pub returns-clause-told : goal.returns-clause-told
returns-clause-told g c = λ m d told at.
    let copied = c.args.copied.now in
    subst (λ (t : List ℕ). Goes (all_done (prints (t ∷ []))) m c.put_lines.result (g.F.Folder.names c.tally_copied.new.folder) (g.O.Sink.got c.args.out.now) (g.O.Sink.got c.put_lines.new.out))
    (told_as m copied.cat copied.id copied.size d c.in_ok-tally.tally _ c.requires.copied at (c.in_ok-tally.ensures.tally m told d at) (c.deref.ensures.value ∙ c.in_ok-text.ensures.text))
    (c.put_lines.ensures.told m (g.F.Folder.names c.tally_copied.new.folder) (c.tally_copied.ensures.names ∙ told))

pub returns-clause-ends : goal.returns-clause-ends
returns-clause-ends g c =
    ends_after (g.F.Folder.names c.args.folder.now) (g.F.Folder.names c.tally_copied.new.folder) (g.F.Folder.faults c.args.folder.now) (g.F.Folder.faults c.tally_copied.new.folder) (g.F.Folder.faults c.tally_copied.new.folder) (g.O.Sink.faults c.args.out.now) (g.O.Sink.faults c.args.out.now) (g.O.Sink.faults c.put_lines.new.out) c.put_lines.result
    c.tally_copied.ensures.names c.in_ok-tally.ensures.ends.cause.folder_later (omega arith)
    (c.put_lines.ensures.ends (g.F.Folder.names c.tally_copied.new.folder) (g.F.Folder.faults c.tally_copied.new.folder))

pub returns-clause-lines : goal.returns-clause-lines
returns-clause-lines g c =
    lines_put c.put_lines.result c.args.copied.now.size c.in_ok-tally.tally _ (g.O.Sink.got c.args.out.now) (g.O.Sink.got c.put_lines.new.out)
    (c.deref.ensures.value ∙ c.in_ok-text.ensures.text) c.put_lines.ensures.ok

pub returns-clause-silent : goal.returns-clause-silent
returns-clause-silent g c =
    where_failed (λ (f : Fault). f ≡ OutFault) (λ (f : Fault). (f ≡ OutFault → ⊥) → c.put_lines.new.out ≡ c.args.out.now) c.put_lines.result (λ f is other. absurd (other is)) c.put_lines.ensures.faults
