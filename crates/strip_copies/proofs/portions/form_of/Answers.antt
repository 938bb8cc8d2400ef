use Rattle.std.proofs.Common.{ap}
use Rattle.translate_plan.specs.Plan.{Planned}
use Rattle.strip_copies.proofs.portions.form_of.Goals as goal

pub returns : goal.returns
returns c = record {
  form = λ d at.
      let driver = ap (λ (q : Planned). q.driver) c.plan.view_is in
      let kind = c.kind_of-kind.ensures.kind d at in
      let size = c.source_size-size.ensures.size d at in
      let cells = c.has_blocks-cells.ensures.blocks in
      let copied = c.is_copied-copied.ensures.copied in
      let form = c.form_by.ensures.form in
      cc;
}
