use Rattle.std.proofs.Common.{◌≡◌, ◌∙◌, Some, sym, subst, inl, inr, arith}
use Rattle.std.specs.Prelude.{slice_get}
use Rattle.std.proofs.lemmas.Bool.{cases_lt}
use Rattle.catalog.specs.Drivers.{Dataset}
use Rattle.strip_copies.specs.Heights.{is_cut_into}
use Rattle.strip_copies.proofs.Cells.{any_found, any_missed}
use Rattle.strip_copies.proofs.height.has_blocks.Goals as goal

pub loop-id-preserved : goal.loop-id-preserved
loop-id-preserved c = λ i d less at. elim (cases_lt i c.loop-id.id) [
  | inl a ↦ c.loop-id.invariant i d a at
  | inr b ↦
      let same : i ≡ c.loop-id.id = omega arith in
      sym (c.is_cut_at.ensures.cut d (subst (λ n. slice_get c.args.cat.now n ≡ Some d) same at)) ∙ c.if-is_cut_at.false
]

pub returns-then-is_cut_at : goal.returns-then-is_cut_at
returns-then-is_cut_at c = record {
  blocks = sym (any_found (λ (d : Dataset). is_cut_into c.args.shape d.head.kind) c.args.cat.now c.loop-id.id (omega arith) (λ d at. sym (c.is_cut_at.ensures.cut d at) ∙ c.if-is_cut_at.true));
}

pub returns : goal.returns
returns c = record {
  blocks = sym (any_missed (λ (d : Dataset). is_cut_into c.args.shape d.head.kind) c.args.cat.now (λ i d less at. c.loop-id.invariant i d (omega (arith, less, c.loop-id-test.false, c.count-id-end.ensures.count)) at));
}
