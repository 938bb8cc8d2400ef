use Rattle.std.proofs.Common.{◌∙◌, ◌<◌, ap, ap₂, take, drop, ℕ, arith}
use Rattle.catalog.proofs.Records.{passed, found}
use Rattle.catalog.proofs.dted.broken_line.Goals as goal

pub returns-then-not-check_record-clause-told : goal.returns-then-not-check_record-clause-told
returns-then-not-check_record-clause-told g c = λ b told.
    let read = c.in_ok-read_at.ensures.ok b (c.loop-line.invariant.bytes ∙ told) ∙ ap₂ (λ (n p : ℕ). take n (drop p b)) c.loop-line.invariant.whole c.record_at.ensures.value in
    let below : c.loop-line.line < c.args.head.now.lines = omega (arith, c.loop-line-test.true, ap (λ h. h.lines) c.head.view_is) in
    found c.args.head.now b c.read_at.new.out c.loop-line.line c.args.head.now.lines c.check_record.result _ below read c.check_record.ensures.whole c.if-not-check_record.true (c.loop-line.invariant.told b told)

pub loop-line-preserved : goal.loop-line-preserved
loop-line-preserved g c = record {
  told = λ b told.
      let read = c.in_ok-read_at.ensures.ok b (c.loop-line.invariant.bytes ∙ told) ∙ ap₂ (λ (n p : ℕ). take n (drop p b)) c.loop-line.invariant.whole c.record_at.ensures.value in
      let below : c.loop-line.line < c.args.head.now.lines = omega (arith, c.loop-line-test.true, ap (λ h. h.lines) c.head.view_is) in
      passed c.args.head.now b c.read_at.new.out c.loop-line.line c.args.head.now.lines c.check_record.result _ below read c.check_record.ensures.whole c.if-not-check_record.false (c.loop-line.invariant.told b told);
  bytes = c.read_at.ensures.bytes ∙ c.loop-line.invariant.bytes;
  len = c.read_at.ensures.len ∙ c.loop-line.invariant.len;
  whole = c.read_at.auto.out ∙ c.loop-line.invariant.whole;
  names = c.read_at.ensures.names ∙ c.loop-line.invariant.names;
  reads = omega (arith, c.loop-line.invariant.reads, c.read_at.ensures.read_calls);
  write_calls = c.read_at.ensures.write_calls ∙ c.loop-line.invariant.write_calls;
  later = omega (arith, c.loop-line.invariant.later, c.read_at.ensures.cause.later);
}
