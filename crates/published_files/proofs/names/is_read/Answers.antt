use Rattle.std.proofs.Common.{◌∙◌, sym, arith}
use Rattle.catalog.specs.Drivers.{Dataset}
use Rattle.published_files.proofs.Listed.{any_found, any_missed}
use Rattle.published_files.specs.Names.{is_own}
use Rattle.published_files.proofs.names.is_read.Goals as goal

pub returns-then-branch : goal.returns-then-branch
returns-then-branch c = record {
  read = sym (any_found (λ (d : Dataset). is_own d.head.name c.args.name.now) c.args.cat.now c.loop-id.id (omega arith) (λ d at. sym (c.in_ok-is_own_at.ensures.own d at) ∙ c.if-branch.true));
}

pub returns : goal.returns
returns c = record {
  read = sym (any_missed (λ (d : Dataset). is_own d.head.name c.args.name.now) c.args.cat.now (λ i d less at. c.loop-id.invariant i d (omega (arith, less, c.loop-id-test.false, c.count-id-end.ensures.count)) at));
}
