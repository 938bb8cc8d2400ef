use Rattle.std.proofs.Common.{List, ℕ, subst, arith}
use Rattle.std.proofs.lemmas.List.{take_all}
use Rattle.catalog.specs.Gathered.{HasKept}
use Rattle.catalog.proofs.repeats.kept_but.Goals as goal

pub loop-at-preserved : goal.loop-at-preserved
loop-at-preserved c = c.in_ok-keep.ensures.kept c.args.own.now c.loop-at.invariant

pub returns : goal.returns
returns c = record {
  kept = subst (λ (l : List (List ℕ)). HasKept c.args.own.now l c.loop-at.files) (take_all c.loop-at.at c.args.names.now (omega arith)) c.loop-at.invariant;
}
