use Rattle.std.proofs.Common.{◌∙◌, subst, arith, List, ℕ, take}
use Rattle.mosaic_builds.specs.Walks.{AreNumbers}
use Rattle.mosaic_builds.proofs.Walked.{walks_next, taken_next, kept_next, numbers_known}
use Rattle.mosaic_builds.proofs.walks.walk_all.Goals as goal

pub loop-name-preserved : goal.loop-name-preserved
loop-name-preserved g c =
    let so = c.loop-name.invariant in
    let i = c.loop-name.name-index in
    let names = c.args.names.now in
    let name = c.name-item.result in
    let later = c.walk_next.ensures.cause.later in
    let before = so.later in
    record {
      told = λ m is. walks_next m c.args.verify names i name c.args.cat.now c.loop-name.cat c.walk_next.new.cat c.loop-name-test.true c.name-item.is (so.told m is) (c.in-Ok.ensures.told m (so.same ∙ is));
      numbers = subst (λ (l : List (List ℕ)). AreNumbers c.walk_next.new.cat l c.walk_next.new.ids) (taken_next names i name c.loop-name-test.true c.name-item.is) (c.in-Ok.ensures.numbers (take i names) so.numbers);
      kept = kept_next c.args.cat.now c.loop-name.cat c.walk_next.new.cat so.kept c.walk_next.ensures.kept;
      walked = λ m is old. c.walk_next.ensures.walked m (so.same ∙ is) (so.walked m is old);
      same = c.walk_next.ensures.names ∙ so.same;
      writes = c.walk_next.ensures.writes ∙ so.writes;
      later = omega (arith, before, later);
    }

pub returns-clause-known : goal.returns-clause-known
returns-clause-known g c = numbers_known c.loop-name.cat (take c.loop-name.name-index c.args.names.now) c.loop-name.ids c.loop-name.invariant.numbers.each
