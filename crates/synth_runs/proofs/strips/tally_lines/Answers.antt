use Rattle.std.proofs.Common.{◌≡◌, ◌∙◌, ◌+◌, refl, arith, subst, ℕ, Option}
use Rattle.outside.specs.Outside.{Files}
use Rattle.synth_runs.specs.Tallied.{AreTallied}
use Rattle.synth_runs.proofs.Tallying.{none_tallied}
use Rattle.synth_runs.proofs.strips.tally_lines.Goals as goal

pub loop-line-init : goal.loop-line-init
loop-line-init g c = record {
  below = omega arith;
  ready = c.requires.ready;
  tallied = none_tallied (g.F.Folder.names c.args.folder.now) c.args.copied.now.cat c.args.copied.now.id c.args.copied.now.size c.new-tally.result c.new-tally.ensures.none;
  names = refl;
  later = omega arith;
}

pub loop-line-preserved : goal.loop-line-preserved
loop-line-preserved g c =
    let before = c.loop-line.invariant in
    let here = c.in-Ok.ensures in
    let names : g.F.Folder.names c.tally_strip.new.folder ≡ g.F.Folder.names c.args.folder.now = here.names ∙ before.names in
    record {
      below = omega arith;
      ready = here.ready;
      tallied = subst (λ (o : Option Files). AreTallied o c.args.copied.now.cat c.args.copied.now.id c.args.copied.now.size (c.loop-line.line + c.min.result) c.tally_strip.new.tally) names here.tallied;
      names = names;
      later = omega (arith, before.later, here.ends.cause.folder_later);
    }

pub returns-clause-tallied : goal.returns-clause-tallied
returns-clause-tallied g c =
    let before = c.loop-line.invariant in
    let all : c.loop-line.line ≡ c.args.copied.now.size.h = omega (arith, before.below, c.loop-line-test.false) in
    subst (λ (n : ℕ). AreTallied (g.F.Folder.names c.args.folder.now) c.args.copied.now.cat c.args.copied.now.id c.args.copied.now.size n c.loop-line.tally) all before.tallied
