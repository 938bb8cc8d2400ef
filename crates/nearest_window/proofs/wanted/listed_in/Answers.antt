use Rattle.std.proofs.Common.{subst, sym}
use Rattle.std.proofs.lemmas.Result.{IfOk-weaker}
use Rattle.std.specs.List.Sorted.{IsStrictlyIncreasing}
use Rattle.nearest_window.proofs.Needed.{line_all, line_from, sorted_from}
use Rattle.nearest_window.proofs.wanted.listed_in.Goals as goal

pub returns-then-is_one_stretch-clause-rising : goal.returns-then-is_one_stretch-clause-rising
returns-then-is_one_stretch-clause-rising c =
    IfOk-weaker c.copied.result _ _ (λ v is. subst IsStrictlyIncreasing (sym is) (c.requires.rising c.args.rect.y (c.is_one_stretch.ensures.some c.if-is_one_stretch.true))) c.copied.ensures.list

pub returns-then-is_one_stretch-clause-all : goal.returns-then-is_one_stretch-clause-all
returns-then-is_one_stretch-clause-all c =
    IfOk-weaker c.copied.result _ _ (λ v is. line_all c.args.index.now c.args.rect c.args.rect.y v.items is (c.is_one_stretch.ensures.same c.if-is_one_stretch.true)) c.copied.ensures.list

pub returns-then-is_one_stretch-clause-from : goal.returns-then-is_one_stretch-clause-from
returns-then-is_one_stretch-clause-from c =
    IfOk-weaker c.copied.result _ _ (λ v is. line_from c.args.index.now c.args.rect c.args.rect.y v.items (c.is_one_stretch.ensures.line c.if-is_one_stretch.true) is) c.copied.ensures.list

pub returns-clause-from : goal.returns-clause-from
returns-clause-from c = sorted_from c.args.index.now c.args.rect c.in_ok-numbers.numbers.items c.each_once.new.numbers.items c.in_ok-numbers.ensures.from c.each_once.ensures.from
