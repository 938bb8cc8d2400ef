use Rattle.std.proofs.lemmas.List.Filters.{dedup_is}
use Rattle.std.proofs.lemmas.List.Kept.{Contains-dedup_nat, Contains-from_dedup}
use Rattle.std.proofs.lemmas.List.Sorted.{Contains-permutation, IsPermutation-sym}
use Rattle.std.proofs.lemmas.Map.Keys.{IsStrictlyIncreasing-dedup}
use Rattle.nearest_window.proofs.wanted.each_once.Goals as goal

pub returns-clause-rising : goal.returns-clause-rising
returns-clause-rising c =
    let is = dedup_is _ _ _ c.dedup.ensures.filtered in
    rw is (IsStrictlyIncreasing-dedup _ c.sort_unstable.ensures.sorted)

pub returns-clause-all : goal.returns-clause-all
returns-clause-all c = λ n there.
    let is = dedup_is _ _ _ c.dedup.ensures.filtered in
    rw is (Contains-dedup_nat _ n (Contains-permutation _ _ n c.sort_unstable.ensures.permutation there))

pub returns-clause-from : goal.returns-clause-from
returns-clause-from c = λ n there.
    let is = dedup_is _ _ _ c.dedup.ensures.filtered in
    Contains-permutation _ _ n (IsPermutation-sym _ _ c.sort_unstable.ensures.permutation) (Contains-from_dedup _ _ n (rw is at there))
