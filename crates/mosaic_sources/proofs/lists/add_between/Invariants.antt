use Rattle.std.proofs.Common.{◌≡◌, ℕ, ◌<◌, ◌++◌, [], ◌∷◌, ◌&&◌, length, nat_le, nat_lt, cond, get_or}
use Rattle.mosaic_sources.proofs.lists.add_between.Given as goal

abbrev pub invariant-loop-at : goal.invariant-loop-at
invariant-loop-at l = record {
  count : length l.lists.items ≡ length l.initial.lists.items;
  lists : (k : ℕ) → k < length l.initial.lists.items → get_or l.lists.items k [] ≡ cond (nat_le l.fn.span.first k && nat_lt k l.at) (get_or l.initial.lists.items k [] ++ l.number ∷ []) (get_or l.initial.lists.items k []);
}
