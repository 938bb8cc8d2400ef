use Rattle.std.proofs.Common.{◌≡◌, ◌<◌, ℕ, pos, get_or, length}
use Rattle.write_back.proofs.store.clear.Given as goal

abbrev pub invariant-loop-at : goal.invariant-loop-at
invariant-loop-at l = record {
  kind : l.block.kind ≡ l.fn.block.kind;
  count : length l.block.samples ≡ length l.fn.block.samples;
  zeros : (u : ℕ) → u < l.at → get_or l.block.samples u (pos 0) ≡ pos 0;
}
