use Rattle.std.proofs.Common.{◌≡◌, false, take}
use Rattle.std.specs.List.{All}
use Rattle.nearest_window.specs.Indexes.{is_kept_for}
use Rattle.nearest_window.proofs.indexes.find_in.Given as goal

abbrev pub invariant-loop-kept : goal.invariant-loop-kept
invariant-loop-kept l = All (λ k. is_kept_for k l.fn.dataset l.fn.band ≡ false) (take l.kept-index l.bands)
