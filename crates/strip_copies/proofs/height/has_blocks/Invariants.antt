use Rattle.std.proofs.Common.{◌≡◌, ◌<◌, ℕ, Some, false}
use Rattle.std.specs.Prelude.{slice_get}
use Rattle.catalog.specs.Drivers.{Dataset}
use Rattle.strip_copies.specs.Heights.{is_cut_into}
use Rattle.strip_copies.proofs.height.has_blocks.Given as goal

-- none so far
abbrev pub invariant-loop-id : goal.invariant-loop-id
invariant-loop-id l = (i : ℕ) (d : Dataset) → i < l.id → slice_get l.cat i ≡ Some d → is_cut_into l.shape d.head.kind ≡ false
