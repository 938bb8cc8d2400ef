use Rattle.std.proofs.Common.{◌≡◌, ◌<◌, ℕ, Some, false}
use Rattle.std.specs.Prelude.{slice_get}
use Rattle.catalog.specs.Drivers.{Dataset}
use Rattle.published_files.specs.Names.{is_own}
use Rattle.published_files.proofs.names.is_read.Given as goal

-- none has it so far
abbrev pub invariant-loop-id : goal.invariant-loop-id
invariant-loop-id l = (i : ℕ) (d : Dataset) → i < l.id → slice_get l.cat i ≡ Some d → is_own d.head.name l.name ≡ false
