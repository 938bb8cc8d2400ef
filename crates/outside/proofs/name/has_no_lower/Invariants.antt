use Rattle.std.proofs.Common.{◌≡◌, drop}
use Rattle.outside.specs.Names.{has_no_lower}
use Rattle.outside.proofs.name.has_no_lower.Given as goal

abbrev pub invariant-loop-byte : goal.invariant-loop-byte
invariant-loop-byte l = has_no_lower (drop l.byte-index l.byte-items) ≡ has_no_lower l.text
