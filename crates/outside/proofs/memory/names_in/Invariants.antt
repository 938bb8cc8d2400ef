use Rattle.std.proofs.Common.{◌≡◌, [], take}
use Rattle.outside.specs.Memory.{AreApart, names_with}
use Rattle.outside.proofs.Listing.{Lists}
use Rattle.outside.proofs.memory.names_in.Given as goal

-- the names of the files so far
abbrev pub invariant-loop-stored : goal.invariant-loop-stored
invariant-loop-stored l = record {
  lists : Lists l.names (take l.stored-index l.files);
  apart : AreApart l.names;
  order : l.names ≡ names_with [] (take l.stored-index l.files);
}
