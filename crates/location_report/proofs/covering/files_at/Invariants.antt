use Rattle.std.proofs.Common.{◌≡◌, length, take, fold, slice_get, Some}
use Rattle.catalog.specs.Drivers.{Dataset}
use Rattle.location_report.specs.Covering.{with_found, covering_in}
use Rattle.location_report.proofs.covering.files_at.Given as goal

-- the names of what the sources so far name; what was there stands in front
abbrev pub invariant-loop-number : goal.invariant-loop-number
invariant-loop-number l = record {
  names : (d : Dataset) → slice_get l.cat l.id ≡ Some d → l.out ≡ fold (λ ns s. with_found ns (covering_in l.cat d l.x l.y s)) l.initial.out (take l.number l.source-items);
  kept : take (length l.initial.out) l.out ≡ l.initial.out;
}
