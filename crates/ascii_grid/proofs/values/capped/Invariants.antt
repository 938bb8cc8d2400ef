use Rattle.std.proofs.Common.{◌≡◌, ◌≤◌, min, take}
use Rattle.geotransform.specs.Decimal.{number}
use Rattle.ascii_grid.proofs.values.capped.Given as goal

abbrev pub invariant-loop-c : goal.invariant-loop-c
invariant-loop-c l = record {
  capped : min l.n 2147483649 ≡ min (number (take l.c-index l.digits)) 2147483649;
  bound : l.n ≤ 21474836735;
}
