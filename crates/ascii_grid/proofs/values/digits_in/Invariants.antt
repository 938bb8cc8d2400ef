use Rattle.std.proofs.Common.{◌≡◌, ◌≤◌, take, true}
use Rattle.std.specs.List.{list_all}
use Rattle.std.specs.Char.{is_ascii_digit}
use Rattle.geotransform.specs.Decimal.{number}
use Rattle.ascii_grid.proofs.values.digits_in.Given as goal

abbrev pub invariant-loop-i : goal.invariant-loop-i
invariant-loop-i l = record {
  digits : list_all is_ascii_digit (take l.i l.bytes) ≡ true;
  value : l.n ≡ number (take l.i l.bytes);
  small : l.n ≤ 2000000009;
}
