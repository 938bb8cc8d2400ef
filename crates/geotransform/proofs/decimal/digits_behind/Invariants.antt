use Rattle.std.proofs.Common.{◌≡◌, ◌≤◌, ◌+◌, ◌-◌, ◌*◌, ◌^◌, take, length, true}
use Rattle.std.specs.List.{fold, list_all}
use Rattle.std.specs.Char.{is_ascii_digit}
use Rattle.geotransform.proofs.decimal.digits_behind.Given as goal

abbrev pub invariant-loop-i : goal.invariant-loop-i
invariant-loop-i l = record {
  digits : list_all is_ascii_digit (take l.i l.text) ≡ true;
  number : l.n ≡ fold (λ n c. n * 10 + (c - 48)) l.front (take l.i l.text);
  room : (l.n + 1) * 10 ^ (length l.text - l.i) ≤ 10 ^ 19;
}
