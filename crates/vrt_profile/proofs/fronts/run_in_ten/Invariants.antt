use Rattle.std.proofs.Common.{◌≡◌, ◌≤◌, ◌+◌, ◌-◌, ◌*◌, ◌^◌, take, true}
use Rattle.std.specs.List.{fold, list_all}
use Rattle.std.specs.Char.{is_ascii_digit}
use Rattle.vrt_profile.proofs.fronts.run_in_ten.Given as goal

abbrev pub invariant-loop-count : goal.invariant-loop-count
invariant-loop-count l = record {
  digits : list_all is_ascii_digit (take l.count l.text) ≡ true;
  number : l.n ≡ fold (λ n c. n * 10 + (c - 48)) 0 (take l.count l.text);
  room : (l.n + 1) * 10 ^ (10 - l.count) ≤ 10 ^ 19;
}
