use Rattle.std.proofs.Common.{◌≡◌, ◌<◌, ◌≤◌, length, ◌-◌, drop}
use Rattle.std.specs.Prelude.{slice_index}
use Rattle.outside.specs.Plain.{add_the_same}
use Rattle.outside.proofs.path.dropped_len.Given as goal

abbrev pub invariant-loop-count : goal.invariant-loop-count
invariant-loop-count l = record {
  parts : add_the_same l.text (drop l.count l.text);
  bound : l.count ≤ length l.text;
  slash : 0 < l.count → slice_index l.text (l.count - 1) ≡ 47;
}

abbrev pub decreases-loop-count : goal.decreases-loop-count
decreases-loop-count l = length l.text - l.count
