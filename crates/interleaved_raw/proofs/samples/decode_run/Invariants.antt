use Rattle.std.proofs.Common.{◌≡◌, ℕ, ◌<◌, get_or, pos, true}
use Rattle.geotransform.specs.Types.{is_in}
use Rattle.interleaved_raw.specs.Raw.{strided_at}
use Rattle.interleaved_raw.proofs.samples.decode_run.Given as goal

abbrev pub invariant-loop-i : goal.invariant-loop-i
invariant-loop-i l = record {
  samples : (k : ℕ) → k < l.i → get_or l.out k (pos 0) ≡ strided_at l.head l.bytes k;
  range : (k : ℕ) → k < l.i → is_in l.head.kind (strided_at l.head l.bytes k) ≡ true;
}
