use Rattle.std.proofs.Common.{◌≡◌, ◌≤◌, take}
use Rattle.std.specs.Prelude.{All}
use Rattle.gdal_cli.proofs.asked.numbers_of.Given as goal

-- the numbers of the bands so far
abbrev pub invariant-loop-band : goal.invariant-loop-band
invariant-loop-band l = record {
  same : l.numbers ≡ take l.band-index l.bands;
  first : All (λ band. 1 ≤ band) l.numbers;
}
