use Rattle.std.proofs.Common.{◌≡◌, take}
use Rattle.std.specs.Prelude.{All}
use Rattle.command_words.proofs.Listed.{IsBand}
use Rattle.command_words.proofs.jobs.numbers_of.Given as goal

-- the numbers of the bands so far
abbrev pub invariant-loop-band : goal.invariant-loop-band
invariant-loop-band l = record {
  same : l.numbers ≡ take l.band-index l.bands;
  within : All IsBand l.numbers;
}
