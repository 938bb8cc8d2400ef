use Rattle.std.specs.List.{All}
use Rattle.buildvrt.specs.Options.{IsBandNumber}
use Rattle.build_tests.proofs.asking.numbers_of.Given as goal

-- each number so far is one of a band
abbrev pub invariant-loop-band : goal.invariant-loop-band
invariant-loop-band l = All IsBandNumber l.numbers
