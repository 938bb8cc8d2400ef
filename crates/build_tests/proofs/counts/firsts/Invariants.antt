use Rattle.std.specs.List.{All}
use Rattle.buildvrt.specs.Options.{IsBandNumber}
use Rattle.build_tests.proofs.counts.firsts.Given as goal

-- each number so far is one of a band
abbrev pub invariant-loop : goal.invariant-loop
invariant-loop l = All IsBandNumber l.numbers
