use Rattle.std.proofs.Common.{ap, length, sym, ◌∙◌}
use Rattle.std.proofs.lemmas.List.FromFn.{length-range_with_len}
use Rattle.nearest_window.specs.Wanted.{numbers_of}
use Rattle.nearest_window.proofs.wanted.Wanted.len.Goals as goal

pub returns-in-All : goal.returns-in-All
returns-in-All c = record { count = sym (ap (λ w. length (numbers_of w)) c.in-All.is ∙ length-range_with_len 0 c.in-All.count) }
