use Rattle.std.proofs.Common.{ap, length, slice_index, subst, sym, ◌∙◌, ◌<◌, ℕ}
use Rattle.std.proofs.lemmas.List.FromFn.{length-range_with_len}
use Rattle.nearest_window.specs.Wanted.{numbers_of}
use Rattle.nearest_window.proofs.Needed.{number_at}
use Rattle.nearest_window.proofs.wanted.Wanted.at.Goals as goal

pub returns-in-All : goal.returns-in-All
returns-in-All c =
    let count = c.in-All.field-0 in
    let less : c.args.k < count = subst (λ (n : ℕ). c.args.k < n) (ap (λ w. length (numbers_of w)) c.in-All.is ∙ length-range_with_len 0 count) c.requires.there in
    record { number = sym (ap (λ w. slice_index (numbers_of w) c.args.k) c.in-All.is ∙ number_at count c.args.k 0 less) }
