use Rattle.std.proofs.Common.{◌≡◌, ◌∙◌, ap, false, sym}
use Rattle.std.proofs.lemmas.List.{take_all}
use Rattle.std.proofs.lemmas.List.Elements.{All-more, All-same}
use Rattle.nearest_window.specs.Indexes.{is_kept_for}
use Rattle.nearest_window.proofs.indexes.find_in.Goals as goal

pub loop-kept-preserved : goal.loop-kept-preserved
loop-kept-preserved c =
    All-more (λ k. is_kept_for k c.args.dataset c.args.band ≡ false) c.args.bands.now c.loop-kept.kept-index c.kept-item.result c.loop-kept-test.true c.loop-kept.invariant
    (sym (ap (λ k. is_kept_for k c.args.dataset c.args.band) c.kept-item.is) ∙ (sym c.is_kept_for.ensures.same ∙ c.if-is_kept_for.false))

pub returns-clause-none : goal.returns-clause-none
returns-clause-none c = λ none. All-same (λ k. is_kept_for k c.args.dataset c.args.band ≡ false) _ _ (sym (take_all c.loop-kept.kept-index c.args.bands.now c.loop-kept-test.false)) c.loop-kept.invariant
