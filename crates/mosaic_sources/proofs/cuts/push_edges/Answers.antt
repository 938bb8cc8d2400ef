use Rattle.std.proofs.Common.{◌≡◌, ⊎_elim, inl, inr}
use Rattle.std.specs.List.{Contains}
use Rattle.mosaic_sources.proofs.cuts.push_edges.Goals as goal

pub returns-clause-from : goal.returns-clause-from
returns-clause-from c = λ x there. ⊎_elim
    (λ (h : Contains c.push_inner.new.edges.items x). ⊎_elim
    (λ (k : Contains c.args.edges.now.items x). inl k)
    (λ (e : c.args.span.first ≡ x). inr (record { some = c.if-span.false; at = inl e }))
    (c.in_ok-push_inner.ensures.from x h))
    (λ (e : c.args.span.end ≡ x). inr (record { some = c.if-span.false; at = inr e }))
    (c.in_ok-push_inner-2.ensures.from x there)
