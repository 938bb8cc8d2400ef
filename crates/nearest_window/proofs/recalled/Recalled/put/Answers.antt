use Rattle.std.proofs.Common.{◌≡◌, ◌⊎◌, rules, true, inl, inr, sym, subst, ℤ, List, Contains, to_z, of_z}
use mir.Syntax.{w128}
use Rattle.lru.proofs.CallerLemmas.{Contains-put_entries}
use Rattle.band_blocks.specs.declared.key.PixelKey.{PixelKey}
use Rattle.nearest_window.proofs.Pixels.{same_pixel, pixel_is}
use Rattle.nearest_window.proofs.recalled.Recalled.put.Goals as goal

is_put : (old : List (PixelKey × ℤ)) (key k : PixelKey) (sample v : ℤ)
    → Contains old (k, v) ⊎ ((v ≡ sample) × ((k ≡ key) ⊎ ((w : ℤ) × Contains old (k, w) × (same_pixel key k ≡ true))))
    → Contains old (k, v) ⊎ ((k ≡ key) × (v ≡ sample))
is_put old key k sample v (inl there) = inl there
is_put old key k sample v (inr (same, inl at)) = inr (at, same)
is_put old key k sample v (inr (same, inr held)) = inr (sym (pixel_is key k held.2), same)

pub returns-clause-kept : goal.returns-clause-kept
returns-clause-kept c = λ k v there.
    let range : to_z w128 (of_z w128 c.args.sample) ≡ c.args.sample = search rules in
    let put = Contains-put_entries same_pixel c.self.inside.cache c.args.key (to_z w128 (of_z w128 c.args.sample)) (k, v) (subst (λ n. Contains n.entries (k, v)) c.in_ok-put.ensures.entries there) in
    subst (λ es. Contains es (k, v) ⊎ ((k ≡ c.args.key) × (v ≡ c.args.sample))) c.self.view_is
    (subst (λ s. Contains c.self.inside.cache.entries (k, v) ⊎ ((k ≡ c.args.key) × (v ≡ s))) range (is_put c.self.inside.cache.entries c.args.key k (to_z w128 (of_z w128 c.args.sample)) v put))
