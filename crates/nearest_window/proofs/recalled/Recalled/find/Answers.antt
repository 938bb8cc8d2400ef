use Rattle.std.proofs.Common.{◌≡◌, rules, sym, subst, Contains, Some, to_z, of_z}
use Rattle.std.specs.Map.{lookup}
use mir.Syntax.{w128}
use Rattle.lru.proofs.CallerLemmas.{Contains-lookup}
use Rattle.nearest_window.proofs.Pixels.{same_pixel, pixel_is}
use Rattle.nearest_window.proofs.recalled.Recalled.find.Goals as goal

pub returns-in-Some : goal.returns-in-Some
returns-in-Some c =
    let at : lookup (same_pixel c.args.key) c.self.inside.cache.entries ≡ Some c.in-Some.sample.now = search (rules, c.peek.ensures) in
    let there = Contains-lookup (same_pixel c.args.key) c.self.inside.cache.entries c.in-Some.sample.now at in
    let same = pixel_is c.args.key there.0 there.2 in
    let range : to_z w128 (of_z w128 c.in-Some.sample.now) ≡ c.in-Some.sample.now = search rules in
    record {
      found = subst (λ s. Contains c.args.self.now (c.args.key, s)) (sym range)
          (subst (λ k. Contains c.args.self.now (k, c.in-Some.sample.now)) (sym same) (subst (λ es. Contains es (there.0, c.in-Some.sample.now)) c.self.view_is there.1));
    }
