use Rattle.std.proofs.Common.{rules, ◌≡◌, true, sym, subst, Contains, to_z, of_z}
use mir.Syntax.{w128}
use Rattle.geotransform.specs.Types.{is_in}
use Rattle.nearest_window.specs.BlockKeys.{first_pixel_of}
use Rattle.nearest_window.specs.Right.{IsRecalled}
use Rattle.nearest_window.proofs.Alone.{one_in, recalled_in, recalled_block}
use Rattle.nearest_window.proofs.lane.Lane.recall.Goals as goal

pub pack-requires-clause-range : goal.pack-requires-clause-range
pack-requires-clause-range g c =
    let d = c.requires.key.0 in
    let at = c.requires.key.1.at in
    let same : to_z w128 (of_z w128 c.in_ok-sample.sample) ≡ c.in_ok-sample.sample = search rules in
    let there : Contains c.args.self.now.recalled (first_pixel_of c.args.key c.args.rect, c.in_ok-sample.sample) =
    subst (λ k. Contains c.args.self.now.recalled (k, c.in_ok-sample.sample)) c.first_pixel_of.ensures.pixel (subst (λ lane. Contains lane.recalled (c.first_pixel_of.result, c.in_ok-sample.sample)) c.self.view_is c.in_ok-sample.ensures.found) in
    one_in c.band_type_of.result (to_z w128 (of_z w128 c.in_ok-sample.sample)) (subst (λ v. is_in c.band_type_of.result v ≡ true) (sym same)
    (recalled_in c.requires.recalled.0 c.args.cat.now (first_pixel_of c.args.key c.args.rect) d c.band_type_of.result c.in_ok-sample.sample at (c.band_type_of.ensures.kind d at) (c.requires.recalled.1 (first_pixel_of c.args.key c.args.rect) c.in_ok-sample.sample there)))

pub returns-in-Ok : goal.returns-in-Ok
returns-in-Ok g c =
    let d = c.requires.key.0 in
    let at = c.requires.key.1.at in
    let one = c.remembers.ensures.narrow in
    let one_line = c.remembers.ensures.low in
    let remembers = c.if-not-remembers.false in
    let narrow : c.args.rect.w ≡ 1 = search (rules, one, remembers) in
    let low : c.args.rect.h ≡ 1 = search (rules, one_line, remembers) in
    let same : to_z w128 (of_z w128 c.in_ok-sample.sample) ≡ c.in_ok-sample.sample = search rules in
    let there : Contains c.args.self.now.recalled (first_pixel_of c.args.key c.args.rect, c.in_ok-sample.sample) =
    subst (λ k. Contains c.args.self.now.recalled (k, c.in_ok-sample.sample)) c.first_pixel_of.ensures.pixel (subst (λ lane. Contains lane.recalled (c.first_pixel_of.result, c.in_ok-sample.sample)) c.self.view_is c.in_ok-sample.ensures.found) in
    record {
      block = λ told right.
          recalled_block told c.args.cat.now c.args.key d c.args.rect c.band_type_of.result (to_z w128 (of_z w128 c.in_ok-sample.sample)) c.in-Ok.block c.requires.key.1 narrow low (c.band_type_of.ensures.kind d at)
          (subst (λ v. IsRecalled told c.args.cat.now (first_pixel_of c.args.key c.args.rect) v) (sym same) (right (first_pixel_of c.args.key c.args.rect) c.in_ok-sample.sample there)) c.in-Ok.ensures.samples;
    }
