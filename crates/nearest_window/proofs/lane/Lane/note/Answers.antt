use Rattle.std.proofs.Common.{rules, ◌≡◌, ◌⊎◌, ◌∙◌, inl, inr, subst, pos, Contains, to_z, of_z}
use mir.Syntax.{w128}
use Rattle.std.specs.Prelude.{slice_index_or}
use Rattle.nearest_window.specs.BlockKeys.{first_pixel_of}
use Rattle.nearest_window.proofs.Alone.{are_recalled_put}
use Rattle.nearest_window.proofs.lane.Lane.note.Goals as goal

pub returns-clause-pixels : goal.returns-clause-pixels
returns-clause-pixels g c = λ told cat is right.
    let one = c.remembers.ensures.narrow in
    let one_line = c.remembers.ensures.low in
    let remembers = c.if-not-remembers.false in
    let narrow : c.args.rect.w ≡ 1 = search (rules, one, remembers) in
    let low : c.args.rect.h ≡ 1 = search (rules, one_line, remembers) in
    let same : to_z w128 (of_z w128 c.get.result) ≡ c.get.result = search rules in
    are_recalled_put told cat c.args.key c.args.rect c.args.block.now c.args.self.now.recalled c.put-put.new.self narrow low is
    (λ k v there.
    subst (λ lane. Contains lane.recalled (k, v) ⊎ ((k ≡ first_pixel_of c.args.key c.args.rect) × (v ≡ slice_index_or c.args.block.now.samples 0 (pos 0)))) c.self.view_is
    (elim (c.put-put.ensures.kept k v there) [
      | inl was ↦ inl was
      | inr put ↦ inr (put.0 ∙ c.first_pixel_of.ensures.pixel, put.1 ∙ same ∙ c.get.ensures.sample)
    ]))
    right
