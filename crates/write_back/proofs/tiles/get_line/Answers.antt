use Rattle.std.proofs.Common.{◌≡◌, ◌∙◌, ◌+◌, ◌*◌, ap, ap₂, sym, ℕ, take, drop, arith}
use Rattle.hgt_tiles.specs.Samples.{line_of}
use Rattle.lists_and_answers.specs.Places.{StandsAt}
use Rattle.write_back.proofs.tiles.get_line.Goals as goal

pub returns-clause-told : goal.returns-clause-told
returns-clause-told g c = λ b told long.
    let place : c.line_at.result ≡ 2 * (c.args.y * c.args.side + 0) = omega (arith, c.line_at.ensures.place) in
    let stands : StandsAt b c.draft_read.new.out (2 * (c.args.y * c.args.side + 0)) = c.in_ok-draft_read.ensures.ok b told ∙ ap₂ (λ (n p : ℕ). take n (drop p b)) (sym c.draft_read.auto.out) place in
    c.decode_items.ensures.file b c.args.side 0 c.args.y stands ∙ ap (line_of c.args.side b 0 c.args.y) c.requires.room
