use Rattle.std.proofs.Common.{rules, ◌≡◌, ◌∙◌, Some, None, ap, sym, refl, to_z, of_z}
use Rattle.std.specs.Prelude.{slice_get}
use Rattle.std.proofs.lemmas.Option.{slice_get_read, slice_get_past}
use mir.Syntax.{w128}
use Rattle.strip_copies.specs.Rows.{made_found, nearest}
use Rattle.strip_copies.proofs.rows.made_at.Goals as goal

pub returns-in-Some : goal.returns-in-Some
returns-in-Some c =
    let whole : to_z w128 (of_z w128 c.hold.result) ≡ c.hold.result = search rules in
    let same : to_z w128 (of_z w128 c.in-Some.sample.now) ≡ c.in-Some.sample.now = search rules in
    let h = c.in-Some.ensures.lookup in
    let found : slice_get c.args.line.now c.args.place ≡ Some c.in-Some.sample.now = slice_get_read c.args.line.now _ c.args.place c.in-Some.sample.now refl h.3.0 h.1 in
    record { sample = whole ∙ c.hold.ensures.nearest ∙ ap (nearest c.args.holding.least c.args.holding.most) same ∙ ap (made_found c.args.holding) (sym found) }

pub returns-in-None : goal.returns-in-None
returns-in-None c =
    let whole : to_z w128 (of_z w128 c.args.holding.fill) ≡ c.args.holding.fill = search rules in
    let h = c.in-None.ensures.lookup in
    let found : slice_get c.args.line.now c.args.place ≡ None = slice_get_past c.args.line.now c.args.place h.3 in
    record { sample = whole ∙ ap (made_found c.args.holding) (sym found) }
