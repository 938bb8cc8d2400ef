use Rattle.std.proofs.Common.{◌≡◌, ◌∙◌, ap, rules, to_z, of_z, ◌++◌, ◌∷◌, []}
use mir.Syntax.{w32}
use Rattle.ascii_grid.specs.Row.{RowNow, Row, reading, row_fed}
use Rattle.ascii_grid.proofs.Runs.{row_whole}
use Rattle.ascii_grid.proofs.row.RowState.add_whole.Goals as goal

pub returns-clause-fed : goal.returns-clause-fed
returns-clause-fed c = λ w white.
    let i = c.self.inside in
    let e : to_z w32 (of_z w32 c.args.value) ≡ c.args.value = search rules in
    let old : Row = record { filled = i.filled; out = c.args.out.now } in
    let new : Row = record { filled = c.put_value-self-inside.result; out = c.put_value-self-inside.new.out } in
    row_whole c.args.token.now w i.held c.pass_token.new.self old new (ap (λ (s : RowNow). s.held.text) c.self.view_is ∙ c.requires.closed) c.requires.some c.requires.few c.requires.dark white c.pass_token.ensures (c.put_value-self-inside.ensures.row c.args.token.now (e ∙ c.requires.value))
    ∙ ap (λ (s : RowNow). row_fed (reading s c.args.out.now) (c.args.token.now ++ w ∷ [])) c.self.view_is
