use Rattle.std.proofs.Common.{◌∙◌, ap}
use Rattle.ascii_grid.specs.Row.{RowNow, Row, reading, row_fed}
use Rattle.ascii_grid.proofs.Whites.{row_white_added}
use Rattle.ascii_grid.proofs.row.RowState.add_white.Goals as goal

pub returns-clause-fed : goal.returns-clause-fed
returns-clause-fed c = λ out.
    let i = c.self.inside in
    let row : Row = record { filled = i.filled; out = out } in
    row_white_added c.args.white.now i.held c.pass_white.new.self row (ap (λ (s : RowNow). s.held.text) c.self.view_is ∙ c.requires.closed) c.requires.some c.requires.white c.pass_white.ensures
    ∙ ap (λ (s : RowNow). row_fed (reading s out) c.args.white.now) c.self.view_is
