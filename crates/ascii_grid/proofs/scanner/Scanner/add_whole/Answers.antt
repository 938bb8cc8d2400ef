use Rattle.std.proofs.Common.{◌∙◌, sym, ◌++◌, ◌∷◌, []}
use Rattle.ascii_grid.proofs.Runs.{fault_fed, whole_ok, whole_err}
use Rattle.ascii_grid.proofs.scanner.Scanner.add_whole.Goals as goal

pub returns-then-is_some-clause-state : goal.returns-then-is_some-clause-state
returns-then-is_some-clause-state c = λ w white.
    let i = c.self.inside in
    fault_fed i.fault i.held i.stage i.rows c.args.self.now (c.args.token.now ++ w ∷ []) (sym c.is_some.ensures ∙ c.if-is_some.true) c.self.view_is

pub returns-in-Ok-clause-state : goal.returns-in-Ok-clause-state
returns-in-Ok-clause-state c = λ w white.
    let i = c.self.inside in
    whole_ok c.args.token.now w c.requires.some c.requires.few c.requires.dark white i.fault i.held c.pass_token.new.self i.stage c.add_token.new.stage i.rows c.add_token.new.rows c.args.self.now c.in-Ok.field-0 c.place-at.result (sym c.is_some.ensures ∙ c.if-is_some.false) c.self.view_is c.requires.closed c.place-at.ensures c.pass_token.ensures c.in-Ok.ensures.read

pub returns-in-Err-clause-state : goal.returns-in-Err-clause-state
returns-in-Err-clause-state c = λ w white.
    let i = c.self.inside in
    whole_err c.args.token.now w c.requires.some c.requires.few c.requires.dark white i.fault i.held i.stage c.add_token.new.stage i.rows c.add_token.new.rows c.args.self.now c.in-Err.fault c.place-at.result (sym c.is_some.ensures ∙ c.if-is_some.false) c.self.view_is c.requires.closed c.place-at.ensures c.in-Err.ensures.read
