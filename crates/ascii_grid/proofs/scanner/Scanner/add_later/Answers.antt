use Rattle.std.proofs.Common.{◌≡◌, ◌∙◌, Ok, sym, take}
use Rattle.ascii_grid.specs.Scan.{State}
use Rattle.ascii_grid.proofs.Later.{later_kept}
use Rattle.ascii_grid.proofs.Runs.{closed_of}
use Rattle.ascii_grid.proofs.scanner.Scanner.add_later.Goals as goal

pub returns-then-count_later-clause-state : goal.returns-then-count_later-clause-state
returns-then-count_later-clause-state c =
    let i = c.self.inside in
    let e = c.in-Some.ensures in
    let len = c.in-Some.len in
    let shut = sym c.is_open.ensures ∙ c.if-is_open.false in
    let closed = λ (s : State) (is : c.args.self.now ≡ Ok s). closed_of i.fault i.held i.stage i.rows s shut (c.self.view_is ∙ is) in
    let none = sym c.is_some.ensures ∙ c.if-is_some.false in
    let read = c.count_later.ensures.read c.if-count_later.true i.rows i.held.at (take len c.args.bytes.now) e.has in
    later_kept c.args.bytes.now len e.some e.few e.within e.dark e.white
    i.fault i.held c.pass_token.new.self i.stage _ _ i.rows c.args.self.now none c.self.view_is c.in-InBody.is closed read c.pass_token.ensures
