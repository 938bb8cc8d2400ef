use Rattle.std.proofs.Common.{◌≡◌, Ok, ◌∙◌, ap, sym, take, drop, ◌-◌, refl}
use Rattle.ascii_grid.specs.Scan.{State, passed_over}
use Rattle.ascii_grid.proofs.Runs.{closed_of}
use Rattle.ascii_grid.proofs.KeyValues.{pair_kept, pair_refused}
use Rattle.ascii_grid.proofs.scanner.Scanner.add_pair.Goals as goal
use Rattle.ascii_grid.proofs.scanner.Scanner.add_pair.Goals.{in-Ok, in-Err}

pub returns-in-Some-clause-state : goal.returns-in-Some-clause-state
returns-in-Some-clause-state c =
    let i = c.self.inside in
    let p = c.in-Some.pair in
    let e = c.in-Some.ensures in
    let shut = sym c.is_open.ensures ∙ c.if-is_open.false in
    let closed = λ (s : State) (is : c.args.self.now ≡ Ok s). closed_of i.fault i.held i.stage i.rows s shut (c.self.view_is ∙ is) in
    let none = sym c.is_some.ensures ∙ c.if-is_some.false in
    elim c.match-set_value.branch [
      | in-Ok w ↦
          w.self-is
          ∙ pair_kept c.args.bytes.now p.len p.from p.end e.named e.short e.behind e.some e.few e.within e.name e.white e.dark e.last
          i.fault i.held w.pass_token_at.new.self i.stage c.in-AtKey.found c.set_value.new.found p.key i.rows c.args.self.now c.place_behind-at.result (take (p.end - p.from) (drop p.from c.args.bytes.now)) none c.self.view_is c.in-AtKey.is closed e.head e.key c.place_behind-at.ensures refl w.in-Ok.ensures.ok
          (w.pass_token_at.ensures ∙ ap (λ p. passed_over p (c.in-Some.pair.end - c.in-Some.pair.from)) c.place_behind-at.ensures)
      | in-Err w ↦
          w.self-is
          ∙ pair_refused c.args.bytes.now p.len p.from p.end e.named e.short e.behind e.some e.few e.within e.name e.white e.dark e.last
          i.fault i.held i.stage c.in-AtKey.found p.key i.rows c.args.self.now c.place_behind-at.result (take (p.end - p.from) (drop p.from c.args.bytes.now)) w.in-Err.fault none c.self.view_is c.in-AtKey.is closed e.head e.key c.place_behind-at.ensures refl w.in-Err.ensures.err
    ]
