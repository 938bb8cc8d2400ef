use Rattle.std.proofs.Common.{sym, subst, get_or, List, ℕ, inr, take, ◌+◌}
use Rattle.std.proofs.lemmas.List.{take_more}
use Rattle.ascii_grid.specs.Scan.{fed}
use Rattle.ascii_grid.specs.Scanning.{Reaches}
use Rattle.ascii_grid.proofs.Runs.{rest_reaches}
use Rattle.ascii_grid.proofs.scanner.Scanner.add_part.Goals as goal

pub returns-in-Some-clause-state : goal.returns-in-Some-clause-state
returns-in-Some-clause-state c =
    let o = c.in-Some.ensures in
    let first : Reaches c.add_number.new.self (fed c.args.self.now (take (c.in-Some.n + 1) c.args.bytes.now)) =
    subst (λ (l : List ℕ). Reaches c.add_number.new.self (fed c.args.self.now l)) (sym (take_more c.args.bytes.now c.in-Some.n 0 o.within)) (c.add_number.ensures.state (get_or c.args.bytes.now c.in-Some.n 0) o.white) in
    rest_reaches c.args.self.now c.add_number.new.self c.add_rest.new.self c.args.bytes.now (c.in-Some.n + 1) c.add_rest.result first (inr c.add_rest.ensures.state)

pub returns-then-n-gt0-clause-state : goal.returns-then-n-gt0-clause-state
returns-then-n-gt0-clause-state c = inr c.add_white.ensures.state
