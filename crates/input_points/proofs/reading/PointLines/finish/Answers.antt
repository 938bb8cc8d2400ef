use Rattle.std.proofs.Common.{◌≡◌, ◌∙◌, ap, sym, ◌<◌, ◌≤◌, arith, length, ℕ, ⊎_elim}
use Rattle.std.specs.List.{list_all}
use Rattle.std.specs.Str.Lines.{lines}
use Rattle.std.proofs.lemmas.Bool.{eqb-true, eqb-false, cases_lt}
use Rattle.input_points.specs.Lines.{is_in_line}
use Rattle.input_points.specs.Points.{line_kind_of}
use Rattle.input_points.specs.Reading.{Reading}
use Rattle.input_points.proofs.PieceCalls.{over_nothing, no_end_comes, end_comes}
use Rattle.input_points.proofs.reading.PointLines.finish.Goals as goal

-- where bytes are kept, the line isn't one too many
room : (line kept : ℕ) → (16777216 < line → kept ≡ 0) → 0 < kept → line ≤ 16777216
room line kept h some = ⊎_elim (λ (past : 16777216 < line). absurd (omega (arith, h past))) (λ (few : line ≤ 16777216). few) (cases_lt 16777216 line)

pub returns-then-self : goal.returns-then-self
returns-then-self c = over_nothing lines c.args.self _ (ap (λ (r : Reading). r.over) (sym c.self.view_is) ∙ c.if-self.true)

pub returns-then-is_empty : goal.returns-then-is_empty
returns-then-is_empty c =
    let kept : c.args.self.held ≡ c.self.inside.bytes.items = ap (λ (r : Reading). r.held) (sym c.self.view_is) in
    no_end_comes c.args.self (ap length (kept ∙ sym c.as_slice-last.ensures.value) ∙ eqb-true (length c.as_slice-last.result.now) 0 (sym c.is_empty.ensures ∙ c.if-is_empty.true))

pub returns : goal.returns
returns c =
    let kept : c.args.self.held ≡ c.self.inside.bytes.items = ap (λ (r : Reading). r.held) (sym c.self.view_is) in
    let line : c.args.self.line ≡ c.self.inside.line = ap (λ (r : Reading). r.line) (sym c.self.view_is) in
    let len : length c.args.self.held ≡ length c.self.inside.bytes.items = ap length kept in
    let some : 0 < length c.self.inside.bytes.items = omega (arith, eqb-false (length c.as_slice-last.result.now) 0 (sym c.is_empty.ensures ∙ c.if-is_empty.false), ap length c.as_slice-last.ensures.value) in
    end_comes c.args.self c.line_kind_of-kind.result c.answer.result
    (ap (λ (r : Reading). r.over) (sym c.self.view_is) ∙ c.if-self.false)
    (omega (arith, line, room c.self.inside.line (length c.self.inside.bytes.items) c.self.invariant.1 some))
    (ap (list_all is_in_line) kept ∙ c.self.invariant.4)
    (omega (arith, len, some))
    (c.line_kind_of-kind.ensures ∙ ap line_kind_of (c.as_slice-last.ensures.value ∙ sym kept))
    c.answer.ensures.entry
