use Rattle.std.proofs.Common.{◌≡◌, ◌∙◌, ap, refl, subst, sym, rules, to_z, of_z, ℕ, ℤ, List}
use mir.Syntax.{w128}
use Rattle.outside.specs.Streams.{Gets, GetsPart}
use Rattle.gdal_cli.specs.Location.{told_text, point_text}
use Rattle.gdal_cli.specs.Untold.{TellsPlace}
use Rattle.gdal_cli.proofs.Ended.{err_is, fails_before, unput}
use Rattle.gdal_cli.proofs.Lines.{not_changed}
use Rattle.gdal_cli.proofs.points.put_point.Goals as goal

pub returns-in_err-make_text-clause-told : goal.returns-in_err-make_text-clause-told
returns-in_err-make_text-clause-told g c m told d at =
    let f = c.in_err-make_text.field-0.0 in
    fails_before c.from_residual.result f (point_text m c.args.question.now.cat d c.args.question.now.asked c.args.x c.args.y) (g.O.Sink.got c.args.out.now) (err_is c.from_residual.result f c.from_residual.ensures) (c.in_err-make_text.ensures.never m told)

pub returns-in_err-make_text-clause-never : goal.returns-in_err-make_text-clause-never
returns-in_err-make_text-clause-never g c m told name was now is =
    let f = c.in_err-make_text.field-0.0 in
    not_changed f name was now (c.in_err-make_text.ensures.never m told) (sym (err_is c.from_residual.result f c.from_residual.ensures) ∙ is)

pub returns-in-Ok-clause-told : goal.returns-in-Ok-clause-told
unfolding point_text
returns-in-Ok-clause-told g c m told d at =
    let column : to_z w128 (of_z w128 c.column_and_line-column.result.0) ≡ c.column_and_line-column.result.0 = search rules in
    let line : to_z w128 (of_z w128 c.column_and_line-column.result.1) ≡ c.column_and_line-column.result.1 = search rules in
    let place : (to_z w128 (of_z w128 c.column_and_line-column.result.0), to_z w128 (of_z w128 c.column_and_line-column.result.1)) ≡ c.column_and_line-column.result = ap (λ (k : ℤ). (k, to_z w128 (of_z w128 c.column_and_line-column.result.1))) column ∙ ap (λ (k : ℤ). (c.column_and_line-column.result.0, k)) line in
    let text : c.deref.result.now ≡ point_text m c.args.question.now.cat d c.args.question.now.asked c.args.x c.args.y = c.deref.ensures.value ∙ c.in_ok-make_text.ensures.text m told d at ∙ ap (told_text m c.args.question.now.cat d c.args.question.now.asked) (place ∙ c.column_and_line-column.ensures.place) in
    subst (λ (t : List ℕ). Gets t (g.O.Sink.got c.args.out.now) (g.O.Sink.got c.put.new.self)) text c.in-Ok.ensures.ok

pub returns-in-Err-clause-told : goal.returns-in-Err-clause-told
unfolding point_text
returns-in-Err-clause-told g c m told d at =
    let column : to_z w128 (of_z w128 c.column_and_line-column.result.0) ≡ c.column_and_line-column.result.0 = search rules in
    let line : to_z w128 (of_z w128 c.column_and_line-column.result.1) ≡ c.column_and_line-column.result.1 = search rules in
    let place : (to_z w128 (of_z w128 c.column_and_line-column.result.0), to_z w128 (of_z w128 c.column_and_line-column.result.1)) ≡ c.column_and_line-column.result = ap (λ (k : ℤ). (k, to_z w128 (of_z w128 c.column_and_line-column.result.1))) column ∙ ap (λ (k : ℤ). (c.column_and_line-column.result.0, k)) line in
    let text : c.deref.result.now ≡ point_text m c.args.question.now.cat d c.args.question.now.asked c.args.x c.args.y = c.deref.ensures.value ∙ c.in_ok-make_text.ensures.text m told d at ∙ ap (told_text m c.args.question.now.cat d c.args.question.now.asked) (place ∙ c.column_and_line-column.ensures.place) in
    (tt, subst (λ (t : List ℕ). GetsPart t (g.O.Sink.got c.args.out.now) (g.O.Sink.got c.put.new.self)) text c.in-Err.ensures.err)

pub returns-in-Ok-clause-place : goal.returns-in-Ok-clause-place
returns-in-Ok-clause-place g c =
    let question = c.args.question.now in
    let column : to_z w128 (of_z w128 c.column_and_line-column.result.0) ≡ c.column_and_line-column.result.0 = search rules in
    let line : to_z w128 (of_z w128 c.column_and_line-column.result.1) ≡ c.column_and_line-column.result.1 = search rules in
    let place : (to_z w128 (of_z w128 c.column_and_line-column.result.0), to_z w128 (of_z w128 c.column_and_line-column.result.1)) ≡ c.column_and_line-column.result = ap (λ (k : ℤ). (k, to_z w128 (of_z w128 c.column_and_line-column.result.1))) column ∙ ap (λ (k : ℤ). (c.column_and_line-column.result.0, k)) line in
    record {
      text = c.deref.result.now;
      tells = subst (λ (p : ℤ × ℤ). TellsPlace question.cat question.id question.asked p c.deref.result.now) (place ∙ c.column_and_line-column.ensures.place)
          (subst (λ (t : List ℕ). TellsPlace question.cat question.id question.asked (to_z w128 (of_z w128 c.column_and_line-column.result.0), to_z w128 (of_z w128 c.column_and_line-column.result.1)) t) (sym c.deref.ensures.value) c.in_ok-make_text.ensures.place);
      put = c.in-Ok.ensures.ok;
    }

pub returns-in_err-make_text-clause-unput : goal.returns-in_err-make_text-clause-unput
returns-in_err-make_text-clause-unput g c = unput c.from_residual.result c.args.out.now

pub returns-in-Err-clause-unput : goal.returns-in-Err-clause-unput
returns-in-Err-clause-unput g c = λ other. absurd (other refl)
