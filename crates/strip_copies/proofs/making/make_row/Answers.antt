use Rattle.std.proofs.Common.{◌≡◌, ◌∙◌, ◌+◌, ◌-◌, pos, Some, get_or, subst, sym, ap, arith}
use Rattle.geotransform.specs.Pixels.{within}
use Rattle.catalog.specs.Pixels.{pixel_of_name}
use Rattle.translate_plan.specs.Plan.{shown_line}
use Rattle.strip_copies.specs.Rows.{made_of, strip_rect, IsSample, IsInSpan}
use Rattle.strip_copies.proofs.Strips.{strip_pixel}
use Rattle.strip_copies.proofs.Samples.{fill_sample, made_sample}
use Rattle.strip_copies.proofs.making.make_row.Goals as goal

pub returns-in-None : goal.returns-in-None
returns-in-None c = record {
  row = λ told name strip i less.
      let p = c.args.making.plan.now in
      let e : get_or c.fill_row.new.row i (pos 0) ≡ c.args.making.holding.fill = c.fill_row.ensures.samples i (omega (arith, c.requires.row)) in
      subst (IsSample told name p c.args.making.size c.args.making.band i c.args.line) (sym e)
      (fill_sample told name p c.args.making.size c.args.making.band i c.args.line c.args.making.holding c.requires.making.holding (sym c.in-None.ensures.place));
}

pub returns-in-Some : goal.returns-in-Some
returns-in-Some c = record {
  row = λ told name strip i less.
      let p = c.args.making.plan.now in
      let h = c.args.making.holding in
      let columns = c.args.making.columns.now in
      let y = c.in-Some.place in
      let place : within c.args.making.size.h (shown_line p c.args.line) ≡ Some y = sym c.in-Some.ensures.place in
      let here : IsInSpan c.args.span y = c.requires.lines.each c.args.line y (omega arith) (omega arith) place in
      let e : get_or c.map_row.new.row i (pos 0) ≡ made_of h c.line_in-pixels.result.now (get_or columns.places.items i 0) =
      c.map_row.ensures.samples i (omega (arith, less, c.requires.row)) ∙ ap (λ l. made_of h c.line_in-pixels.result.now (get_or l i 0)) c.as_slice.ensures.value in
      let down : c.args.span.top + (y - c.args.span.top) ≡ y = omega (arith, here.top) in
      subst (IsSample told name p c.args.making.size c.args.making.band i c.args.line) (sym e)
      (made_sample told name p c.args.making.size c.args.making.band i c.args.line y h c.requires.making.holding columns c.line_in-pixels.result.now c.requires.making.columns less c.line_in-pixels.ensures.size place
      (λ m at t inside.
      c.line_in-pixels.ensures.samples at inside
      ∙ strip_pixel told name p c.args.making.band (strip_rect columns c.args.span) c.args.strip.now m c.requires.making.holding.band at (y - c.args.span.top) strip t c.requires.making.holding.at inside (omega (arith, here.top, here.bottom))
      ∙ ap (pixel_of_name m name c.requires.making.holding.band.source (columns.first + at)) down));
}
