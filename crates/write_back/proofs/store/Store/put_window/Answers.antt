use Rattle.std.proofs.Common.{◌≡◌, true, false, ap, ◌∙◌, sym, arith}
use Rattle.write_back.specs.declared.forms.Shape.{Shape}
use Rattle.write_back.specs.Forms.{cut_of}
use Rattle.write_back.specs.State.{lines_met}
use Rattle.write_back.proofs.MetColumns.{ok_any}
use Rattle.write_back.proofs.Runs.{on_ok}
use Rattle.write_back.proofs.States.{met_columns, met_rows, serves_more}
use Rattle.write_back.proofs.Woven.{columns_cut}
use Rattle.write_back.proofs.store.Store.put_window.Goals as goal

pub put_columns-requires-clause-band : goal.put_columns-requires-clause-band
put_columns-requires-clause-band g c κs within =
    let cut = columns_cut c.args.self.now.writer (sym (ap (λ (s : Shape). s.by_columns) c.shape-shape.ensures.shape) ∙ c.if-shape.true) in
    omega (arith, cut.bands, c.requires.band)

pub put_columns-requires-clause-across : goal.put_columns-requires-clause-across
put_columns-requires-clause-across g c κs within =
    let cut = columns_cut c.args.self.now.writer (sym (ap (λ (s : Shape). s.by_columns) c.shape-shape.ensures.shape) ∙ c.if-shape.true) in
    omega (arith, cut.blocks, c.requires.across)

pub put_columns-requires-clause-down : goal.put_columns-requires-clause-down
put_columns-requires-clause-down g c κs within =
    let cut = columns_cut c.args.self.now.writer (sym (ap (λ (s : Shape). s.by_columns) c.shape-shape.ensures.shape) ∙ c.if-shape.true) in
    omega (arith, cut.spots, c.requires.down)

pub returns-then-shape-clause-serves : goal.returns-then-shape-clause-serves
returns-then-shape-clause-serves g c =
    let w = c.args.self.now.writer in
    let columns : (cut_of w).by_columns ≡ true = sym (ap (λ (s : Shape). s.by_columns) c.shape-shape.ensures.shape) ∙ c.if-shape.true in
    serves_more w c.args.rect.w 0 (lines_met w c.args.rect) 0 _ _ (met_columns (cut_of w).by_columns c.args.rect columns c.requires.high) (omega arith) c.put_columns.ensures.serves

pub returns-then-shape-clause-met : goal.returns-then-shape-clause-met
returns-then-shape-clause-met g c = on_ok c.put_columns.result _ _ (λ met columns. met) c.put_columns.ensures.met

pub returns-else-shape-clause-serves : goal.returns-else-shape-clause-serves
returns-else-shape-clause-serves g c =
    let w = c.args.self.now.writer in
    let rows : (cut_of w).by_columns ≡ false = sym (ap (λ (s : Shape). s.by_columns) c.shape-shape.ensures.shape) ∙ c.if-shape.false in
    serves_more w c.args.rect.h 0 (lines_met w c.args.rect) 0 _ _ (met_rows (cut_of w).by_columns c.args.rect rows c.requires.wide) (omega arith) c.put_rows.ensures.serves

pub returns-else-shape-clause-met : goal.returns-else-shape-clause-met
returns-else-shape-clause-met g c =
    let rows : (cut_of c.args.self.now.writer).by_columns ≡ false = sym (ap (λ (s : Shape). s.by_columns) c.shape-shape.ensures.shape) ∙ c.if-shape.false in
    ok_any c.put_rows.result _ (λ columns. absurd (let clash : true ≡ false = sym columns ∙ rows in cc))
