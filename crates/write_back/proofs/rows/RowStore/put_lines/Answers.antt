use Rattle.std.proofs.Common.{◌≡◌, ◌+◌, ◌-◌, ◌*◌, ◌≤◌, ◌++◌, arith, refl, ap, sym, subst, ◌∙◌, length, take, drop, append-nil, true, ℕ, ℤ, List}
use Rattle.std.proofs.lemmas.List.{length-take-le, length-drop}
use Rattle.outside.specs.Outside.{Appended}
use Rattle.ascii_grid.specs.Text.{row_text}
use Rattle.ascii_grid.specs.Values.{is_value}
use Rattle.write_back.specs.Grids.{HasRows}
use Rattle.write_back.specs.Spots.{cut_rows}
use Rattle.write_back.proofs.GridRows.{row_more, rows_snoc, slice_all}
use Rattle.write_back.proofs.States.{row_fits}
use Rattle.write_back.proofs.rows.RowStore.put_lines.Goals as goal

pub loop-row-init : goal.loop-row-init
loop-row-init g c = record {
  form = refl;
  lines = omega arith;
  told = λ rows has. subst (λ l. HasRows c.args.self.now.form c.args.self.now.lines (g.F.Folder.draft_bytes c.args.self.now.draft) l) (sym (append-nil rows)) has;
  name = refl;
  names = refl;
  reads = refl;
  calls = refl;
  counted = omega arith;
  few = omega arith;
  later = omega arith;
}

pub loop-row-preserved : goal.loop-row-preserved
loop-row-preserved g c =
    let so_far = c.loop-row.invariant in
    let o = c.in_ok-put_row.ensures in
    let xs = c.args.samples.now in
    let w = c.args.rect.w in
    let fits = row_fits c.loop-row.row c.args.rect.w c.args.rect.h c.loop-row-test.true in
    let line : take (c.loop-row.row * c.args.rect.w + c.args.rect.w - c.loop-row.row * c.args.rect.w) (drop (c.loop-row.row * c.args.rect.w) c.args.samples.now) ≡ take c.args.rect.w (drop (c.loop-row.row * c.args.rect.w) c.args.samples.now) = ap (λ k. take k (drop (c.loop-row.row * c.args.rect.w) c.args.samples.now)) (omega arith) in
    let len : length (take c.args.rect.w (drop (c.loop-row.row * c.args.rect.w) c.args.samples.now)) ≡ c.args.rect.w = length-take-le c.args.rect.w (drop (c.loop-row.row * c.args.rect.w) c.args.samples.now) (omega (arith, length-drop (c.loop-row.row * c.args.rect.w) c.args.samples.now, c.requires.size, fits)) in
    record {
      form = o.form ∙ so_far.form;
      lines = omega (arith, o.lines, so_far.lines);
      told = λ rows has.
          subst (λ l. HasRows c.args.self.now.form c.put_row.new.self.lines (g.F.Folder.draft_bytes c.put_row.new.self.draft) l) (sym (rows_snoc c.args.rect.w c.loop-row.row c.args.samples.now rows))
          (row_more c.args.self.now.form c.loop-row.self.lines c.put_row.new.self.lines _ _ (rows ++ cut_rows c.args.rect.w c.loop-row.row c.args.samples.now) (take c.args.rect.w (drop (c.loop-row.row * c.args.rect.w) c.args.samples.now)) (so_far.told rows has) o.lines (len ∙ c.requires.across)
          (slice_all (λ v. is_value v ≡ true) c.args.samples.now (c.loop-row.row * c.args.rect.w) c.args.rect.w c.requires.range (omega (arith, fits, c.requires.size)))
          (subst (λ l. Appended (row_text l) (g.F.Folder.draft_bytes c.loop-row.self.draft) (g.F.Folder.draft_bytes c.put_row.new.self.draft)) line o.told));
      name = o.name ∙ so_far.name;
      names = o.names ∙ so_far.names;
      reads = o.reads ∙ so_far.reads;
      calls = o.calls ∙ so_far.calls;
      counted = omega (arith, o.one, so_far.counted);
      few = omega (arith, o.one, so_far.few);
      later = omega (arith, o.cause.later, so_far.later);
    }

pub returns-clause-told : goal.returns-clause-told
returns-clause-told g c =
    let all : c.loop-row.row ≡ c.args.rect.h = omega (arith, c.loop-row-test.false, c.loop-row.auto.row-end) in
    λ rows has. subst (λ n. HasRows c.args.self.now.form c.loop-row.self.lines (g.F.Folder.draft_bytes c.loop-row.self.draft) (rows ++ cut_rows c.args.rect.w n c.args.samples.now)) all (c.loop-row.invariant.told rows has)
