use Rattle.std.proofs.Common.{◌≡◌, [], Some, ap, sym, refl, ◌∙◌}
use Rattle.ascii_grid.specs.Text.{head_text}
use Rattle.block_cache.specs.Entries.{pool_view}
use Rattle.write_back.specs.Grids.{front_of}
use Rattle.write_back.proofs.Made.{grid_made, grid_shows}
use Rattle.write_back.proofs.Sheets.{told_by}
use Rattle.write_back.proofs.target.Target.create_grid.Goals as goal

pub returns-clause-made : goal.returns-clause-made
returns-clause-made g c = λ capacity.
    let f = c.args.form.now in
    let d = c.in_ok-draft.ensures in
    let held = rw c.new-text.ensures.items at c.in_ok-write_head.ensures.ok in
    let front : c.deref.result.now ≡ front_of f = c.deref.ensures.value ∙ held ∙ ap (λ geo. head_text f.size geo f.nodata) c.as_ref.ensures.value in
    record {
      name = d.name;
      pool = refl;
      lines = refl;
      fault = refl;
      target = grid_made f _ _ _ _ _ c.requires.size (λ m e. d.text m (sym d.names ∙ e) ∙ ap (λ l. Some l) front);
      zeros = λ some. (
          let m = told_by (g.F.Folder.names c.args.folder.now) some in
          grid_shows f (pool_view [] 0) _ (d.text m.0 m.1 ∙ ap (λ l. Some l) front)
          );
    }
