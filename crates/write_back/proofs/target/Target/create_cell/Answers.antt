use Rattle.std.proofs.Common.{◌≡◌, ◌-◌, ◌++◌, Some, List, ℕ, length, replicate, ap, sym, subst, refl, ◌∙◌, arith}
use Rattle.std.specs.Prelude.{vec_items}
use Rattle.block_cache.specs.Entries.{IsPool}
use Rattle.dted_records.specs.Places.{needed_of, record_of}
use Rattle.write_back.specs.Columns.{cell_with_front}
use Rattle.write_back.specs.Pieces.{AreBytes}
use Rattle.write_back.specs.declared.forms.Writer.TheVariants.{Dted}
use Rattle.write_back.proofs.Known.{known_new}
use Rattle.write_back.proofs.Made.{made, cell_zero, shows}
use Rattle.write_back.proofs.Sheets.{told_by}
use Rattle.write_back.proofs.Zeros.{new_cell, new_long}
use Rattle.write_back.proofs.target.Target.create_cell.Goals as goal

pub returns-in-Ok-clause-made : goal.returns-in-Ok-clause-made
returns-in-Ok-clause-made g c =
    let h = c.args.head.now in
    let front = vec_items c.args.front in
    let valid : IsPool c.in_ok-pool.pool = subst IsPool c.pool.view_is c.pool.invariant in
    let d = c.in_ok-draft.ensures in
    let len : length (vec_items c.args.front) ≡ record_of c.args.head.now 0 = omega (arith, ap length c.as_slice.ensures.value, c.as_slice.ensures.len, c.requires.front) in
    let small : AreBytes (vec_items c.args.front) = subst AreBytes c.as_slice.ensures.value d.small in
    let same = ap (λ (l : List ℕ). Some (l ++ replicate (c.needed_len.result - length l) 0)) c.as_slice.ensures.value ∙ ap (λ n. Some (vec_items c.args.front ++ replicate (n - length (vec_items c.args.front)) 0)) c.needed_len.ensures.value in
    record {
      name = d.name;
      pool = c.in_ok-pool.ensures.empty;
      lines = refl;
      fault = refl;
      target = made (Dted (cell_with_front h front)) _ _ c.in_ok-pool.pool c.args.capacity _ _ _ _ (front ++ replicate (needed_of h - length front) 0) (ap Dted c.in-Ok.ensures.cell) valid c.in_ok-pool.ensures.empty
          len (d.len ∙ c.needed_len.ensures.value) (new_long h front len small) (new_cell h front len small)
          (λ m e. known_new (Dted (cell_with_front h front)) _ _ _ (front ++ replicate (needed_of h - length front) 0) (ap Dted c.in-Ok.ensures.cell) (d.front m (sym d.names ∙ e) ∙ same) (cell_zero h front len small))
          refl;
      zeros = λ some. (
          let m = told_by (g.F.Folder.names c.args.folder.now) some in
          shows (Dted (cell_with_front h front)) _ c.in_ok-pool.pool c.args.capacity _ (front ++ replicate (needed_of h - length front) 0) (ap Dted c.in-Ok.ensures.cell) c.in_ok-pool.ensures.empty
          (known_new (Dted (cell_with_front h front)) _ _ _ (front ++ replicate (needed_of h - length front) 0) (ap Dted c.in-Ok.ensures.cell) (d.front m.0 m.1 ∙ same) (cell_zero h front len small))
          (cell_zero h front len small)
          );
    }
