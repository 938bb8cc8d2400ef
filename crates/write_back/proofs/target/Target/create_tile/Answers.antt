use Rattle.std.proofs.Common.{◌*◌, replicate, ap, sym, subst, refl, ◌∙◌}
use Rattle.std.proofs.lemmas.List.{length-replicate}
use Rattle.block_cache.specs.Entries.{IsPool}
use Rattle.write_back.specs.declared.forms.Writer.TheVariants.{Hgt}
use Rattle.write_back.proofs.Known.{known_new}
use Rattle.write_back.proofs.Made.{made, shows, tile_zero}
use Rattle.write_back.proofs.Sheets.{told_by}
use Rattle.write_back.proofs.Zeros.{zeros_small}
use Rattle.write_back.proofs.target.Target.create_tile.Goals as goal

pub returns-clause-made : goal.returns-clause-made
returns-clause-made g c =
    let valid : IsPool c.in_ok-pool.pool = subst IsPool c.pool.view_is c.pool.invariant in
    let d = c.in_ok-draft.ensures in
    record {
      name = d.name;
      pool = c.in_ok-pool.ensures.empty;
      lines = refl;
      fault = refl;
      target = made (Hgt c.args.side) _ _ c.in_ok-pool.pool c.args.capacity _ _ _ _ (replicate (2 * (c.args.side * c.args.side)) 0) (ap Hgt c.in_ok-writer.ensures.side) valid c.in_ok-pool.ensures.empty
          c.requires.side d.len (length-replicate (2 * (c.args.side * c.args.side)) 0) (zeros_small (2 * (c.args.side * c.args.side)))
          (λ m e. known_new (Hgt c.args.side) _ _ _ (replicate (2 * (c.args.side * c.args.side)) 0) (ap Hgt c.in_ok-writer.ensures.side) (d.zeros m (sym d.names ∙ e)) (tile_zero c.args.side)) refl;
      zeros = λ some. (
          let m = told_by (g.F.Folder.names c.args.folder.now) some in
          shows (Hgt c.args.side) _ c.in_ok-pool.pool c.args.capacity _ (replicate (2 * (c.args.side * c.args.side)) 0) (ap Hgt c.in_ok-writer.ensures.side) c.in_ok-pool.ensures.empty
          (known_new (Hgt c.args.side) _ _ _ (replicate (2 * (c.args.side * c.args.side)) 0) (ap Hgt c.in_ok-writer.ensures.side) (d.zeros m.0 m.1) (tile_zero c.args.side)) (tile_zero c.args.side)
          );
    }
