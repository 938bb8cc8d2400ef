use Rattle.std.proofs.Common.{◌≡◌, ◌∙◌, ap, ℕ, ◌+◌, Some, arith}
use Rattle.std.specs.Prelude.{flat_map}
use Rattle.std.specs.List.{range_with_len}
use Rattle.error_lines.specs.Steps.{applied}
use Rattle.synthetic_rasters.specs.Tiles.{tile_files, tiles_files}
use Rattle.synthetic_rasters.proofs.Lines.{pieces_more}
use Rattle.synthetic_files.proofs.Parts.{err_is, among_all, one_more}
use Rattle.synthetic_files.proofs.publishing.publish_all.Goals as goal

pub returns-in_err-publish_tile-clause-told : goal.returns-in_err-publish_tile-clause-told
unfolding tiles_files
returns-in_err-publish_tile-clause-told g c = λ m told.
    let f = c.in_err-publish_tile.field-0.0 in
    among_all (tile_files c.args.side) c.loop-tile.tile m c.from_residual.result f (g.F.Folder.names c.loop-tile.folder) (g.F.Folder.names c.publish_tile.new.folder)
    (omega arith) (err_is c.from_residual.result f c.from_residual.ensures) (c.loop-tile.invariant.told m told) (λ k is. c.in_err-publish_tile.ensures.told k is)

pub loop-tile-preserved : goal.loop-tile-preserved
loop-tile-preserved g c = record {
  told = λ m told. one_more (tile_files c.args.side) (flat_map (tile_files c.args.side) (range_with_len 0 (c.loop-tile.tile + 1))) c.loop-tile.tile m (g.F.Folder.names c.loop-tile.folder) (g.F.Folder.names c.publish_tile.new.folder)
      (pieces_more (tile_files c.args.side) c.loop-tile.tile) (c.loop-tile.invariant.told m told) (λ k is. c.in_ok-publish_tile.ensures.told k is);
  side = c.in_ok-publish_tile.ensures.side;
  writes = c.in_ok-publish_tile.ensures.writes ∙ c.loop-tile.invariant.writes;
  later = omega (arith, c.in_ok-publish_tile.ensures.cause.later, c.loop-tile.invariant.later);
}

pub returns-clause-told : goal.returns-clause-told
unfolding tiles_files
returns-clause-told g c = λ m told.
    let all : c.loop-tile.tile ≡ 4 = omega arith in
    c.loop-tile.invariant.told m told ∙ ap (λ (t : ℕ). Some (applied (flat_map (tile_files c.args.side) (range_with_len 0 t)) m)) all
