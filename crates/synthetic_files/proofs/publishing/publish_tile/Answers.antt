use Rattle.std.proofs.Common.{◌≡◌, subst, [], ◌∷◌, List, ℕ, Err, Some}
use Rattle.outside.specs.Names.{header_of}
use Rattle.esri_hdr.specs.Text.{hdr_text}
use Rattle.error_lines.specs.declared.faults.Fault.TheVariants.{Memory}
use Rattle.error_lines.specs.Steps.{applied}
use Rattle.synthetic_rasters.specs.Names.{tile_name}
use Rattle.synthetic_rasters.specs.Tiles.{tile_data, tile_head, tile_files}
use Rattle.synthetic_files.specs.Publishing.{ArePublished}
use Rattle.synthetic_files.proofs.Parts.{err_is, none_is, then_is, stop_is}
use Rattle.synthetic_files.proofs.publishing.publish_tile.Goals as goal

pub returns-in_err-name-clause-told : goal.returns-in_err-name-clause-told
returns-in_err-name-clause-told g c = λ m told.
    none_is (tile_files c.args.side c.args.tile) m c.from_residual.result Memory _ (err_is c.from_residual.result Memory c.from_residual.ensures) told

pub returns-in_err-publish_data-clause-told : goal.returns-in_err-publish_data-clause-told
returns-in_err-publish_data-clause-told g c = λ m told.
    let t = c.args.tile in
    let f = c.in_err-publish_data.field-0.0 in
    stop_is ((tile_name t, tile_data c.args.side t) ∷ []) ((header_of (tile_name t), hdr_text (tile_head c.args.side t)) ∷ []) m c.from_residual-in_err-publish_data.result f (g.F.Folder.names c.publish_data.new.folder)
    (err_is c.from_residual-in_err-publish_data.result f c.from_residual-in_err-publish_data.ensures)
    (subst (λ (n : List ℕ). ArePublished ((n, tile_data c.args.side t) ∷ []) m (Err f) (g.F.Folder.names c.publish_data.new.folder)) c.in_ok-name.ensures.name (c.in_err-publish_data.ensures.told m told))

pub returns-clause-told : goal.returns-clause-told
returns-clause-told g c = λ m told.
    let t = c.args.tile in
    then_is ((tile_name t, tile_data c.args.side t) ∷ []) ((header_of (tile_name t), hdr_text (tile_head c.args.side t)) ∷ []) m c.publish_header.result
    (g.F.Folder.names c.publish_data.new.folder) (g.F.Folder.names c.publish_header.new.folder)
    (subst (λ (n : List ℕ). g.F.Folder.names c.publish_data.new.folder ≡ Some (applied ((n, tile_data c.args.side t) ∷ []) m)) c.in_ok-name.ensures.name (c.in_ok-publish_data.ensures.told m told))
    (λ k is. subst (λ (n : List ℕ). ArePublished ((header_of n, hdr_text (tile_head c.args.side t)) ∷ []) k c.publish_header.result (g.F.Folder.names c.publish_header.new.folder)) c.in_ok-name.ensures.name (c.publish_header.ensures.told k is))
