use Rattle.std.proofs.Common.{◌≡◌, ◌∙◌, ap, sym}
use Rattle.std.proofs.lemmas.List.{map-id}
use Rattle.hgt_tiles.specs.Samples.{row_bytes}
use Rattle.band_blocks.proofs.packed.Packed+i16.encode_items.Goals as goal

pub returns : goal.returns
returns c =
    let same : c.deref.result.now ≡ c.args.self.now = c.deref.ensures.value ∙ sym (map-id c.self.inside.cells.items) ∙ c.self.view_is in
    record { bytes = c.encode_items.ensures.bytes ∙ ap row_bytes same }
