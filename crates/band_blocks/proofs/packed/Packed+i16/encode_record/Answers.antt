use Rattle.std.proofs.Common.{◌≡◌, ◌∙◌, ap, sym, subst}
use Rattle.std.specs.List.{All}
use Rattle.std.proofs.lemmas.List.{map-id}
use Rattle.dted_records.specs.Written.{IsElevation, record_bytes}
use Rattle.band_blocks.proofs.packed.Packed+i16.encode_record.Goals as goal

pub encode_record-requires-clause-range : goal.encode_record-requires-clause-range
encode_record-requires-clause-range c =
    let same : c.deref.result.now ≡ c.args.self.now = c.deref.ensures.value ∙ sym (map-id c.self.inside.cells.items) ∙ c.self.view_is in
    subst (All IsElevation) (sym same) c.requires.range

pub returns : goal.returns
returns c =
    let same : c.deref.result.now ≡ c.args.self.now = c.deref.ensures.value ∙ sym (map-id c.self.inside.cells.items) ∙ c.self.view_is in
    record { bytes = c.encode_record.ensures.bytes ∙ ap (record_bytes c.args.line) same }
