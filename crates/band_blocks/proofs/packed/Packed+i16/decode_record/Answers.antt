use Rattle.std.proofs.Common.{◌∙◌, ap, sym, ℤ, List, length, map, arith}
use Rattle.std.specs.List.{range_with_len}
use Rattle.std.proofs.lemmas.List.{map-id}
use Rattle.std.proofs.lemmas.List.FromFn.{length-map-range_with_len}
use Rattle.geotransform.specs.declared.types.PixelType.TheVariants.{Int16}
use Rattle.dted_records.specs.Records.{elevation_in}
use Rattle.dted_records.proofs.Columns.{column_stands}
use Rattle.band_blocks.proofs.Cells.{shown_packed, shown_list}
use Rattle.band_blocks.proofs.packed.Packed+i16.decode_record.Goals as goal

pub invariant_of-self : goal.invariant_of-self
invariant_of-self c =
    let len = c.self.inside.cells.ok in
    let same = c.decode_elevations.auto.cells in
    let all = c.deref_mut.ensures.len in
    shown_packed (λ (n : ℤ). n) Int16 c.self.inside.cells.items c.decode_elevations.new.cells c.self.inside.cells.len c.decode_elevations.new.cells c.self.invariant (omega arith) (omega arith) c.decode_elevations.ensures.range (map-id c.decode_elevations.new.cells)

pub returns : goal.returns
returns c =
    let len = c.self.inside.cells.ok in
    let same = c.decode_elevations.auto.cells in
    let all = c.deref_mut.ensures.len in
    let samples : List ℤ = map (elevation_in c.args.head.now c.args.bytes.now) (range_with_len 0 c.args.head.now.points) in
    let is = shown_list (λ (n : ℤ). n) c.args.self.now c.self.inside.cells.items c.decode_elevations.new.cells c.self.inside.cells.len (λ _. samples) (sym c.self.view_is) (omega arith) (omega arith) (map-id c.decode_elevations.new.cells ∙ c.decode_elevations.ensures.samples) in
    record {
      samples = is;
      count = ap length is ∙ length-map-range_with_len (elevation_in c.args.head.now c.args.bytes.now) 0 c.args.head.now.points;
      file = λ file x stands. is ∙ column_stands c.args.head.now file c.args.bytes.now x c.requires.len stands;
    }
