use Rattle.std.proofs.Common.{◌≡◌, ◌∙◌, ap, sym, ℤ, length, map, arith}
use Rattle.std.proofs.lemmas.List.{map-id}
use Rattle.std.proofs.lemmas.List.FromFn.{length-map-range_with_len}
use Rattle.geotransform.specs.declared.types.PixelType.TheVariants.{Int16}
use Rattle.hgt_tiles.specs.Samples.{item_at, row_of}
use Rattle.hgt_tiles.proofs.Rows.{row_stands}
use Rattle.band_blocks.proofs.Cells.{shown_packed, shown_list}
use Rattle.band_blocks.proofs.packed.Packed+i16.decode_items.Goals as goal

pub invariant_of-self : goal.invariant_of-self
invariant_of-self c =
    let len = c.self.inside.cells.ok in
    let same = c.decode_items.auto.cells in
    let all = c.deref_mut.ensures.len in
    shown_packed (λ (n : ℤ). n) Int16 c.self.inside.cells.items c.decode_items.new.cells c.self.inside.cells.len c.decode_items.new.cells c.self.invariant (omega arith) (omega arith) c.decode_items.ensures.range (map-id c.decode_items.new.cells)

pub returns : goal.returns
returns c =
    let len = c.self.inside.cells.ok in
    let same = c.decode_items.auto.cells in
    let all = c.deref_mut.ensures.len in
    let shown : c.args.self.now ≡ map (λ (n : ℤ). n) c.self.inside.cells.items = sym c.self.view_is in
    let n : length c.deref_mut.result.now ≡ length c.args.self.now = ap length (c.deref_mut.ensures.value ∙ sym (map-id c.self.inside.cells.items)) ∙ sym (ap length shown) in
    let shows : c.decode_items.new.cells ≡ row_of c.args.bytes.now (length c.args.self.now) = c.decode_items.ensures.samples ∙ ap (row_of c.args.bytes.now) n in
    let is = shown_list (λ (n : ℤ). n) c.args.self.now c.self.inside.cells.items c.decode_items.new.cells c.self.inside.cells.len (λ l. row_of c.args.bytes.now (length l)) shown (omega arith) (omega arith) (map-id c.decode_items.new.cells ∙ shows ∙ ap (λ l. row_of c.args.bytes.now (length l)) shown) in
    record {
      samples = is;
      count = ap length is ∙ length-map-range_with_len (item_at c.args.bytes.now) 0 (length c.args.self.now);
      file = λ file side x y stands. is ∙ row_stands file c.args.bytes.now side x y (length c.args.self.now) c.requires.two stands;
    }
