use Rattle.std.proofs.Common.{◌≡◌, arith, rules, refl, ap, ◌∙◌, pos, length, get_or}
use Rattle.std.specs.Int.{w16}
use mir.Val.{SFits}
use Rattle.std.proofs.lemmas.Int.{to_z-of_z}
use Rattle.hgt_tiles.specs.Samples.{sample_bytes, row_bytes}
use Rattle.hgt_tiles.proofs.Rows.{bytes_more, bytes_all, sample_bytes_len}
use Rattle.band_blocks.proofs.int16.encode_items.Goals as goal

pub loop-i-preserved : goal.loop-i-preserved
loop-i-preserved c =
    let fits : SFits w16 (get_or c.args.cells.now c.loop-i.i (pos 0)) = search rules in
    let is_ys : c.write_item.new.bytes ≡ sample_bytes (get_or c.args.cells.now c.loop-i.i (pos 0)) = c.write_item.ensures ∙ ap sample_bytes (to_z-of_z w16 _ fits) in
    let len : length c.write_item.new.bytes ≡ 2 = ap length is_ys ∙ sample_bytes_len (get_or c.args.cells.now c.loop-i.i (pos 0)) in
    bytes_more c.loop-i.out c.write_item.new.bytes c.loop-i.i _ _ c.args.cells.now refl (omega arith) len is_ys c.loop-i-test.true c.loop-i.invariant

pub returns : goal.returns
returns c = record { bytes = bytes_all c.loop-i.out c.loop-i.i c.args.cells.now (omega arith) (omega arith) c.loop-i.invariant }
