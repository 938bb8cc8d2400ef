use Rattle.std.proofs.Common.{◌<◌, ap, refl, subst, ◌∙◌}
use Rattle.write_back.specs.declared.forms.Writer.{Writer}
use Rattle.write_back.specs.Forms.{cut_of}
use Rattle.write_back.specs.Overlay.{line_key}
use Rattle.write_back.specs.Packed.{block_len, IsBlockOf}
use Rattle.write_back.proofs.Past.{cell_past, raw_past, tile_past}
use Rattle.write_back.proofs.forms.Writer.put_block.Goals as goal

pub returns-in-Raw-clause-told : goal.returns-in-Raw-clause-told
returns-in-Raw-clause-told g c = raw_past (line_key c.args.band c.args.block) c.args.bytes.now _ _ c.args.self.now c.in-Raw.lines c.put_line.result c.in-Raw.is refl c.put_line.ensures.told

pub returns-in-Hgt-clause-told : goal.returns-in-Hgt-clause-told
returns-in-Hgt-clause-told g c =
    tile_past (line_key c.args.band c.args.block) c.args.bytes.now _ _ c.args.self.now c.in-Hgt.tile c.put_row.result c.in-Hgt.is refl
    (subst (λ (w : Writer). c.args.band < (cut_of w).bands) c.in-Hgt.is c.requires.band) (subst (λ (w : Writer). c.args.block < (cut_of w).blocks) c.in-Hgt.is c.requires.block) (c.requires.bytes ∙ ap block_len c.in-Hgt.is)
    c.put_row.ensures.small c.put_row.ensures.told

pub returns-in-Dted-clause-told : goal.returns-in-Dted-clause-told
returns-in-Dted-clause-told g c =
    cell_past (line_key c.args.band c.args.block) c.args.bytes.now _ _ c.args.self.now c.in-Dted.cell c.put_column.result c.in-Dted.is refl
    (subst (λ (w : Writer). c.args.band < (cut_of w).bands) c.in-Dted.is c.requires.band) (subst (λ (w : Writer). c.args.block < (cut_of w).blocks) c.in-Dted.is c.requires.block)
    (subst (λ (w : Writer). IsBlockOf w c.args.block c.args.bytes.now) c.in-Dted.is c.requires.whole) c.put_column.ensures.small c.put_column.ensures.told
