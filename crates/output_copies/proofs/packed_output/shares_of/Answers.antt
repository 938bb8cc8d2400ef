use Rattle.std.proofs.Common.{◌∙◌}
use Rattle.output_copies.proofs.Packs.{columns_by}
use Rattle.output_copies.proofs.packed_output.shares_of.Goals as goal

pub returns : goal.returns
returns c =
    let p = c.args.translation.now.plan in
    let packing = c.in_ok-packing.ensures in
    let portions = c.in_ok-portions.ensures in
    record {
      task = record {
        translation = c.requires.translation;
        output = packing.output;
        apart = packing.apart;
        form_is = portions.form;
        columns = portions.form.columns ∙ columns_by p.driver p c.in_ok-packing.packing packing.output;
        some_rows = portions.rows;
        some_step = portions.step;
      };
    }
