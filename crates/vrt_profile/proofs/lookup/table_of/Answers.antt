use Rattle.vrt_profile.specs.Numbers.{lut_of}
use Rattle.vrt_profile.proofs.Tables.{lut_rules, ok_same}
use Rattle.std.proofs.Common.{Ok, ap, sym, ◌∙◌}
use Rattle.vrt_profile.proofs.lookup.table_of.Goals as goal

pub of-requires : goal.of-requires
of-requires c = record { rules = lut_rules c.args.text.now c.in-Ok-Ok.pairs (ok_same (Ok c.in-Ok-Ok.pairs) (lut_of c.args.text.now) (ap Ok (sym c.in-Ok-Ok.field-0-is) ∙ c.in-Ok-Ok.ensures.pairs)) }
