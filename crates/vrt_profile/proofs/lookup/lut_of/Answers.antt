use Rattle.std.proofs.Common.{[], ◌∷◌}
use Rattle.vrt_profile.proofs.Tables.{lut_rules}
use Rattle.vrt_profile.proofs.lookup.lut_of.Goals as goal

pub one-requires : goal.one-requires
one-requires c = record { rules = lut_rules c.args.text.now (c.in-Some.pair ∷ []) c.in-Some.ensures.pair }
