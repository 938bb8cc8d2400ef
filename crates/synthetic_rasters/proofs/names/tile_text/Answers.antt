use Rattle.std.proofs.Common.{sym, ap, arith, ◌≡◌}
use Rattle.synthetic_rasters.specs.Names.{tile_name}
use Rattle.synthetic_rasters.proofs.names.tile_text.Goals as goal

pub returns-in-0 : goal.returns-in-0
returns-in-0 c = record { text = sym (ap tile_name c.in-0.is) }

pub returns-in-1 : goal.returns-in-1
returns-in-1 c = record { text = sym (ap tile_name c.in-1.is) }

pub returns-in-2 : goal.returns-in-2
returns-in-2 c = record { text = sym (ap tile_name c.in-2.is) }

pub returns-in_default : goal.returns-in_default
returns-in_default c = let is : c.args.tile ≡ 3 = omega arith in record { text = sym (ap tile_name is) }
