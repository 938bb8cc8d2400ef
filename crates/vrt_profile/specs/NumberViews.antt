-- What the structs of numbers are for the definitions.
use Rattle.geotransform.specs.Decimal.{IsRead}
use Rattle.vrt_profile.specs.Fields as fields
use Rattle.vrt_profile.specs.declared.fields.Six.{Six}

abbrev pub six_view : Six → fields.Six
six_view s = record { ox = s.ox; dx = s.dx; rx = s.rx; oy = s.oy; ry = s.ry; dy = s.dy }

-- the four numbers of a geotransform are read from decimals
pub record IsReadSix (s : Six) : Type 0 where
  pub ox : IsRead s.ox
  pub oy : IsRead s.oy
  pub dx : IsRead s.dx
  pub dy : IsRead s.dy
