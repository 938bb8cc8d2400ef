-- The pairs of a table, one or more.
use Rattle.std.specs.Prelude.{List, [], ◌∷◌}
use Rattle.vrt_profile.specs.declared.rectangle.LutPair.{LutPair}
use Rattle.vrt_profile.specs.declared.rectangle.Pairs.{Pairs}
use Rattle.vrt_profile.specs.declared.rectangle.Pairs.TheVariants.{One, Many}

abbrev pub pairs_in : Pairs → List LutPair
pairs_in (One pair) = pair ∷ []
pairs_in (Many pairs) = pairs
