-- What structs of the attributes of a tag are for the definitions.
use Rattle.vrt_markup.specs.declared.attributes.Pair.{Pair}
use Rattle.vrt_markup.specs.Items as items
use Rattle.vrt_markup.specs.declared.attributes.Spread.{Spread}
use Rattle.vrt_markup.specs.Keys as keys

abbrev pub pair_view : Pair → items.Pair
pair_view p = record { name = p.name.now; value = p.value.now }

abbrev pub spread_view : Spread → keys.Spread
spread_view s = record { low = s.low; last = s.last; top = s.top }
