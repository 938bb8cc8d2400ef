use Rattle.std.proofs.Common.{◌≡◌, arith, None}
use Rattle.vrt_markup.specs.Keys.{double_of}
use Rattle.vrt_markup.proofs.Names.{no_double}
use Rattle.vrt_markup.proofs.attributes.double_in.Goals as goal

pub returns : goal.returns
returns c = record {
  none = λ none.
      let same : double_of c.sort.new.self.items ≡ None = grind (arith, c.deref.ensures, c.double_of.ensures.double, none) in
      no_double _ _ c.sort.ensures.permutation c.in_ok-sort.ensures.sorted same;
}
