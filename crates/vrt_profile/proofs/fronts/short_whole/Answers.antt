use Rattle.std.proofs.Common.{arith}
use Rattle.std.proofs.lemmas.List.{nil_from_length}
use Rattle.vrt_profile.proofs.ShortNumbers.{whole_digits}
use Rattle.vrt_profile.proofs.fronts.short_whole.Goals as goal

pub returns-in-empty-clause-number : goal.returns-in-empty-clause-number
returns-in-empty-clause-number c =
    let p = c.in_ok-n in
    whole_digits c.args.text.now p.rest.now p.n p.ensures.digits (nil_from_length p.rest.now (omega (arith, c.in-empty.len_below)))
