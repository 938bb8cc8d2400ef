use Rattle.std.proofs.Common.{inr}
use Rattle.mosaic_builds.proofs.Listed.{long_list}
use Rattle.mosaic_builds.proofs.list.read_list.Goals as goal

pub returns-then-length-gt-LONGEST_LIST-clause-err : goal.returns-then-length-gt-LONGEST_LIST-clause-err
returns-then-length-gt-LONGEST_LIST-clause-err g c = λ m is.
    let at = c.in-Ok.ensures.ok m is in
    inr (long_list m c.args.name.now at.0 c.len-length.result at.1 (c.len-length.ensures.told at.0 at.2) c.if-length-gt-LONGEST_LIST.true)
