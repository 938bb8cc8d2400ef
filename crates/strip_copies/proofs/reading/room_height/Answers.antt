use Rattle.std.proofs.Common.{◌≡◌, min, arith}
use Rattle.strip_copies.proofs.Shared.{fewer_lines}
use Rattle.strip_copies.proofs.reading.room_height.Goals as goal

pub returns-clause-bound : goal.returns-clause-bound
returns-clause-bound c =
    let strip : c.min-strip.result ≡ min c.strip_lines.result c.args.lines = c.min-strip.ensures in
    let is : c.min.result ≡ min c.min-strip.result c.lines_beside.result = c.min.ensures in
    fewer_lines c.args.columns c.min.result c.strip_lines.result 4194304 (omega (arith, strip, is)) c.strip_lines.ensures.bound

pub returns-clause-share : goal.returns-clause-share
returns-clause-share c =
    let is : c.min.result ≡ min c.min-strip.result c.lines_beside.result = c.min.ensures in
    fewer_lines c.args.columns c.min.result c.lines_beside.result _ (omega (arith, is)) c.lines_beside.ensures.share
