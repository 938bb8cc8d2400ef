use Rattle.std.proofs.Common.{subst}
use Rattle.esri_hdr.specs.Head.{IsHead}
use Rattle.write_back.proofs.Woven.{plane_within}
use Rattle.write_back.proofs.pieces.spot_place.Goals as goal

pub position-requires-clause-band : goal.position-requires-clause-band
position-requires-clause-band c = plane_within c.args.head.now c.args.row.band (subst IsHead c.head.view_is c.head.invariant) c.requires.band
