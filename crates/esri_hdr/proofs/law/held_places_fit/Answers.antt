use Rattle.esri_hdr.proofs.Heads.{raw_fits}
use Rattle.esri_hdr.proofs.law.held_places_fit.Goals as goal

pub returns : goal.returns
returns c = record { fits = raw_fits }
