use Rattle.esri_hdr.proofs.Placed.{doubled}
use Rattle.esri_hdr.proofs.law.halves_are_exact.Goals as goal

pub returns-clause-width : goal.returns-clause-width
returns-clause-width c = λ g fits. doubled g.xdim fits.xdim.multiple fits.wide

pub returns-clause-height : goal.returns-clause-height
returns-clause-height c = λ g fits. doubled g.ydim fits.ydim.multiple fits.high
