use Rattle.sip_best.proofs.Choices.{taken_fits}
use Rattle.sip_best.proofs.laws.fits_a_datagram.Goals as goal

pub returns : goal.returns
returns c = taken_fits
