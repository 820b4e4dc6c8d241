use Rattle.sip_days.proofs.PhonesBound.{each_registered}
use Rattle.sip_days.proofs.laws.each_phone_was_registered.Goals as goal

pub returns : goal.returns
returns c = λ server history access. each_registered server history access
