use Rattle.sip_days.proofs.Among.{each_once}
use Rattle.sip_days.proofs.laws.each_phone_is_there_once.Goals as goal

pub returns : goal.returns
returns c = λ day aor. each_once day aor
