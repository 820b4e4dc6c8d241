use Rattle.sip_days.proofs.Deciding.{calls_decided}
use Rattle.sip_days.proofs.laws.each_invite_is_a_call.Goals as goal

pub returns : goal.returns
returns c = λ day. calls_decided day
