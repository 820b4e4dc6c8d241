use Rattle.sip_days.proofs.Deciding.{all_asked}
use Rattle.sip_days.proofs.laws.calls_are_what_policy_decided.Goals as goal

pub returns : goal.returns
returns c = λ server history access. all_asked server history access
