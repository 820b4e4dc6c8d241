use Rattle.sip_model.proofs.Repeats.{step_repeats}
use Rattle.sip_model.proofs.order.repeats_are_of_open_requests.Goals as goal

pub returns : goal.returns
returns c = step_repeats
