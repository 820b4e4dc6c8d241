use Rattle.sip_proxy.proofs.Drafts.{input_to}
use Rattle.sip_proxy.proofs.drafting.inputs_come_to_requests.Goals as goal

pub returns : goal.returns
returns c = input_to
