use Rattle.sip_model.proofs.Followed.{nonces_of_chain}
use Rattle.sip_model.proofs.histories.nonces_are_issued_and_used.Goals as goal

pub returns : goal.returns
returns c = nonces_of_chain
