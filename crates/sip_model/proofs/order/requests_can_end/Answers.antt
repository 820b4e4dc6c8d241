use Rattle.sip_model.proofs.DeadlinesLeft.{passed_left}
use Rattle.sip_model.proofs.Ends.{chain_ends, chain_waits}
use Rattle.sip_model.proofs.order.requests_can_end.Goals as goal

pub returns-clause-has_deadline : goal.returns-clause-has_deadline
returns-clause-has_deadline c = chain_ends

pub returns-clause-fewer_left : goal.returns-clause-fewer_left
returns-clause-fewer_left c = passed_left

pub returns-clause-waits : goal.returns-clause-waits
returns-clause-waits c = chain_waits
