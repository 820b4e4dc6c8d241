use Rattle.sip_model.proofs.Deadlines.{chain_passes_none}
use Rattle.sip_model.proofs.Again.{chain_none_again, chain_has_fired}
use Rattle.sip_model.proofs.order.no_deadline_passed.Goals as goal

pub returns-clause-none_before : goal.returns-clause-none_before
returns-clause-none_before c = chain_passes_none

pub returns-clause-none_again : goal.returns-clause-none_again
returns-clause-none_again c = chain_none_again

pub returns-clause-has_fired : goal.returns-clause-has_fired
returns-clause-has_fired c = chain_has_fired
