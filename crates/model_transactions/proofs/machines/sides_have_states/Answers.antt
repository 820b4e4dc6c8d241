use Rattle.model_transactions.proofs.States.{invite_state, request_state}
use Rattle.model_transactions.proofs.machines.sides_have_states.Goals as goal

pub returns-clause-invite : goal.returns-clause-invite
returns-clause-invite c = invite_state

pub returns-clause-other : goal.returns-clause-other
returns-clause-other c = request_state
