use Rattle.model_transactions.proofs.States.{call_state, other_state}
use Rattle.model_transactions.proofs.machines.branches_have_states.Goals as goal

pub returns-clause-invite : goal.returns-clause-invite
returns-clause-invite c = call_state

pub returns-clause-other : goal.returns-clause-other
returns-clause-other c = other_state
