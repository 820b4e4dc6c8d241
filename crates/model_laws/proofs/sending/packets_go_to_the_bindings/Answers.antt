use Rattle.model_laws.proofs.Branching.{all_go, step_goes}
use Rattle.model_laws.proofs.sending.packets_go_to_the_bindings.Goals as goal

pub returns-clause-targets : goal.returns-clause-targets
returns-clause-targets c = λ server a m method uri targets e. all_go server a m method uri e 1 targets

pub returns-clause-steps : goal.returns-clause-steps
returns-clause-steps c = step_goes c.every_history_has_access.ensures
