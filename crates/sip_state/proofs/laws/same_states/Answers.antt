use Rattle.std.proofs.Common.{refl}
use Rattle.sip_state.proofs.Sameness.{state_self, state_turned, state_joined}
use Rattle.sip_state.proofs.laws.same_states.Goals as goal

pub returns-clause-itself : goal.returns-clause-itself
returns-clause-itself c = λ state. state_self state state refl

pub returns-clause-turned : goal.returns-clause-turned
returns-clause-turned c = state_turned

pub returns-clause-joined : goal.returns-clause-joined
returns-clause-joined c = state_joined
