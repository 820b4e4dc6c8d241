use Rattle.std.proofs.Common.{refl}
use Rattle.sip_model.proofs.SameAhead.{ahead_joined, ahead_of_same, ahead_self, ahead_turned}
use Rattle.sip_model.proofs.sameness_laws.same_is_equivalence.Goals as goal

pub returns-clause-itself : goal.returns-clause-itself
returns-clause-itself c = λ state. ahead_self state state refl

pub returns-clause-turned : goal.returns-clause-turned
returns-clause-turned c = ahead_turned

pub returns-clause-joined : goal.returns-clause-joined
returns-clause-joined c = ahead_joined

pub returns-clause-of_same : goal.returns-clause-of_same
returns-clause-of_same c = ahead_of_same
