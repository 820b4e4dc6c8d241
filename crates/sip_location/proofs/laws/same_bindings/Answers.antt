use Rattle.std.proofs.Common.{refl}
use Rattle.sip_location.proofs.Sameness.{same_self, same_turned, same_joined, same_later}
use Rattle.sip_location.proofs.laws.same_bindings.Goals as goal

pub returns-clause-itself : goal.returns-clause-itself
returns-clause-itself c = λ from rows. same_self from rows rows refl

pub returns-clause-turned : goal.returns-clause-turned
returns-clause-turned c = same_turned

pub returns-clause-joined : goal.returns-clause-joined
returns-clause-joined c = same_joined

pub returns-clause-later : goal.returns-clause-later
returns-clause-later c = same_later
