use Rattle.std.proofs.Common.{refl}
use Rattle.sip_fork.proofs.contexts.Contexts.is_same.Goals as goal

pub returns-clause-requests : goal.returns-clause-requests
returns-clause-requests g c = λ _. c.if-not-has_requests_of.ensures refl
