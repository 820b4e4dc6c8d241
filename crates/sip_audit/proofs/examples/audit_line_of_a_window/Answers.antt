use Rattle.std.proofs.Common.{refl}
use Rattle.std.specs.Fmt.{digits}
use Rattle.sip_audit.proofs.examples.audit_line_of_a_window.Goals as goal

pub returns-clause-answered : goal.returns-clause-answered
unfolding digits
returns-clause-answered c = refl

pub returns-clause-challenged : goal.returns-clause-challenged
unfolding digits
returns-clause-challenged c = refl

pub returns-clause-denied : goal.returns-clause-denied
unfolding digits
returns-clause-denied c = refl

pub returns-clause-sent : goal.returns-clause-sent
unfolding digits
returns-clause-sent c = refl

pub returns-clause-first_minute : goal.returns-clause-first_minute
unfolding digits
returns-clause-first_minute c = refl
