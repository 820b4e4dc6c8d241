use Rattle.sip_guard.proofs.Rating.{exact, bounded, whole}
use Rattle.sip_guard.proofs.laws.allowance_is_a_rate.Goals as goal

pub returns-clause-exact : goal.returns-clause-exact
returns-clause-exact c = exact

pub returns-clause-bounded : goal.returns-clause-bounded
returns-clause-bounded c = bounded

pub returns-clause-whole : goal.returns-clause-whole
returns-clause-whole c = whole
