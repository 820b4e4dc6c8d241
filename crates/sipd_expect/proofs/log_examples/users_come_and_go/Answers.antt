use Rattle.std.proofs.Common.{refl}
use Rattle.std.specs.Fmt.{digits}
use Rattle.sipd_expect.proofs.log_examples.users_come_and_go.Goals as goal

pub returns-clause-gone : goal.returns-clause-gone
unfolding digits
returns-clause-gone c = refl

pub returns-clause-no_phone : goal.returns-clause-no_phone
unfolding digits
returns-clause-no_phone c = refl

pub returns-clause-come : goal.returns-clause-come
unfolding digits
returns-clause-come c = refl
