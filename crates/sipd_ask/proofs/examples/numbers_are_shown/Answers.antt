use Rattle.std.proofs.Common.{refl}
use Rattle.std.specs.Fmt.{digits}
use Rattle.sipd_ask.proofs.examples.numbers_are_shown.Goals as goal

pub returns-clause-morning : goal.returns-clause-morning
unfolding digits
returns-clause-morning c = refl

pub returns-clause-midnight : goal.returns-clause-midnight
unfolding digits
returns-clause-midnight c = refl

pub returns-clause-last : goal.returns-clause-last
unfolding digits
returns-clause-last c = refl

pub returns-clause-behind : goal.returns-clause-behind
unfolding digits
returns-clause-behind c = refl

pub returns-clause-ahead : goal.returns-clause-ahead
unfolding digits
returns-clause-ahead c = refl
