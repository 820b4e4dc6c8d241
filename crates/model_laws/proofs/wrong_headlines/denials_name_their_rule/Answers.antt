use Rattle.model_laws.proofs.WrongWays.{without_rule, by_another}
use Rattle.model_laws.proofs.wrong_headlines.denials_name_their_rule.Goals as goal

pub returns-clause-none : goal.returns-clause-none
returns-clause-none c = without_rule

pub returns-clause-another : goal.returns-clause-another
returns-clause-another c = by_another
