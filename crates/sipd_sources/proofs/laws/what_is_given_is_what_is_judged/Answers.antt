use Rattle.sipd_sources.proofs.Judged.{all_judged}
use Rattle.sipd_sources.proofs.laws.what_is_given_is_what_is_judged.Goals as goal

pub returns : goal.returns
returns c = λ realm values. all_judged realm values
