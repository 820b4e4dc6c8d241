use Rattle.sip_guard.proofs.Rating.{whole, few_all_within}
use Rattle.sip_guard.proofs.laws.few_are_heard.Goals as goal

pub returns : goal.returns
returns c = λ limit moments rising few. whole limit moments (few_all_within limit moments rising few)
