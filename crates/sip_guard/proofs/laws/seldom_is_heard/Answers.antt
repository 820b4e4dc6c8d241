use Rattle.sip_guard.proofs.Rating.{whole, apart_all_within}
use Rattle.sip_guard.proofs.laws.seldom_is_heard.Goals as goal

pub returns : goal.returns
returns c = λ limit moments some apart. whole limit moments (apart_all_within limit moments some apart)
