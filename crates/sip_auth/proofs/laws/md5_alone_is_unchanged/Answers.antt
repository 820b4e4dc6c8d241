use Rattle.sip_auth.proofs.Algorithms.{alone_is, only_md5}
use Rattle.sip_auth.proofs.laws.md5_alone_is_unchanged.Goals as goal

pub returns-clause-offer : goal.returns-clause-offer
returns-clause-offer c = alone_is

pub returns-clause-others : goal.returns-clause-others
returns-clause-others c = only_md5
