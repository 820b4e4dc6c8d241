use Rattle.sip_auth.proofs.Algorithms.{same_worth, unnamed_is_md5}
use Rattle.sip_auth.proofs.laws.md5_needs_no_second_key.Goals as goal

pub returns-clause-worth : goal.returns-clause-worth
returns-clause-worth c = same_worth

pub returns-clause-unnamed : goal.returns-clause-unnamed
returns-clause-unnamed c = unnamed_is_md5
