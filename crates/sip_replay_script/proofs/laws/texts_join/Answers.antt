use Rattle.sip_replay_script.proofs.Saying.{says_all, says_one}
use Rattle.sip_replay_script.proofs.laws.texts_join.Goals as goal

pub returns-clause-both : goal.returns-clause-both
returns-clause-both c = says_all

pub returns-clause-one : goal.returns-clause-one
returns-clause-one c = says_one
