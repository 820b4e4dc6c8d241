use Rattle.sip_retell.proofs.Wholly.{says_whole, taken_all}
use Rattle.sip_retell.proofs.laws.what_is_told_is_taken.Goals as goal

pub returns-clause-says : goal.returns-clause-says
returns-clause-says c = λ items text h. says_whole items text h

pub returns-clause-taken : goal.returns-clause-taken
returns-clause-taken c = λ server server_then old new items history h. taken_all c.runs_join.ensures server server_then old new items history h
