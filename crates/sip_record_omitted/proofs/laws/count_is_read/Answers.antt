use Rattle.sip_record_omitted.proofs.LineLaws.{omitted_again, omitted_is, says_so_many}
use Rattle.sip_record_omitted.proofs.laws.count_is_read.Goals as goal

pub returns-clause-read : goal.returns-clause-read
returns-clause-read c = omitted_again

pub returns-clause-written : goal.returns-clause-written
returns-clause-written c = omitted_is

pub returns-clause-says : goal.returns-clause-says
returns-clause-says c = says_so_many
