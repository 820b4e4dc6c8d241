use Rattle.sip_header.proofs.NumberLaws.{read_back}
use Rattle.sip_header.proofs.laws.cseq_law.Goals as goal

pub returns-clause-read : goal.returns-clause-read
returns-clause-read c = read_back
