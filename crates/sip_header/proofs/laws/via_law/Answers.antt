use Rattle.sip_header.proofs.ParameterLaws.{read_via, written_via}
use Rattle.sip_header.proofs.laws.via_law.Goals as goal

pub returns-clause-read : goal.returns-clause-read
returns-clause-read c = read_via

pub returns-clause-written : goal.returns-clause-written
returns-clause-written c = written_via
