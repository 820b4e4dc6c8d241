use Rattle.sip_header.proofs.ParameterLaws.{read_parameters, written_parameters}
use Rattle.sip_header.proofs.laws.parameters_law.Goals as goal

pub returns-clause-read : goal.returns-clause-read
returns-clause-read c = read_parameters

pub returns-clause-written : goal.returns-clause-written
returns-clause-written c = written_parameters
