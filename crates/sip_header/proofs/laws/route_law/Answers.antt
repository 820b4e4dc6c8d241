use Rattle.sip_header.proofs.NameAddrLaws.{read_route, written_route}
use Rattle.sip_header.proofs.laws.route_law.Goals as goal

pub returns-clause-read : goal.returns-clause-read
returns-clause-read c = read_route

pub returns-clause-written : goal.returns-clause-written
returns-clause-written c = written_route
