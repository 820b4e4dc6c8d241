use Rattle.sip_header.proofs.NameAddrLaws.{read_name_addr, written_name_addr}
use Rattle.sip_header.proofs.laws.name_addr_law.Goals as goal

pub returns-clause-read : goal.returns-clause-read
returns-clause-read c = read_name_addr

pub returns-clause-written : goal.returns-clause-written
returns-clause-written c = written_name_addr
