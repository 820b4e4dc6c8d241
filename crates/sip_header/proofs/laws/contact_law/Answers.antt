use Rattle.sip_header.proofs.NameAddrLaws.{read_contact, written_contact}
use Rattle.sip_header.proofs.laws.contact_law.Goals as goal

pub returns-clause-read : goal.returns-clause-read
returns-clause-read c = read_contact

pub returns-clause-written : goal.returns-clause-written
returns-clause-written c = written_contact
