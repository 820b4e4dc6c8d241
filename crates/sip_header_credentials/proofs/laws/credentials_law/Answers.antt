use Rattle.sip_header_credentials.proofs.CredentialLaws.{read_credentials, written_credentials}
use Rattle.sip_header_credentials.proofs.laws.credentials_law.Goals as goal

pub returns-clause-read : goal.returns-clause-read
returns-clause-read c = read_credentials

pub returns-clause-written : goal.returns-clause-written
returns-clause-written c = written_credentials
