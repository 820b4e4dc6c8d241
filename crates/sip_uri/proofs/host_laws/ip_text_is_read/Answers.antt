use Rattle.sip_uri.proofs.Dotted.{text_read, text_written}
use Rattle.sip_uri.proofs.host_laws.ip_text_is_read.Goals as goal

pub returns-clause-read : goal.returns-clause-read
returns-clause-read c = text_read

pub returns-clause-written : goal.returns-clause-written
returns-clause-written c = text_written
