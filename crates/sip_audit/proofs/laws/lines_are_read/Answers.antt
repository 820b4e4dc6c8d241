use Rattle.sip_audit.proofs.LineLaws.{is_read, is_line}
use Rattle.sip_audit.proofs.laws.lines_are_read.Goals as goal

pub returns-clause-read : goal.returns-clause-read
returns-clause-read c = is_read

pub returns-clause-written : goal.returns-clause-written
returns-clause-written c = is_line
