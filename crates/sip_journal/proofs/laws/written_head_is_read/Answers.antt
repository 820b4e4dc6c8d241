use Rattle.sip_journal.proofs.ReadHeads.{head_read, head_is_line, head_joined}
use Rattle.sip_journal.proofs.laws.written_head_is_read.Goals as goal

pub returns-clause-text : goal.returns-clause-text
returns-clause-text c = head_joined

pub returns-clause-line : goal.returns-clause-line
returns-clause-line c = head_is_line

pub returns-clause-read : goal.returns-clause-read
returns-clause-read c = head_read
