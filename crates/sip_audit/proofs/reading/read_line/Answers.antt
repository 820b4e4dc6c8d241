use Rattle.std.proofs.Common.{subst}
use Rattle.sip_audit.specs.Reading.{Gives}
use Rattle.sip_audit.proofs.LineLaws.{read_is_written, written_is_read}
use Rattle.sip_audit.proofs.reading.read_line.Goals as goal

pub returns-clause-written : goal.returns-clause-written
returns-clause-written c = read_is_written c.args.line.now c.read_record.result c.read_record.ensures

pub returns-clause-only : goal.returns-clause-only
returns-clause-only c = λ r fits is. subst (λ wanted. Gives (λ r. r) c.read_record.result wanted) (written_is_read c.args.line.now r fits is) c.read_record.ensures
