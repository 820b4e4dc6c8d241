use Rattle.sip_uri.proofs.ReadingLaws.{again, valid_again}
use Rattle.sip_uri.proofs.laws.written_again.Goals as goal

pub returns-clause-was_read : goal.returns-clause-was_read
returns-clause-was_read c = again

pub returns-clause-valid : goal.returns-clause-valid
returns-clause-valid c = valid_again
