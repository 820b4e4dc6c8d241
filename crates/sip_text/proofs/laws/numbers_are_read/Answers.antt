use Rattle.sip_text.proofs.PlainDecimals.{plain_read, plain_written}
use Rattle.sip_text.proofs.laws.numbers_are_read.Goals as goal

pub returns-clause-read : goal.returns-clause-read
returns-clause-read c = plain_read

pub returns-clause-written : goal.returns-clause-written
returns-clause-written c = plain_written
