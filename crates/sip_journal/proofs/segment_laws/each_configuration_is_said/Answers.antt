use Rattle.sip_journal.proofs.Segments.{some_configuration}
use Rattle.sip_journal.proofs.segment_laws.each_configuration_is_said.Goals as goal

pub returns : goal.returns
returns c = some_configuration
