use Rattle.sip_record_omitted.proofs.LineLaws.{record_behind, record_itself, said_is_none}
use Rattle.sip_record_omitted.proofs.laws.events_are_themselves.Goals as goal

pub returns-clause-line : goal.returns-clause-line
returns-clause-line c = said_is_none

pub returns-clause-text : goal.returns-clause-text
returns-clause-text c = record_itself

pub returns-clause-behind : goal.returns-clause-behind
returns-clause-behind c = record_behind
