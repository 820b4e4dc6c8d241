use Rattle.sip_record_omitted.proofs.Texts.{by_lines, by_themselves}
use Rattle.sip_record_omitted.proofs.laws.text_is_expanded_by_lines.Goals as goal

pub returns-clause-each : goal.returns-clause-each
returns-clause-each c = by_lines

pub returns-clause-itself : goal.returns-clause-itself
returns-clause-itself c = by_themselves
