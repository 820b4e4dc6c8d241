use Rattle.sip_message.proofs.SaysLaws.{readable, over}
use Rattle.sip_message.proofs.FaultLaws.{not_sip, bad_field, limits}
use Rattle.sip_message.proofs.laws.refusals.Goals as goal

pub returns-clause-none : goal.returns-clause-none
returns-clause-none c = readable

pub returns-clause-too_long : goal.returns-clause-too_long
returns-clause-too_long c = over

pub returns-clause-not_sip : goal.returns-clause-not_sip
returns-clause-not_sip c = not_sip

pub returns-clause-bad_field : goal.returns-clause-bad_field
returns-clause-bad_field c = bad_field

pub returns-clause-limits : goal.returns-clause-limits
returns-clause-limits c = limits
