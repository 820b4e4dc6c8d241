use Rattle.sip_state.proofs.Opened.{earlier_found, new_found}
use Rattle.sip_state.proofs.laws.opened_stands_last.Goals as goal

pub returns-clause-earlier : goal.returns-clause-earlier
returns-clause-earlier c = earlier_found

pub returns-clause-alone : goal.returns-clause-alone
returns-clause-alone c = new_found
