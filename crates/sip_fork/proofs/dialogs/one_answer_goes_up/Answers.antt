use Rattle.sip_fork.proofs.Once.{input_once, opening_once}
use Rattle.sip_fork.proofs.dialogs.one_answer_goes_up.Goals as goal

pub returns-clause-input : goal.returns-clause-input
returns-clause-input c = input_once

pub returns-clause-opening : goal.returns-clause-opening
returns-clause-opening c = opening_once
