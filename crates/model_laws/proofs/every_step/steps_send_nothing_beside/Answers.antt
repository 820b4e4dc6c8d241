use Rattle.model_laws.proofs.Firsts.{none_open}
use Rattle.model_laws.proofs.Recording.{at_most_one}
use Rattle.model_laws.proofs.every_step.steps_send_nothing_beside.Goals as goal

pub returns-clause-alone : goal.returns-clause-alone
returns-clause-alone c = none_open

pub returns-clause-recorded : goal.returns-clause-recorded
returns-clause-recorded c = at_most_one
