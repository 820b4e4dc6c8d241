use Rattle.model_laws.proofs.TwoRuns.{two_are_one, gone_and_back_are_one, gone_and_back_chain, of_no_server}
use Rattle.model_laws.proofs.configurations.two_configurations_are_no_run.Goals as goal

pub returns-clause-under_both : goal.returns-clause-under_both
returns-clause-under_both c = two_are_one

pub returns-clause-of_none : goal.returns-clause-of_none
returns-clause-of_none c = of_no_server

pub returns-clause-gone_and_back : goal.returns-clause-gone_and_back
returns-clause-gone_and_back c = gone_and_back_are_one

pub returns-clause-one_history : goal.returns-clause-one_history
returns-clause-one_history c = gone_and_back_chain
