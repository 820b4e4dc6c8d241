use Rattle.model_laws.proofs.OwnRules.{not_sent, not_warned, not_recorded}
use Rattle.model_laws.proofs.configurations.steps_go_by_the_rules_in_force.Goals as goal

pub returns-clause-sent : goal.returns-clause-sent
returns-clause-sent c = not_sent

pub returns-clause-warned : goal.returns-clause-warned
returns-clause-warned c = not_warned

pub returns-clause-recorded : goal.returns-clause-recorded
returns-clause-recorded c = not_recorded
