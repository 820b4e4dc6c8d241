use Rattle.model_transactions.specs.Ties.{timers_of}
use Rattle.model_transactions.proofs.NearTimers.{all_near, allowed, all_allowed}
use Rattle.model_transactions.proofs.timers.timers_can_be_set.Goals as goal

pub returns-clause-near : goal.returns-clause-near
returns-clause-near c = allowed

pub returns-clause-whole : goal.returns-clause-whole
returns-clause-whole c = λ bound reached r side keys h w. all_allowed bound reached (timers_of r side keys) h (all_near bound r side keys w)
