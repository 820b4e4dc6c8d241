use Rattle.model_transactions.specs.Ties.{timers_of}
use Rattle.model_transactions.proofs.NearTimers.{side_near, branch_near, all_near, none_later}
use Rattle.model_transactions.proofs.timers.timers_are_near.Goals as goal

pub returns-clause-side : goal.returns-clause-side
returns-clause-side c = side_near

pub returns-clause-branch : goal.returns-clause-branch
returns-clause-branch c = branch_near

pub returns-clause-whole : goal.returns-clause-whole
returns-clause-whole c = all_near

pub returns-clause-none_later : goal.returns-clause-none_later
returns-clause-none_later c = λ bound r side keys w. none_later bound (timers_of r side keys) (all_near bound r side keys w)
