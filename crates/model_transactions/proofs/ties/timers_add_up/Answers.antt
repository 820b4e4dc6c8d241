use Rattle.sip_timers.specs.declared.timer.Owner.TheVariants as Of
use Rattle.model_transactions.specs.Ties.{part_timers, side_timers, branches_timers, branch_timers, owner_of}
use Rattle.model_transactions.proofs.Counted.{count-append}
use Rattle.model_transactions.proofs.Names.{count_part}
use Rattle.model_transactions.proofs.ties.timers_add_up.Goals as goal

pub returns-clause-part : goal.returns-clause-part
returns-clause-part c = count_part

pub returns-clause-whole : goal.returns-clause-whole
returns-clause-whole c = λ p r side keys. count-append p (part_timers r.number Of.Server side (side_timers r)) (branches_timers r r.branches keys)

pub returns-clause-first : goal.returns-clause-first
returns-clause-first c = λ p r b bs key keys. count-append p (part_timers r.number (owner_of b) key (branch_timers r b)) (branches_timers r bs keys)
