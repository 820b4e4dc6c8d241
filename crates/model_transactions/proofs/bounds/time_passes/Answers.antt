use Rattle.model_transactions.specs.Near.{IsWithin}
use Rattle.model_transactions.proofs.Lists.{all_weaker}
use Rattle.model_transactions.proofs.Near.{branch_later, request_later}
use Rattle.model_transactions.proofs.bounds.time_passes.Goals as goal

pub returns-clause-branch : goal.returns-clause-branch
returns-clause-branch c = branch_later

pub returns-clause-request : goal.returns-clause-request
returns-clause-request c = request_later

pub returns-clause-all : goal.returns-clause-all
returns-clause-all c = λ bound later requests h. all_weaker (IsWithin bound) (IsWithin later) (λ r. request_later bound later r h) requests
