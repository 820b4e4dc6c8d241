use Rattle.model_transactions.proofs.Queues.{opened_and_changed}
use Rattle.model_transactions.proofs.queue.queues_join.Goals as goal

pub returns : goal.returns
returns c = opened_and_changed
