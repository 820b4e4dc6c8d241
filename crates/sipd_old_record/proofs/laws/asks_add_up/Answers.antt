use Rattle.sipd_old_record.proofs.Asking.{asked_both, asked_further, asked_out}
use Rattle.sipd_old_record.proofs.laws.asks_add_up.Goals as goal

pub returns-clause-spent : goal.returns-clause-spent
returns-clause-spent c = asked_out

pub returns-clause-before : goal.returns-clause-before
returns-clause-before c = asked_both

pub returns-clause-further : goal.returns-clause-further
returns-clause-further c = asked_further
