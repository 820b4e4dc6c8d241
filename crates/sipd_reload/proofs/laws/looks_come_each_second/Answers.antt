use Rattle.sipd_reload.proofs.Offers.{due_again, not_due}
use Rattle.sipd_reload.proofs.laws.looks_come_each_second.Goals as goal

pub returns-clause-seldom : goal.returns-clause-seldom
returns-clause-seldom c = not_due

pub returns-clause-again : goal.returns-clause-again
returns-clause-again c = due_again
