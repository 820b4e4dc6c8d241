use Rattle.std.proofs.Common.{arith}
use Rattle.model_transactions.proofs.CopiesLeft.{less_after, less_steady}
use Rattle.model_transactions.proofs.copies.copy_leaves_one_less.Goals as goal

pub returns-clause-invite : goal.returns-clause-invite
returns-clause-invite c = λ until again timely early. less_after 32000 until again (omega arith) timely early

pub returns-clause-unheard : goal.returns-clause-unheard
returns-clause-unheard c = λ until again timely early. less_after 4000 until again (omega arith) timely early

pub returns-clause-heard : goal.returns-clause-heard
returns-clause-heard c = less_steady

pub returns-clause-answer : goal.returns-clause-answer
returns-clause-answer c = λ until a again refused timely early. rw refused (less_after 4000 until again (omega arith) timely early)
