use Rattle.std.proofs.Common.{arith}
use Rattle.model_transactions.proofs.Sendings.{timely_again}
use Rattle.model_transactions.proofs.copies.stays_timely.Goals as goal

pub returns-clause-first : goal.returns-clause-first
returns-clause-first c = λ now. record { near = omega arith; long = omega arith }

pub returns-clause-again : goal.returns-clause-again
returns-clause-again c = timely_again

pub returns-clause-heard : goal.returns-clause-heard
returns-clause-heard c = λ until again timely. let near = timely.near in record { near = omega arith; long = omega arith }
