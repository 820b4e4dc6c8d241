use Rattle.model_context.proofs.ByNumbers.{by_numbers}
use Rattle.model_context.proofs.laws.found_by_numbers.Goals as goal

pub returns : goal.returns
returns c = by_numbers
