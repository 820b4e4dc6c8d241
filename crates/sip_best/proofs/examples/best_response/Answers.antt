use Rattle.std.proofs.Common.{refl}
use Rattle.std.specs.Fmt.{digits}
use Rattle.sip_best.proofs.examples.best_response.Goals as goal

pub returns-clause-challenges : goal.returns-clause-challenges
unfolding digits
returns-clause-challenges c = refl
