use Rattle.std.proofs.Common.{ap}
use Rattle.model_verdict.specs.Verdict.{verdict_in}
use Rattle.sip_verdict.proofs.laws.datagrams.Goals as goal

pub returns-clause-none : goal.returns-clause-none
returns-clause-none c = λ server state a bytes is. ap (verdict_in server state a) is

pub returns-clause-said : goal.returns-clause-said
returns-clause-said c = λ server state a bytes m short is. ap (verdict_in server state a) is
