use Rattle.sip_days.proofs.Growing.{calls_more, calls_told}
use Rattle.sip_days.proofs.laws.calls_grow_by_a_step.Goals as goal

pub returns-clause-more : goal.returns-clause-more
returns-clause-more c = λ day step. calls_more day step

pub returns-clause-told : goal.returns-clause-told
returns-clause-told c = λ calls history told. calls_told calls history told
