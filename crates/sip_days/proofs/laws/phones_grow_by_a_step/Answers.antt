use Rattle.sip_days.proofs.PhonesGrowing.{phones_more, phones_told}
use Rattle.sip_days.proofs.laws.phones_grow_by_a_step.Goals as goal

pub returns-clause-more : goal.returns-clause-more
returns-clause-more c = λ day step. phones_more day step

pub returns-clause-told : goal.returns-clause-told
returns-clause-told c = λ rows history told. phones_told rows history told
