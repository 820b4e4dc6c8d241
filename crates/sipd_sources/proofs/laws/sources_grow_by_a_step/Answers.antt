use Rattle.sipd_sources.proofs.Growing.{sources_more, sources_told}
use Rattle.sipd_sources.proofs.laws.sources_grow_by_a_step.Goals as goal

pub returns-clause-more : goal.returns-clause-more
returns-clause-more c = λ filter day step. sources_more filter day step

pub returns-clause-told : goal.returns-clause-told
returns-clause-told c = λ filter known history told. sources_told filter known history told
