use Rattle.sipd_traces.proofs.Growing.{all_rungs, steps_rungs}
use Rattle.sipd_traces.proofs.laws.ladder_is_the_rungs.Goals as goal

pub returns-clause-history : goal.returns-clause-history
returns-clause-history c = λ old new history told. all_rungs old new history told

pub returns-clause-steps : goal.returns-clause-steps
returns-clause-steps c = λ old new steps told. steps_rungs old new steps told
