use Rattle.sipd_traces.proofs.Growing.{all_frames, steps_frames}
use Rattle.sipd_traces.proofs.laws.capture_is_the_frames.Goals as goal

pub returns-clause-history : goal.returns-clause-history
returns-clause-history c = λ choice old new history told. all_frames choice old new history told

pub returns-clause-steps : goal.returns-clause-steps
returns-clause-steps c = λ choice old new steps told. steps_frames choice old new steps told
