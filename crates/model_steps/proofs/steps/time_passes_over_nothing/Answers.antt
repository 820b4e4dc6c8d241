use Rattle.model_steps.proofs.steps.time_passes_over_nothing.Goals as goal

pub returns-clause-quiet : goal.returns-clause-quiet
returns-clause-quiet c = λ server old at out new quiet. (quiet.none_passed, quiet.none_again_passed)

pub returns-clause-time : goal.returns-clause-time
returns-clause-time c = λ server old at out new time. (time.none_due, time.none_again_due)
