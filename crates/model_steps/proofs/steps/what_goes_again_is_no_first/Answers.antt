use Rattle.model_steps.proofs.steps.what_goes_again_is_no_first.Goals as goal

pub returns-clause-firsts : goal.returns-clause-firsts
returns-clause-firsts c = λ server old at out new resend. resend.does.sends

pub returns-clause-records : goal.returns-clause-records
returns-clause-records c = λ server old at out new resend. resend.does.records

pub returns-clause-state : goal.returns-clause-state
returns-clause-state c = λ server old at out new resend. resend.does.leaves
