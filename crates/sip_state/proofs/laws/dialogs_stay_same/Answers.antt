use Rattle.sip_state.proofs.Sameness.{after_request_same, after_answers_same, after_leaving_same}
use Rattle.sip_state.proofs.laws.dialogs_stay_same.Goals as goal

pub returns-clause-request : goal.returns-clause-request
returns-clause-request c = after_request_same

pub returns-clause-answers : goal.returns-clause-answers
returns-clause-answers c = after_answers_same

pub returns-clause-leaving : goal.returns-clause-leaving
returns-clause-leaving c = after_leaving_same
