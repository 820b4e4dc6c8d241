use Rattle.sip_state.proofs.Sameness.{bindings_alike, credentials_alike, requests_alike, in_dialog_alike}
use Rattle.sip_state.proofs.laws.same_states_answer_alike.Goals as goal

pub returns-clause-bindings : goal.returns-clause-bindings
returns-clause-bindings c = bindings_alike

pub returns-clause-credentials : goal.returns-clause-credentials
returns-clause-credentials c = credentials_alike

pub returns-clause-requests : goal.returns-clause-requests
returns-clause-requests c = requests_alike

pub returns-clause-dialogs : goal.returns-clause-dialogs
returns-clause-dialogs c = in_dialog_alike

pub returns-clause-next : goal.returns-clause-next
returns-clause-next c = λ left right h. h.next
