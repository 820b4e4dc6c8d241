use Rattle.sip_model.proofs.Asking.{bindings_asked, credentials_asked, dialogs_asked, nonces_asked, requests_asked}
use Rattle.sip_model.proofs.sameness_laws.what_is_asked_is_the_same.Goals as goal

pub returns-clause-bindings : goal.returns-clause-bindings
returns-clause-bindings c = bindings_asked

pub returns-clause-nonces : goal.returns-clause-nonces
returns-clause-nonces c = nonces_asked

pub returns-clause-credentials : goal.returns-clause-credentials
returns-clause-credentials c = credentials_asked

pub returns-clause-dialogs : goal.returns-clause-dialogs
returns-clause-dialogs c = dialogs_asked c.in_dialog_same.ensures

pub returns-clause-requests : goal.returns-clause-requests
returns-clause-requests c = requests_asked

pub returns-clause-next : goal.returns-clause-next
returns-clause-next c = λ left right h. h.next
