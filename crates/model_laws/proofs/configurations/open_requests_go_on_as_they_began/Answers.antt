use Rattle.std.proofs.Common.{refl}
use Rattle.model_laws.proofs.configurations.open_requests_go_on_as_they_began.Goals as goal

pub returns-clause-requests : goal.returns-clause-requests
returns-clause-requests c = λ server config again r b. refl

pub returns-clause-acks : goal.returns-clause-acks
returns-clause-acks c = λ server config again r b to. refl

pub returns-clause-answers : goal.returns-clause-answers
returns-clause-answers c = λ server config number m from status extras. refl

pub returns-clause-best : goal.returns-clause-best
returns-clause-best c = λ server config r best. refl

pub returns-clause-responses : goal.returns-clause-responses
returns-clause-responses c = λ server config requests fields. refl
