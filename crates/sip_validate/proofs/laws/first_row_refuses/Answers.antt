use Rattle.sip_validate.proofs.Serving.{served_is, refused_is}
use Rattle.sip_validate.proofs.laws.first_row_refuses.Goals as goal

pub returns-clause-served : goal.returns-clause-served
returns-clause-served c = served_is

pub returns-clause-refused : goal.returns-clause-refused
returns-clause-refused c = refused_is
