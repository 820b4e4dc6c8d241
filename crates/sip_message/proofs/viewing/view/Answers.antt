use Rattle.std.proofs.Common.{subst}
use Rattle.sip_message.specs.Reading.{Gives}
use Rattle.sip_message.proofs.SaysLaws.{is_said, is_refused, reading_is}
use Rattle.sip_message.proofs.viewing.view.Goals as goal

pub returns-clause-said : goal.returns-clause-said
returns-clause-said c = is_said c.args.bytes.now c.view_bytes.result c.view_bytes.ensures

pub returns-clause-only : goal.returns-clause-only
returns-clause-only c = λ m says within. subst (λ r. Gives (λ m. m) c.view_bytes.result r) (reading_is c.args.bytes.now m says within) c.view_bytes.ensures

pub returns-clause-refused : goal.returns-clause-refused
returns-clause-refused c = is_refused c.args.bytes.now c.view_bytes.result c.view_bytes.ensures
