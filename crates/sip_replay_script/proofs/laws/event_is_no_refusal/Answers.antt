use Rattle.std.proofs.Common.{◌++◌, refl}
use Rattle.sip_replay_script.proofs.OneReading.{no_refusal, refuses_something}
use Rattle.sip_replay_script.proofs.laws.event_is_no_refusal.Goals as goal

pub returns-clause-none : goal.returns-clause-none
returns-clause-none c = λ text more event says none. no_refusal text more (text ++ more) event says refl none

pub returns-clause-something : goal.returns-clause-something
returns-clause-something c = refuses_something
