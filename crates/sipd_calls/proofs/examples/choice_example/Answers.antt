use Rattle.std.proofs.Common.{refl}
use Rattle.std.specs.Fmt.{digits}
use Rattle.sipd_report.specs.Calendar.{day_behind}
use Rattle.sipd_calls.proofs.examples.choice_example.Goals as goal

pub returns-clause-since : goal.returns-clause-since
unfolding digits day_behind
returns-clause-since c = refl

pub returns-clause-later : goal.returns-clause-later
unfolding digits day_behind
returns-clause-later c = refl

pub returns-clause-until : goal.returns-clause-until
unfolding digits day_behind
returns-clause-until c = refl

pub returns-clause-user : goal.returns-clause-user
unfolding digits day_behind
returns-clause-user c = refl

pub returns-clause-whole : goal.returns-clause-whole
unfolding digits day_behind
returns-clause-whole c = refl

pub returns-clause-other : goal.returns-clause-other
unfolding digits day_behind
returns-clause-other c = refl

pub returns-clause-ip : goal.returns-clause-ip
unfolding digits day_behind
returns-clause-ip c = refl

pub returns-clause-port : goal.returns-clause-port
unfolding digits day_behind
returns-clause-port c = refl

pub returns-clause-elsewhere : goal.returns-clause-elsewhere
unfolding digits day_behind
returns-clause-elsewhere c = refl
