use Rattle.std.proofs.Common.{refl}
use Rattle.sip_guard.proofs.examples.full_table_example.Goals as goal

pub returns-clause-kept : goal.returns-clause-kept
returns-clause-kept c = refl

pub returns-clause-none : goal.returns-clause-none
returns-clause-none c = refl

pub returns-clause-idle : goal.returns-clause-idle
returns-clause-idle c = refl
