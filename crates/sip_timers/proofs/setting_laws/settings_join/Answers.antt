use Rattle.sip_timers.proofs.Setting.{SetsInOrder-none, SetsInOrder-both, SetsInOrder-ordered}
use Rattle.sip_timers.proofs.setting_laws.settings_join.Goals as goal

pub returns-clause-none : goal.returns-clause-none
returns-clause-none c = SetsInOrder-none

pub returns-clause-both : goal.returns-clause-both
returns-clause-both c = SetsInOrder-both

pub returns-clause-ordered : goal.returns-clause-ordered
returns-clause-ordered c = SetsInOrder-ordered
