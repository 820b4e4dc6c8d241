use Rattle.sip_timers.proofs.Setting.{SetsInOrder-started, SetsInOrder-stopped}
use Rattle.sip_timers.proofs.setting_laws.one_is_set.Goals as goal

pub returns-clause-started : goal.returns-clause-started
returns-clause-started c = SetsInOrder-started

pub returns-clause-stopped : goal.returns-clause-stopped
returns-clause-stopped c = SetsInOrder-stopped
