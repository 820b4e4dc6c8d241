use Rattle.sipd_telling.proofs.Leading.{all_new, alone}
use Rattle.sipd_telling.proofs.laws.a_record_alone_is_its_steps.Goals as goal

pub returns-clause-alone : goal.returns-clause-alone
returns-clause-alone c = λ day reached h. alone day reached h

pub returns-clause-unknown : goal.returns-clause-unknown
returns-clause-unknown c = λ point steps. all_new point steps
