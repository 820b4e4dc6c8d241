use Rattle.sipd_sources.proofs.Owning.{others_change_nothing, told_by_own}
use Rattle.sipd_sources.proofs.laws.an_address_is_told_by_its_own_datagrams.Goals as goal

pub returns-clause-day : goal.returns-clause-day
returns-clause-day c = λ chosen day ip all one. told_by_own chosen day ip all one

pub returns-clause-others : goal.returns-clause-others
returns-clause-others c = λ known step ip two one isnt. others_change_nothing known step ip two one isnt
