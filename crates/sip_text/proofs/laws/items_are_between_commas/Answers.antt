use Rattle.sip_text.specs.Lists.{cut}
use Rattle.sip_text.specs.ListText.{IsList}
use Rattle.sip_text.proofs.NoneLaws.{none_both}
use Rattle.sip_text.proofs.ListLaws.{list_both}
use Rattle.sip_text.proofs.laws.items_are_between_commas.Goals as goal

pub returns-clause-items : goal.returns-clause-items
returns-clause-items c = list_both

pub returns-clause-refused : goal.returns-clause-refused
returns-clause-refused c = λ text. none_both (IsList text) (cut text) (list_both text)
