use Rattle.sip_text.proofs.PartLaws.{are_parted, only_parts}
use Rattle.sip_text.proofs.laws.parts_make_up_a_text.Goals as goal

pub returns-clause-parted : goal.returns-clause-parted
returns-clause-parted c = are_parted

pub returns-clause-only : goal.returns-clause-only
returns-clause-only c = only_parts
