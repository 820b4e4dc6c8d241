use Rattle.std.proofs.Common.{refl}
use Rattle.sip_record_omitted.proofs.examples.text_with_two_left_out.Goals as goal

pub returns-clause-two : goal.returns-clause-two
returns-clause-two c = refl

pub returns-clause-nothing : goal.returns-clause-nothing
returns-clause-nothing c = refl

pub returns-clause-behind : goal.returns-clause-behind
returns-clause-behind c = refl
