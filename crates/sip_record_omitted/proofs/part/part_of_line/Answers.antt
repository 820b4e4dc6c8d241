use Rattle.sip_record_omitted.proofs.Parts.{whole_part}
use Rattle.sip_record_omitted.proofs.part.part_of_line.Goals as goal

pub returns-in-Some : goal.returns-in-Some
returns-in-Some c = whole_part _ _ _ c.in-Some.ensures c.if-place-most.true
