use Rattle.sip_text.proofs.CutsOutside.{parts_split, one_part, is_shorter}
use Rattle.sip_text.proofs.cuts.first_part.Goals as goal

pub returns-in-Some-clause-parts : goal.returns-in-Some-clause-parts
returns-in-Some-clause-parts c = parts_split c.args.mark c.args.bytes.now c.in-Some.part.now c.in-Some.rest.now c.in-Some.ensures

pub returns-in-Some-clause-shorter : goal.returns-in-Some-clause-shorter
returns-in-Some-clause-shorter c = is_shorter c.args.mark c.args.bytes.now c.in-Some.part.now c.in-Some.rest.now c.in-Some.ensures

pub returns-in-None-clause-parts : goal.returns-in-None-clause-parts
returns-in-None-clause-parts c = one_part c.args.mark c.args.bytes.now c.in-None.ensures
