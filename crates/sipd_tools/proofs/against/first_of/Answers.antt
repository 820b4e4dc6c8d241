use Rattle.std.proofs.Common.{◌≡◌, None, Some, arith}
use Rattle.sipd_tools.proofs.against.first_of.Goals as goal

pub returns-in-Ok-Some-clause-first : goal.returns-in-Ok-Some-clause-first
returns-in-Ok-Some-clause-first g c =
    let there : c.in-Ok-Some.field-0 ≡ Some c.in-Ok-Some.held = grind (arith, c.in-Ok-Some.is, c.in-Ok-Some.field-0-is) in
    (c.in-Ok-Some.held.text, rw there at c.in-Ok-Some.ensures.own)

pub returns-in-Ok-None-clause-first : goal.returns-in-Ok-None-clause-first
returns-in-Ok-None-clause-first g c =
    let there : c.in-Ok-None.field-0 ≡ None = grind (arith, c.in-Ok-None.is, c.in-Ok-None.field-0-is) in
    rw there at c.in-Ok-None.ensures.none
