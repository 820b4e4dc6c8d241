use Rattle.std.proofs.Common.{◌≡◌, Some, arith}
use Rattle.sipd_old_record.proofs.first_configuration.first_of.Goals as goal

pub returns-in-Ok-Some-clause-own : goal.returns-in-Ok-Some-clause-own
returns-in-Ok-Some-clause-own g c =
    let there : c.in-Ok-Some.field-0 ≡ Some c.in-Ok-Some.held = grind (arith, c.in-Ok-Some.is, c.in-Ok-Some.field-0-is) in
    (c.in-Ok-Some.held.text, rw there at c.in-Ok-Some.ensures.own)
