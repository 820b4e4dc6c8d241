use Rattle.sip_resume.specs.run.Due.{standing_of}
use Rattle.sipd_start.proofs.Beginnings.{goes_on_after}
use Rattle.sipd_start.proofs.compacting.lead.Goals as goal

pub returns-clause-goes_on : goal.returns-clause-goes_on
returns-clause-goes_on g c =
    goes_on_after c.in_ok-old.old.lines.first _ _ c.args.head.now _ c.boot_again-boot.result _ c.in_ok-old.old.lines.lines _ c.in_ok-old.old.config
    c.in_ok-engine.engine.server _ (standing_of c.in_ok-engine.engine) _ _ _ _ _
    c.boot_again-boot.ensures.boot c.in_ok-old.ensures.states c.in_ok-engine.ensures.server c.in_ok-engine.ensures.standing c.in_ok-old.ensures.begun
    c.in_ok-resumed.ensures.taken
