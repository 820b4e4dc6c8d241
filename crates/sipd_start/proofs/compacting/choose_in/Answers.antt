use Rattle.sip_resume.specs.run.Due.{standing_of}
use Rattle.sipd_start.proofs.Made.{led_still, still_made}
use Rattle.sipd_start.specs.Begins.{IsServerOf}
use Rattle.sipd_start.proofs.compacting.choose_in.Goals as goal

pub returns-clause-goes_on : goal.returns-clause-goes_on
returns-clause-goes_on g c =
    led_still c.checked.result c.choose-chosen.result (λ a. a.led.engine.server) (λ a. standing_of a.led.engine) (λ a. a.led.lines) (λ a. a.led.last)
    c.args.stated.now.bytes c.args.stated.now.digest _ c.checked.ensures c.choose-chosen.ensures.goes_on

pub returns-clause-server : goal.returns-clause-server
returns-clause-server g c =
    still_made c.checked.result c.choose-chosen.result (λ a. IsServerOf c.args.stated.now.bytes a.led.word a.led.engine.server) c.checked.ensures c.choose-chosen.ensures.server
