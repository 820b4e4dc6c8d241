use Rattle.sipd_start.proofs.Beginnings.{goes_alike_apart}
use Rattle.sipd_start.proofs.beginning.begin_shorter.Goals as goal

pub returns-clause-goes_on : goal.returns-clause-goes_on
returns-clause-goes_on g c =
    goes_alike_apart c.args.beginning.now.stated.now.bytes c.args.beginning.now.stated.now.digest c.in_ok-shorter.shorter.led.engine
    c.into_parts-engine.result.0 _ c.in_ok-shorter.shorter.led.last c.into_parts-engine.result.1 c.into_parts-engine.ensures.engine c.into_parts-engine.ensures.last
    c.in_ok-shorter.ensures.leads
