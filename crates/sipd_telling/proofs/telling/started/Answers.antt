use Rattle.std.proofs.Common.{[]}
use Rattle.sip_model.specs.state.State.{first_state}
use Rattle.sip_retell.proofs.of_standings.{standing_is}
use Rattle.sipd_telling.proofs.telling.started.Goals as goal

pub returns-in-Ok-clause-standing : goal.returns-in-Ok-clause-standing
returns-in-Ok-clause-standing g c =
    standing_is c.in-Ok.engine (first_state c.args.head.now.first) [] c.in-Ok.ensures.state c.in-Ok.ensures.timers
