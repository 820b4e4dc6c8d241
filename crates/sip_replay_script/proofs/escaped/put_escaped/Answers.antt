use Rattle.std.proofs.Common.{◌∙◌}
use Rattle.sip_replay_script.proofs.escaped.put_escaped.Goals as goal

pub returns-clause-put : goal.returns-clause-put
returns-clause-put c = c.put_rest.ensures.put ∙ c.put_by_lanes-front.ensures.put
