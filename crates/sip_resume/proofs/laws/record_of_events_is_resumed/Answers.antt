use Rattle.sip_resume.proofs.OfEvents.{events_resumed}
use Rattle.sip_resume.proofs.laws.record_of_events_is_resumed.Goals as goal

pub returns : goal.returns
returns c = λ server server_then old new bytes outs outs_then lines last resumed none ends.
    events_resumed c.under_one_is_a_run.ensures server server_then old new bytes outs outs_then lines last resumed none ends
