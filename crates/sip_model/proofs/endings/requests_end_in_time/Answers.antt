use Rattle.sip_model.proofs.EndingHistories.{chain_ends_in_time}
use Rattle.sip_model.proofs.endings.requests_end_in_time.Goals as goal

pub returns : goal.returns
returns c =
    chain_ends_in_time c.steps_have_parts.ensures c.requests_can_end.ensures.waits c.requests_can_end.ensures.has_deadline c.no_deadline_passed.ensures.none_before
    c.no_deadline_passed.ensures.none_again
    c.no_deadline_passed.ensures.has_fired
