use Rattle.sip_replay.proofs.OneList.{one_list, no_list}
use Rattle.sip_replay.proofs.laws.script_says_one_list.Goals as goal

pub returns-clause-one : goal.returns-clause-one
returns-clause-one c = one_list c.next_event_is_one.ensures.one c.next_event_is_one.ensures.something

pub returns-clause-refused : goal.returns-clause-refused
returns-clause-refused c =
    no_list c.next_event_is_one.ensures.one c.next_event_is_one.ensures.something c.event_is_no_refusal.ensures.none c.event_is_no_refusal.ensures.something
