use Rattle.sip_replay.proofs.OfEvents.{events_alone}
use Rattle.sip_replay.proofs.scripts.record_of_events_is_a_script.Goals as goal

pub returns : goal.returns
returns c = events_alone c.under_one_is_a_run.ensures c.record_says_one_list.ensures.whole c.written_event_is_recorded.ensures.all
