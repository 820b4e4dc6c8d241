use Rattle.sip_replay.proofs.Cut.{front_recorded}
use Rattle.sip_replay.proofs.recorded_laws.front_is_recorded.Goals as goal

pub returns : goal.returns
returns c =
    front_recorded
    (record {
      one = c.next_event_is_one.ensures.one;
      something = c.next_event_is_one.ensures.something;
      recorded = c.written_event_is_recorded.ensures.one;
      one_configuration = c.next_configuration_is_one.ensures.one;
      no_event = c.next_configuration_is_one.ensures.no_event;
    })
