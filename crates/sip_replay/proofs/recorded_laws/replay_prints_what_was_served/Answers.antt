use Rattle.sip_replay.specs.Replays.{server_with}
use Rattle.sip_replay.proofs.Recorded.{prints_served}
use Rattle.sip_replay.proofs.Replayed.{replayed_whole}
use Rattle.sip_replay.proofs.recorded_laws.replay_prints_what_was_served.Goals as goal

pub returns : goal.returns
returns c = λ config word first now text steps last lines old new h replay.
    prints_served steps replay.taken.takes.runs.steps last.state replay.state.state old new replay.taken.shown
    (c.records_are_one.ensures.steps (server_with config word) now replay.server_then first text steps replay.taken.takes.runs.steps last replay.state h
    (replayed_whole
    (record {
      one = c.next_event_is_one.ensures.one;
      something = c.next_event_is_one.ensures.something;
      recorded = c.written_event_is_recorded.ensures.one;
      one_configuration = c.next_configuration_is_one.ensures.one;
      no_event = c.next_configuration_is_one.ensures.no_event;
    })
    config word first now text steps last lines old new h replay))
