use Rattle.sip_replay.specs.Replays.{server_with}
use Rattle.sip_replay.proofs.Recorded.{prints_served}
use Rattle.sip_replay.proofs.OfEvents.{replayed}
use Rattle.sip_replay.proofs.scripts.replay_prints_what_was_taken.Goals as goal

pub returns : goal.returns
returns c = λ config word first text steps last old new h replay.
    prints_served steps replay.steps last replay.last old new replay.written
    (c.scripts_are_one.ensures (server_with config word) first text steps replay.steps last replay.last h (replayed config word first text old new replay))
