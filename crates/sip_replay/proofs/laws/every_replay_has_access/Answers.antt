use Rattle.std.proofs.Common.{None}
use Rattle.sip_replay.specs.Refusals.{moment_ahead}
use Rattle.sip_replay.specs.Replays.{server_with}
use Rattle.sip_replay.proofs.laws.every_replay_has_access.Goals as goal

pub returns-clause-whole : goal.returns-clause-whole
returns-clause-whole c = λ config word first script old new replay. c.every_run_has_access.ensures (server_with config word) first replay.events None replay.steps
    replay.history replay.last replay.is_run

pub returns-clause-refused : goal.returns-clause-refused
returns-clause-refused c = λ config word first script steps comes. c.every_run_has_access.ensures (server_with config word) first comes.events (moment_ahead comes.ahead)
    steps comes.history comes.last comes.is_run
