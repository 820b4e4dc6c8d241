use Rattle.sip_replay.specs.Replays.{server_with}
use Rattle.sip_replay.proofs.laws.every_replay_is_bounded.Goals as goal

pub returns-clause-whole : goal.returns-clause-whole
returns-clause-whole c = λ config word first script old new replay. c.every_history_is_bounded.ensures (server_with config word) first replay.history replay.last
    replay.is_run.chain

pub returns-clause-refused : goal.returns-clause-refused
returns-clause-refused c = λ config word first script steps comes. c.every_history_is_bounded.ensures (server_with config word) first comes.history comes.last
    comes.is_run.chain
