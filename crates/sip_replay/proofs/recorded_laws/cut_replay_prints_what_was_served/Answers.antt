use Rattle.std.proofs.Common.{◌++◌, List, ℕ, Some, subst}
use Rattle.sip_replay.specs.Replays.{server_with}
use Rattle.sip_replay.specs.Recorded.{IsRecordedUnder}
use Rattle.sip_replay.proofs.Replayed.{cut_text, prints_front, replayed}
use Rattle.sip_replay.proofs.recorded_laws.cut_replay_prints_what_was_served.Goals as goal

pub returns : goal.returns
returns c = λ config word first now bytes lost steps last lines old new h replay.
    let whole = subst (λ (l : List ℕ). IsRecordedUnder (server_with config word) now first l steps last)
    (cut_text replay.taken.text replay.taken.further bytes lost replay.taken.whole) h in
    let front =
    c.front_is_recorded.ensures (server_with config word) now first replay.taken.text (replay.taken.further ++ lost) steps last replay.taken.events replay.taken.segments
    whole replay.taken.says in
    prints_front (server_with config word) first replay.taken.text steps replay.taken.takes.runs.steps replay.state old new replay.taken.shown front
    (c.records_are_one.ensures.steps (server_with config word) front.server_then replay.server_then first replay.taken.text front.front replay.taken.takes.runs.steps
    front.last replay.state front.recorded
    (replayed config word first (Some bytes) lines old new replay))
