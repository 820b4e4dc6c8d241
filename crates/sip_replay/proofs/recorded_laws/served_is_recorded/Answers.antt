use Rattle.std.proofs.Common.{◌++◌}
use Rattle.sip_loop.specs.Serving.{event_told, gathered, steps_taken}
use Rattle.sip_replay.proofs.Recorded.{noted_text, nothing_recorded, served_on}
use Rattle.sip_replay.proofs.recorded_laws.served_is_recorded.Goals as goal

pub returns-clause-begins : goal.returns-clause-begins
returns-clause-begins c = nothing_recorded

pub returns-clause-goes_on : goal.returns-clause-goes_on
returns-clause-goes_on c = λ server now first text steps turns old new before after front more h served was is.
    served_on c.runs_join.ensures c.script_says_one_list.ensures.one c.written_event_is_recorded.ensures.all server now first text steps
    (gathered steps_taken served.done) old new front more (gathered event_told served.done) h
    (noted_text before.journal.bytes after.journal.bytes front more (gathered event_told served.done) was is served.serves.told.noted)
    (c.replayed_is_served.ensures.served turns now old new before after front (front ++ more) served was is)
