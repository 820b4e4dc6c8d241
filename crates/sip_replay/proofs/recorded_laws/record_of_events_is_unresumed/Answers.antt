use Rattle.sip_replay_script.specs.Lines.{IsSpent}
use Rattle.sip_replay.proofs.Unresumed.{events_unresumed}
use Rattle.sip_replay.proofs.recorded_laws.record_of_events_is_unresumed.Goals as goal

pub returns : goal.returns
returns g c = λ server server_then old new longest reader asks bytes outs outs_then e refused none begins.
    events_unresumed c.under_one_is_a_run.ensures server server_then old new longest (IsSpent (g.I.TellingReader.has_failed reader) asks) bytes outs outs_then e refused
    none begins
