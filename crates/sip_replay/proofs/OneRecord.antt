-- A record that is replayed is one that a server takes from its start on.
use Rattle.std.proofs.Common.{◌≡◌, inr, ℕ, List, Option, subst}
use Rattle.sip_event.specs.declared.event.Event.{Event}
use Rattle.sip_event.specs.declared.event.StepOut.{StepOut}
use Rattle.sip_config_types.specs.declared.config.Config.{Config}
use Rattle.sip_model.specs.state.declared.server.Server.{Server}
use Rattle.sip_model.specs.TimerOrder.{Standing, first_standing}
use Rattle.sip_model.specs.Access.{Access}
use Rattle.sip_model.specs.Bounds.{IsBounded}
use Rattle.sip_journal.specs.Segments.{Segment}
use Rattle.sip_resume.specs.Whole.{IsRecordResumed, IsRecordUnresumed, TakesWhole}
use Rattle.sip_resume.specs.declared.record_error.RecordError.{RecordError}
use Rattle.sip_replay.specs.Replays.{server_with}
use Rattle.sip_replay.specs.Records.{IsRecordReplay, IsRecordUnreplayed, written_alone}

abbrev pub RecordIsLawful : Type 0
RecordIsLawful =
    (server server_then : Server) (first : ℕ) (new : Standing) (events : List Event) (segments : List Segment)
    → (takes : TakesWhole server server_then (first_standing first) new events segments)
    → Access server takes.runs.history × IsBounded server takes.runs.history

by_law : RecordIsLawful → (config : Config) (word first : ℕ) (server_then : Server) (state : Standing) (bytes : Option (List ℕ)) (lines lines_then : ℕ)
    (a b : Option (List ℕ)) (last : Option StepOut)
    → IsRecordResumed (server_with config word) server_then (first_standing first) state bytes lines (written_alone a) (written_alone b) lines_then last
    → IsRecordReplay config word first bytes lines a b
by_law law config word first server_then state bytes lines lines_then a b last h =
    let so = law (server_with config word) server_then first state h.events h.segments h.takes in
    record { server_then = server_then; state = state; lines_then = lines_then; last = last; taken = h; access = so.0; bounded = so.1 }

-- of the server that was opened
pub replayed : RecordIsLawful → (config : Config) (word first : ℕ) (server server_then : Server) (old state : Standing) (bytes : Option (List ℕ)) (lines lines_then : ℕ)
    (a b : Option (List ℕ)) (last : Option StepOut) → server ≡ server_with config word → old ≡ first_standing first
    → IsRecordResumed server server_then old state bytes lines (written_alone a) (written_alone b) lines_then last → IsRecordReplay config word first bytes lines a b
replayed law config word first server server_then old state bytes lines lines_then a b last is begins h =
    by_law law config word first server_then state bytes lines lines_then a b last
    (subst (λ (s : Server). IsRecordResumed s server_then (first_standing first) state bytes lines (written_alone a) (written_alone b) lines_then last) is
    (subst (λ (s : Standing). IsRecordResumed server server_then s state bytes lines (written_alone a) (written_alone b) lines_then last) begins h))

refused_by_law : RecordIsLawful → (config : Config) (word first : ℕ) (server_then : Server) (state : Standing) (longest : ℕ) (F : Type 0) (bytes : Option (List ℕ))
    (lines : ℕ) (a b : Option (List ℕ)) (e : RecordError)
    → IsRecordUnresumed (server_with config word) server_then (first_standing first) state longest F bytes lines (written_alone a) (written_alone b) e
    → IsRecordUnreplayed config word first longest F bytes lines a b e
refused_by_law law config word first server_then state longest F bytes lines a b e h =
    let so = law (server_with config word) h.in_force first h.reached h.events h.segments h.takes in
    inr (record { server_then = server_then; state = state; stopped = h; access = so.0; bounded = so.1 })

pub unreplayed : RecordIsLawful → (config : Config) (word first : ℕ) (server server_then : Server) (old state : Standing) (longest : ℕ) (F : Type 0)
    (bytes : Option (List ℕ)) (lines : ℕ) (a b : Option (List ℕ)) (e : RecordError) → server ≡ server_with config word
    → old ≡ first_standing first → IsRecordUnresumed server server_then old state longest F bytes lines (written_alone a) (written_alone b) e
    → IsRecordUnreplayed config word first longest F bytes lines a b e
unreplayed law config word first server server_then old state longest F bytes lines a b e is begins h =
    refused_by_law law config word first server_then state longest F bytes lines a b e
    (subst (λ (s : Server). IsRecordUnresumed s server_then (first_standing first) state longest F bytes lines (written_alone a) (written_alone b) e) is
    (subst (λ (s : Standing). IsRecordUnresumed server server_then s state longest F bytes lines (written_alone a) (written_alone b) e) begins h))
