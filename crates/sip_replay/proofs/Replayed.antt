-- What a replay of a record has printed.
use Rattle.std.proofs.Common.{◌≡◌, ◌∙◌, ℕ, List, [], ◌++◌, append_assoc, append-nil, Option, Some, ap, subst, sym}
use Rattle.std.specs.Io.KnownBytes.{Appends}
use Rattle.sip_event.specs.declared.event.Event.{Event}
use Rattle.sip_event.specs.declared.event.StepOut.{StepOut}
use Rattle.sip_config_types.specs.declared.config.Config.{Config}
use Rattle.sip_journal.specs.Segments.{SaysWhole, Segment}
use Rattle.sip_replay_print.specs.Print.{printed}
use Rattle.sip_model.specs.TimerOrder.{Standing, first_standing}
use Rattle.sip_model.specs.state.declared.server.Server.{Server}
use Rattle.sip_model.specs.Ties.{AreOne}
use Rattle.sip_resume.specs.Whole.{TakesWhole}
use Rattle.sip_replay.specs.Records.{IsRecordReplay}
use Rattle.sip_replay.specs.Replays.{server_with}
use Rattle.sip_replay.specs.Recorded.{IsRecordedUnder, PrintsFront, RecordsFront}
use Rattle.sip_replay.proofs.Fronts.{Readings, taken_whole}
use Rattle.sip_replay.proofs.Recorded.{prints_served}

-- what a server takes from its start on is recorded by its text
abbrev taken_recorded : (server server_then : Server) (first : ℕ) (text : List ℕ) (last : Standing) (events : List Event) (segments : List Segment)
    → SaysWhole events segments text
    → (takes : TakesWhole server server_then (first_standing first) last events segments) → IsRecordedUnder server server_then first text takes.runs.steps last
taken_recorded server server_then first text last events segments says takes = record {
  events = events;
  segments = segments;
  periods = takes.periods;
  says = says;
  stated = takes.stated;
  frames = takes.frames;
  history = takes.runs.history;
  is_run = takes.runs.is_run;
  orderly = takes.runs.orderly;
  queue = takes.runs.queue;
  in_force = takes.in_force;
}

-- so is what a replay takes, by as much of its text as says something
pub replayed : (config : Config) (word first : ℕ) (bytes : Option (List ℕ)) (lines : ℕ) (old new : Option (List ℕ))
    → (replay : IsRecordReplay config word first bytes lines old new)
    → IsRecordedUnder (server_with config word) replay.server_then first replay.taken.text replay.taken.takes.runs.steps replay.state
replayed config word first bytes lines old new replay =
    taken_recorded (server_with config word) replay.server_then first replay.taken.text replay.state replay.taken.events replay.taken.segments replay.taken.says
    replay.taken.takes

-- of a record that is a record as it stands, that is all of it
pub replayed_whole : Readings → (config : Config) (word first : ℕ) (now : Server) (text : List ℕ) (steps : List StepOut) (last : Standing) (lines : ℕ)
    (old new : Option (List ℕ)) → IsRecordedUnder (server_with config word) now first text steps last
    → (replay : IsRecordReplay config word first (Some text) lines old new) → IsRecordedUnder (server_with config word) replay.server_then first text
    replay.taken.takes.runs.steps replay.state
replayed_whole r config word first now text steps last lines old new h replay =
    let none : replay.taken.further ≡ [] =
    taken_whole r replay.taken.events h.events replay.taken.segments h.segments replay.taken.text replay.taken.further replay.taken.says
    (subst (λ (l : List ℕ). SaysWhole h.events h.segments l) replay.taken.whole h.says) replay.taken.ends in
    let same : replay.taken.text ≡ text = sym (replay.taken.whole ∙ ap (λ (l : List ℕ). replay.taken.text ++ l) none ∙ append-nil replay.taken.text) in
    subst (λ (l : List ℕ). IsRecordedUnder (server_with config word) replay.server_then first l replay.taken.takes.runs.steps replay.state) same
    (replayed config word first (Some text) lines old new replay)

-- of a record that was cut
pub prints_front : (server : Server) (first : ℕ) (text : List ℕ) (steps others : List StepOut) (end : Standing) (old new : Option (List ℕ))
    → Appends old new (printed others) → (front : RecordsFront server first text steps)
    → AreOne front.front others front.last.state end.state → PrintsFront steps old new
prints_front server first text steps others end old new written front one = record {
  front = front.front;
  further = front.further;
  cut = front.cut;
  written = prints_served front.front others front.last.state end.state old new written one;
}

-- its text, and what is lost of the record behind it
pub cut_text : (text further bytes lost : List ℕ) → bytes ≡ text ++ further → bytes ++ lost ≡ text ++ (further ++ lost)
cut_text text further bytes lost whole = ap (λ (l : List ℕ). l ++ lost) whole ∙ append_assoc text further lost
