-- A record that holds no configuration.
use Rattle.std.proofs.Common.{◌≡◌, ◌↔◌, ℕ, ◌+◌, List, [], ◌∷◌, ◌++◌, Option, None, Some, sym, ◌∙◌, ap, subst, zero-add, append-nil}
use Rattle.std.specs.Prelude.{IfSome, count_by}
use Rattle.sip_event.specs.declared.event.Event.{Event}
use Rattle.sip_event.specs.declared.event.StepOut.{StepOut}
use Rattle.sip_config_types.specs.declared.config.Config.{Config}
use Rattle.sip_model.specs.state.declared.server.Server.{Server}
use Rattle.sip_model.specs.state.declared.proxy_state.ProxyState.{ProxyState}
use Rattle.sip_model.specs.TimerOrder.{Standing}
use Rattle.sip_model.specs.Run.{Link, IsRun, under}
use Rattle.sip_model.specs.Periods.{IsRunUnder, Period}
use Rattle.sip_replay_script.specs.Lines.{is_end}
use Rattle.sip_replay_script.specs.Recorded.{SaysRecord}
use Rattle.sip_journal.specs.Segments.{Segment, SaysWhole}
use Rattle.sip_journal.specs.Record.{GrewKnown, Notes, NotesSegments}
use Rattle.sip_resume.specs.Outputs.{Outputs}
use Rattle.sip_resume.specs.Resumes.{EndsHere, IsResumed, Runs, newest_step}
use Rattle.sip_resume.specs.Whole.{AreStated, IsRecordResumed, NotesWhole, RunsUnder, TakesWhole, config_behind}

abbrev pub OneIsARun : Type 0
OneIsARun =
    (server : Server) (first : ProxyState) (config : Config) (events : List Event) (until : Option ℕ) (steps : List StepOut) (history : List Link) (last : ProxyState)
    → (IsRunUnder server first (record { config = config; events = events } ∷ []) until steps history last ↔ IsRun (under server config) first events until steps history
    last)

-- ---- what the journal was told

text_of : (text all front : List ℕ) → text ≡ [] → all ≡ front ++ text → all ≡ front
text_of text all front none grown = grown ∙ ap (λ (t : List ℕ). front ++ t) none ∙ append-nil front

known_same : (events : List Event) (old mid new : Option (List ℕ)) → GrewKnown (SaysRecord events) old mid → GrewKnown (λ text. text ≡ []) mid new
    → GrewKnown (SaysRecord events) old new
known_same events None mid new h k = tt
known_same events (Some front) None new h k = absurd h
known_same events (Some front) (Some half) None h k = absurd k
known_same events (Some front) (Some half) (Some all) h k = record { text = h.text; says = h.says; grown = text_of k.text all half k.says k.grown ∙ h.grown }

noted_same : (events : List Event) (old mid new : Option (Option (List ℕ))) → Notes old mid events → NotesSegments mid new [] → Notes old new events
noted_same events old mid None h k = tt
noted_same events old None (Some new) h k = absurd k
noted_same events None (Some mid) (Some new) h k = absurd h
noted_same events (Some old) (Some mid) (Some new) h k = known_same events old mid new h k

-- ---- what the server did

record RunsSo (server : Server) (old new : Standing) (events : List Event) (last : Option StepOut) : Type 0 where
  runs : Runs server old new events None
  last_is : newest_step runs.history ≡ last

runs_so : OneIsARun → (server : Server) (old new : Standing) (events : List Event) (last : Option StepOut)
    → (h : RunsUnder server old new (record { config = server.config; events = events } ∷ [])) → newest_step h.history ≡ last → RunsSo server old new events last
runs_so one server old new events last h newest = record {
  runs = record {
    steps = h.steps;
    history = h.history;
    is_run = (one server old.state server.config events None h.steps h.history new.state).0 h.is_run;
    orderly = h.orderly;
    queue = h.queue;
  };
  last_is = newest;
}

-- ---- both

record IsBoth (server server_then : Server) (old new : Standing) (events : List Event) (last : Option StepOut) : Type 0 where
  so : RunsSo server old new events last
  same : server_then ≡ server

takes_so : OneIsARun → (server server_then : Server) (old new : Standing) (events : List Event) (last : Option StepOut)
    (h : TakesWhole server server_then old new events []) → newest_step h.runs.history ≡ last → IsBoth server server_then old new events last
takes_so one server server_then old new events last h newest = takes_by one server server_then old new events last h.periods h.stated h.runs newest h.in_force where
  takes_by : OneIsARun → (server server_then : Server) (old new : Standing) (events : List Event) (last : Option StepOut) (periods : List Period) → AreStated [] periods
      → (runs : RunsUnder server old new (record { config = server.config; events = events } ∷ periods))
      → newest_step runs.history ≡ last → server_then ≡ record { config = config_behind server.config periods; word = server.word }
      → IsBoth server server_then old new events last
  takes_by one server server_then old new events last [] stated runs newest same = record { so = runs_so one server old new events last runs newest; same = same }
  takes_by one server server_then old new events last (period ∷ periods) stated runs newest same = absurd stated

says_so : (events : List Event) (text : List ℕ) → SaysWhole events [] text → SaysRecord events text
says_so events text h = subst (λ (t : List ℕ). SaysRecord events t) (sym (h.cut ∙ ap (λ (t : List ℕ). h.taken ++ t) h.others ∙ append-nil h.taken)) h.says

-- of the parts of it
pub record WithoutSegments (server server_then : Server) (old new : Standing) (events : List Event) (segments : List Segment) (text : List ℕ)
    (written written_then : Option (Option (List ℕ))) (last : Option StepOut) : Type 0 where
  says : SaysWhole events segments text
  takes : TakesWhole server server_then old new events segments
  last_is : newest_step takes.runs.history ≡ last
  noted : NotesWhole written written_then events segments

none_so : OneIsARun → (server server_then : Server) (old new : Standing) (bytes : Option (List ℕ)) (events : List Event) (text further : List ℕ)
    (written written_then : Option (Option (List ℕ))) (lines : ℕ) (last : Option StepOut)
    → WithoutSegments server server_then old new events [] text written written_then last → IfSome bytes (λ all. all ≡ text ++ further) → EndsHere further
    → lines ≡ 0 + count_by is_end text
    → IsResumed server old new bytes written written_then lines last × (server_then ≡ server)
none_so one server server_then old new bytes events text further written written_then lines last h whole ends counted =
    let both = takes_so one server server_then old new events last h.takes h.last_is in (
      record {
        text = text;
        further = further;
        events = events;
        whole = whole;
        says = says_so events text h.says;
        ends = ends;
        runs = both.so.runs;
        noted = noted_same events written h.noted.between written_then h.noted.told h.noted.told_then;
        counted = counted ∙ zero-add (count_by is_end text);
        last_is = both.so.last_is;
      },
      both.same,
    )

pub events_resumed : OneIsARun → (server server_then : Server) (old new : Standing) (bytes : Option (List ℕ)) (outs outs_then : Outputs) (lines : ℕ)
    (last : Option StepOut) → (h : IsRecordResumed server server_then old new bytes 0 outs outs_then lines last)
    → h.segments ≡ [] → EndsHere h.further → IsResumed server old new bytes outs.written outs_then.written lines last × (server_then ≡ server)
events_resumed one server server_then old new bytes outs outs_then lines last h none ends =
    let all : WithoutSegments server server_then old new h.events h.segments h.text outs.written outs_then.written last =
    record { says = h.says; takes = h.takes; last_is = h.last_is; noted = h.noted } in
    none_so one server server_then old new bytes h.events h.text h.further outs.written outs_then.written lines last
    (subst (λ (segments : List Segment). WithoutSegments server server_then old new h.events segments h.text outs.written outs_then.written last) none all) h.whole ends
    h.counted
