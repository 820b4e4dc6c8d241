-- A record of events alone that isn't taken further.
use Rattle.std.proofs.Common.{◌≡◌, ◌∙◌, inl, inr, ℕ, ◌+◌, List, [], ◌∷◌, ◌++◌, append-nil, zero-add, Option, None, Some, refl, sym, ap, subst}
use Rattle.std.specs.Prelude.{IfSome, count_by}
use Rattle.sip_event.specs.declared.event.Event.{Event}
use Rattle.sip_replay_script.specs.Lines.{is_end}
use Rattle.sip_replay_script.specs.Recorded.{IsDamagedRecord, SaysRecord}
use Rattle.sip_journal.specs.Configurations.{IsLongConfiguration}
use Rattle.sip_journal.specs.Segments.{Segment, SaysWhole}
use Rattle.sip_segment_config.specs.Last.{IsDamagedPart}
use Rattle.sip_segment_config.specs.Stops.{IsNext}
use Rattle.sip_journal.specs.Record.{GrewKnown, Notes, NotesSegments}
use Rattle.sip_model.specs.state.declared.server.Server.{Server}
use Rattle.sip_model.specs.TimerOrder.{Standing}
use Rattle.sip_model.specs.Periods.{Period}
use Rattle.sip_resume.specs.Outputs.{Outputs, Shows}
use Rattle.sip_resume.specs.RecordErrors.{record_error_of}
use Rattle.sip_resume.specs.Resumes.{ResumeStops, Runs}
use Rattle.sip_resume.specs.Whole.{AreStated, IsRecordUnresumed, NotesWhole, RecordStops, RunsUnder, TakesWhole, config_behind}
use Rattle.sip_resume.specs.declared.error.ResumeError.{ResumeError}
use Rattle.sip_resume.specs.declared.error.ResumeError.TheVariants as refusals
use Rattle.sip_resume.specs.declared.record_error.RecordError.{RecordError}
use Rattle.sip_resume.specs.declared.record_error.RecordError.TheVariants.{NoMemory, Damaged, Read, Step, Journal, TooLong, NoConfiguration, OtherFrame, Write}
use Rattle.sip_replay.specs.Unresumed.{BeginsNoConfiguration, IsUnresumed}
use Rattle.sip_replay.proofs.OfEvents.{OneIsARun}

-- ---- what is left

no_next : (longest : ℕ) (rest : Option (List ℕ)) (configuration : List ℕ) → BeginsNoConfiguration longest rest → IsNext rest configuration → ⊥
no_next longest rest configuration h next =
    let begins : (further : List ℕ) × (h.bytes ≡ next.text ++ further) = subst (λ (r : Option (List ℕ)).
    IfSome r (λ bytes. (further : List ℕ) × (bytes ≡ next.text ++ further))) h.known next.begins in
    h.none next.text begins.0 configuration begins.1 next.says

not_long : (longest : ℕ) (rest : Option (List ℕ)) → BeginsNoConfiguration longest rest → IfSome rest (IsLongConfiguration longest) → ⊥
not_long longest rest h long = h.short (subst (λ (r : Option (List ℕ)). IfSome r (IsLongConfiguration longest)) h.known long)

damaged_so : (rest : Option (List ℕ)) → IfSome rest IsDamagedPart → IfSome rest IsDamagedRecord
damaged_so None h = tt
damaged_so (Some bytes) h = h.no_event

-- ---- why nothing more is taken of it

record StopsSo (server server_then : Server) (old new : Standing) (spent : Type 0) (rest : Option (List ℕ)) (lines : ℕ) (outs outs_then : Outputs)
    (e : RecordError) : Type 0 where
  refusal : ResumeError
  is_refusal : e ≡ record_error_of refusal
  why : ResumeStops server old new spent rest lines outs outs_then refusal
  same : server_then ≡ server

stops_so : (server server_then : Server) (old new : Standing) (longest : ℕ) (spent : Type 0) (rest : Option (List ℕ)) (lines : ℕ) (outs outs_then : Outputs)
    (e : RecordError) → BeginsNoConfiguration longest rest
    → RecordStops server server_then old new longest spent rest lines outs outs_then e → StopsSo server server_then old new spent rest lines outs outs_then e
stops_so server server_then old new longest spent rest lines outs outs_then NoMemory begins h =
    record { refusal = refusals.NoMemory; is_refusal = refl; why = h.1; same = h.0 }
stops_so server server_then old new longest spent rest lines outs outs_then (Damaged line) begins h =
    record { refusal = refusals.Damaged line; is_refusal = refl; why = (h.state, damaged_so rest h.why, h.at, h.shown); same = h.in_force }
stops_so server server_then old new longest spent rest lines outs outs_then Read begins h =
    record { refusal = refusals.Read; is_refusal = refl; why = (h.1, h.2, h.3); same = h.0 }
stops_so server server_then old new longest spent rest lines outs outs_then Step begins h = record { refusal = refusals.Step; is_refusal = refl; why = h.1; same = h.0 }
stops_so server server_then old new longest spent rest lines outs outs_then Journal begins (inl h) =
    record { refusal = refusals.Journal; is_refusal = refl; why = h.1; same = h.0 }
stops_so server server_then old new longest spent rest lines outs outs_then Journal begins (inr h) = absurd (no_next longest rest h.next.configuration begins h.next.next)
stops_so server server_then old new longest spent rest lines outs outs_then (TooLong line) begins h = absurd (not_long longest rest begins h.why)
stops_so server server_then old new longest spent rest lines outs outs_then (NoConfiguration line e) begins h =
    absurd (no_next longest rest h.why.configuration begins h.why.next)
stops_so server server_then old new longest spent rest lines outs outs_then (OtherFrame line key) begins h =
    absurd (no_next longest rest h.why.configuration begins h.why.next)
stops_so server server_then old new longest spent rest lines outs outs_then Write begins h = record { refusal = refusals.Write; is_refusal = refl; why = h.1; same = h.0 }

-- ---- what was taken of it by then

says_so : (events : List Event) (text : List ℕ) → SaysWhole events [] text → SaysRecord events text
says_so events text h = subst (λ (t : List ℕ). SaysRecord events t) (sym (h.cut ∙ ap (λ (t : List ℕ). h.taken ++ t) h.others ∙ append-nil h.taken)) h.says

same_text : (text all front : List ℕ) → text ≡ [] → all ≡ front ++ text → all ≡ front
same_text text all front none grown = grown ∙ ap (λ (t : List ℕ). front ++ t) none ∙ append-nil front

known_so : (events : List Event) (old mid new : Option (List ℕ)) → GrewKnown (SaysRecord events) old mid → GrewKnown (λ text. text ≡ []) mid new
    → GrewKnown (SaysRecord events) old new
known_so events None mid new h k = tt
known_so events (Some front) None new h k = absurd h
known_so events (Some front) (Some half) None h k = absurd k
known_so events (Some front) (Some half) (Some all) h k = record { text = h.text; says = h.says; grown = same_text k.text all half k.says k.grown ∙ h.grown }

noted_so : (events : List Event) (old mid new : Option (Option (List ℕ))) → Notes old mid events → NotesSegments mid new [] → Notes old new events
noted_so events old mid None h k = tt
noted_so events old None (Some new) h k = absurd k
noted_so events None (Some mid) (Some new) h k = absurd h
noted_so events (Some old) (Some mid) (Some new) h k = known_so events old mid new h k

record RunsAlone (server in_force : Server) (old reached : Standing) (events : List Event) (shown shown_then : Option (List ℕ)) : Type 0 where
  runs : Runs server old reached events None
  all : Shows shown shown_then runs.steps
  same : in_force ≡ server

runs_alone : OneIsARun → (server in_force : Server) (old reached : Standing) (events : List Event) (shown shown_then : Option (List ℕ)) (periods : List Period)
    → AreStated [] periods
    → (runs : RunsUnder server old reached (record { config = server.config; events = events } ∷ periods)) → Shows shown shown_then runs.steps
    → in_force ≡ record { config = config_behind server.config periods; word = server.word }
    → RunsAlone server in_force old reached events shown shown_then
runs_alone one server in_force old reached events shown shown_then [] stated runs all same = record {
  runs = record {
    steps = runs.steps;
    history = runs.history;
    is_run = (one server old.state server.config events None runs.steps runs.history reached.state).0
        runs.is_run;
    orderly = runs.orderly;
    queue = runs.queue;
  };
  all = all;
  same = same;
}
runs_alone one server in_force old reached events shown shown_then (period ∷ periods) stated runs all same = absurd stated

-- ---- both

record Refused (server server_then : Server) (old new : Standing) (longest : ℕ) (spent : Type 0) (events : List Event) (segments : List Segment) (text : List ℕ)
    (rest : Option (List ℕ)) (outs outs_then : Outputs) (e : RecordError) : Type 0 where
  reached : Standing
  in_force : Server
  half : Outputs
  says : SaysWhole events segments text
  takes : TakesWhole server in_force old reached events segments
  shown : Shows outs.shown half.shown takes.runs.steps
  noted : NotesWhole outs.written outs_then.written events segments
  why : RecordStops in_force server_then reached new longest spent rest (0 + count_by is_end text) half outs_then e

refused_so : OneIsARun → (server server_then : Server) (old new : Standing) (longest : ℕ) (spent : Type 0) (bytes : Option (List ℕ)) (events : List Event) (text : List ℕ)
    (rest : Option (List ℕ)) (outs outs_then : Outputs) (e : RecordError)
    → Refused server server_then old new longest spent events [] text rest outs outs_then e
    → IfSome bytes (λ all. (further : List ℕ) × (rest ≡ Some further) × (all ≡ text ++ further)) → BeginsNoConfiguration longest rest
    → IsUnresumed server old new spent bytes outs outs_then e × (server_then ≡ server)
refused_so one server server_then old new longest spent bytes events text rest outs outs_then e h whole begins =
    let alone : RunsAlone server h.in_force old h.reached events outs.shown h.half.shown =
    runs_alone one server h.in_force old h.reached events outs.shown h.half.shown h.takes.periods h.takes.stated h.takes.runs h.shown h.takes.in_force in
    let counted : RecordStops h.in_force server_then h.reached new longest spent rest (count_by is_end text) h.half outs_then e =
    subst (λ (n : ℕ). RecordStops h.in_force server_then h.reached new longest spent rest n h.half outs_then e) (zero-add (count_by is_end text)) h.why in
    let stops : StopsSo server server_then h.reached new spent rest (count_by is_end text) h.half outs_then e =
    stops_so server server_then h.reached new longest spent rest (count_by is_end text) h.half outs_then e begins
    (subst (λ (s : Server). RecordStops s server_then h.reached new longest spent rest (count_by is_end text) h.half outs_then e) alone.same counted) in (
      record {
        text = text;
        events = events;
        rest = rest;
        reached = h.reached;
        half = h.half;
        refusal = stops.refusal;
        says = says_so events text h.says;
        whole = whole;
        runs = alone.runs;
        shown = alone.all;
        noted = noted_so events outs.written h.noted.between outs_then.written h.noted.told h.noted.told_then;
        is_refusal = stops.is_refusal;
        why = stops.why;
      },
      stops.same,
    )

pub events_unresumed : OneIsARun → (server server_then : Server) (old new : Standing) (longest : ℕ) (spent : Type 0) (bytes : Option (List ℕ)) (outs outs_then : Outputs)
    (e : RecordError)
    → (h : IsRecordUnresumed server server_then old new longest spent bytes 0 outs outs_then e) → h.segments ≡ [] → BeginsNoConfiguration longest h.rest
    → IsUnresumed server old new spent bytes outs outs_then e × (server_then ≡ server)
events_unresumed one server server_then old new longest spent bytes outs outs_then e h none begins =
    let all : Refused server server_then old new longest spent h.events h.segments h.text h.rest outs outs_then e =
    record { reached = h.reached; in_force = h.in_force; half = h.half; says = h.says; takes = h.takes; shown = h.shown; noted = h.noted; why = h.why } in
    refused_so one server server_then old new longest spent bytes h.events h.text h.rest outs outs_then e
    (subst (λ (segments : List Segment). Refused server server_then old new longest spent h.events segments h.text h.rest outs outs_then e) none all) h.whole begins
