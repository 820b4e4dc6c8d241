-- A configuration of a record, and the events behind it.
use Rattle.std.proofs.Common.{◌≡◌, inl, inr, ℕ, ◌<◌, ◌≤◌, Bool, true, Ok, Err, List, [], ◌∷◌, ◌++◌, Option, None, Some, refl, sym, ◌∙◌, subst, arith, append-nil}
use Rattle.std.specs.Prelude.{IfNone, IfSome}
use Rattle.std.specs.Io.KnownBytes.{IsAtEnd, Keeps}
use Rattle.std.proofs.KnownBytes.{Appends-nil, Consumes-nil, Consumes-trans}
use Rattle.sip_event.specs.declared.event.StepOut.{StepOut}
use Rattle.sip_config_types.specs.declared.config.Config.{Config}
use Rattle.sip_run.specs.engine.Engine.{Engine}
use Rattle.sip_run.specs.Due.{standing_of}
use Rattle.sip_model.specs.state.declared.server.Server.{Server}
use Rattle.sip_model.specs.TimerOrder.{Standing}
use Rattle.sip_model.specs.Run.{under}
use Rattle.sip_replay_script.specs.Lines.{Reading, IsOver, left, pending}
use Rattle.sip_replay_script.specs.Recorded.{IsDamagedRecord}
use Rattle.sip_journal.specs.Segments.{Segment, SaysSegments}
use Rattle.sip_journal.specs.Configurations.{IsCutConfiguration, IsDamagedConfiguration, GivesConfiguration, IsLongConfiguration}
use Rattle.sip_replay_script.proofs.Written.{keeps_consumes}
use Rattle.sip_journal.specs.Record.{Notes, NotesConfiguration, NotesSegments, GrewKnown}
use Rattle.sip_journal.proofs.Noting.{SegmentBegins as SegmentTextBegins}
use Rattle.sip_segment_config.specs.declared.stop.SegmentStop.{SegmentStop}
use Rattle.sip_segment_config.specs.declared.stop.SegmentStop.TheVariants as stops
use Rattle.sip_config.specs.Stated.{States, StatesNone}
use Rattle.sip_segment_config.specs.Last.{EndsCut, IsDamagedPart}
use Rattle.sip_segment_config.specs.Stops.{NextIs}
use Rattle.sip_resume.specs.Stops.{SegmentStops, StatesOther}
use Rattle.sip_resume.specs.Takes.{TakesConfiguration}
use Rattle.sip_resume.specs.Outputs.{Outputs, outputs_of}
use Rattle.sip_resume.specs.Resumes.{EndsHere}
use Rattle.sip_resume.specs.RecordErrors.{end_of, record_error_of}
use Rattle.sip_resume.specs.Whole.{RecordStops}
use Rattle.sip_resume.specs.Parts.{EventsStop, NextStops, ReachesEnd, ReachesNext, SegmentsStop, TakesEvents, TakesSegments, UnbegunStops}
use Rattle.sip_resume.specs.declared.error.ResumeError.{ResumeError}
use Rattle.sip_resume.specs.declared.error.ResumeError.TheVariants as events
use Rattle.sip_resume.specs.declared.record_error.RecordError.{RecordError}
use Rattle.sip_resume.specs.declared.record_error.RecordError.TheVariants as errors
use Rattle.sip_run.proofs.Standings.{standing_is}
use Rattle.sip_resume.proofs.Eventwise.{noted_at, numbers_add}
use Rattle.sip_resume.proofs.Refused.{stays}
use Rattle.sip_resume.proofs.UnderRuns.{runs_none, runs_one}
use Rattle.sip_segment_config.proofs.Stopping.{next_bytes}
use Rattle.sip_segment_config.proofs.SoFar.{if_kept}

-- ---- where no configuration is taken

empty_of : (a b : Option (List ℕ)) → Keeps a b → IsAtEnd b → IfSome a EndsCut
empty_of None b k e = tt
empty_of (Some xs) None k e = absurd k
empty_of (Some xs) (Some ys) k e = inl (sym k ∙ e)

over_ends : {X : Type 0} (found : Option X) (old new : Reading) (before after : Option (List ℕ)) → IfNone found (IsOver old new before after)
    → IfNone found (IfSome (pending old before) EndsCut)
over_ends None old new before after h = empty_of (pending old before) (pending new after) h.kept h.at_end
over_ends (Some x) old new before after h = tt

cut_ends : (rest : Option (List ℕ)) → IfSome rest IsCutConfiguration → IfSome rest EndsCut
cut_ends None h = tt
cut_ends (Some rest) h = inr (inr h)

-- the record ends there
pub ends_so : (server : Server) (longest : ℕ) (F : Type 0) (script : Option (List ℕ)) (lines : ℕ) (stop : SegmentStop) (u : Unit {0})
    → SegmentStops server longest F script lines stop → Ok u ≡ end_of stop → IfSome script EndsCut
ends_so server longest F script lines stops.NoMemory u h e = absurd cc
ends_so server longest F script lines (stops.Damaged line) u h e = absurd cc
ends_so server longest F script lines (stops.Cut line) u h e = cut_ends script h.0
ends_so server longest F script lines stops.Read u h e = absurd cc
ends_so server longest F script lines (stops.TooLong line) u h e = absurd cc
ends_so server longest F script lines (stops.NoConfiguration line why) u h e = absurd cc
ends_so server longest F script lines (stops.OtherFrame line key) u h e = absurd cc

-- or why no segment begins
pub stops_so : (server : Server) (longest : ℕ) (F : Type 0) (script : Option (List ℕ)) (lines : ℕ) (stop : SegmentStop) (e : RecordError)
    → SegmentStops server longest F script lines stop → Err e ≡ end_of stop → UnbegunStops server longest F script lines e
stops_so server longest F script lines stops.NoMemory e h same = let this : errors.NoMemory ≡ e = cc in
    subst (λ (x : RecordError). UnbegunStops server longest F script lines x) this tt
stops_so server longest F script lines (stops.Damaged line) e h same = let this : errors.Damaged line ≡ e = cc in
    subst (λ (x : RecordError). UnbegunStops server longest F script lines x) this h
stops_so server longest F script lines (stops.Cut line) e h same = absurd cc
stops_so server longest F script lines stops.Read e h same = let this : errors.Read ≡ e = cc in
    subst (λ (x : RecordError). UnbegunStops server longest F script lines x) this h
stops_so server longest F script lines (stops.TooLong line) e h same = let this : errors.TooLong line ≡ e = cc in
    subst (λ (x : RecordError). UnbegunStops server longest F script lines x) this h
stops_so server longest F script lines (stops.NoConfiguration line why) e h same = let this : errors.NoConfiguration line why ≡ e = cc in
    subst (λ (x : RecordError). UnbegunStops server longest F script lines x) this h
stops_so server longest F script lines (stops.OtherFrame line key) e h same = let this : errors.OtherFrame line key ≡ e = cc in
    subst (λ (x : RecordError). UnbegunStops server longest F script lines x) this h

-- ---- no segment

known_nothing : (old : Option (List ℕ)) → GrewKnown (SaysSegments []) old old
known_nothing None = tt
known_nothing (Some all) = record { text = []; says = refl; grown = sym (append-nil all) }

pub noted_none : (old : Option (Option (List ℕ))) → NotesSegments old old []
noted_none None = tt
noted_none (Some old) = known_nothing old

abbrev pub segments_nothing : (server : Server) (state : Standing) (before : Option (List ℕ)) (lines : ℕ) (outs : Outputs)
    → TakesSegments server server state state before before lines lines outs outs None
segments_nothing server state before lines outs = record {
  segments = [];
  text = [];
  periods = [];
  says = refl;
  consumes = Consumes-nil before;
  counted = omega arith;
  stated = tt;
  frames = tt;
  runs = runs_none server state;
  last_is = refl;
  in_force = refl;
  is_under = refl;
  shown = Appends-nil outs.shown;
  noted = noted_none outs.written;
}

reaches_over : (server : Server) (state : Standing) (known : Option (List ℕ)) (part rest : Reading) (after : Option (List ℕ)) (outs : Outputs) → IfSome known EndsCut
    → ReachesNext server server state state known part rest after outs outs part.number None true
reaches_over server state known part rest after outs ends = record {
  left_then = known;
  takes = segments_nothing server state known part.number outs;
  over = λ e. ends;
  kept = λ e. absurd cc;
  no_event = λ e. absurd cc;
  number = λ e. absurd cc;
  fewer = λ e. absurd cc;
}

pub reaches_end : (old new : Engine) (known : Option (List ℕ)) (part rest : Reading) (before after : Option (List ℕ)) (outs : Outputs) (lines : ℕ) (last : Option StepOut)
    (is_over : Bool) → Keeps known (pending part before) → new ≡ old
    → IfSome (pending part before) EndsCut → lines ≡ part.number → last ≡ None → is_over ≡ true
    → ReachesNext old.server new.server (standing_of old) (standing_of new) known part rest after outs outs lines last is_over
reaches_end old new known part rest before after outs lines last is_over kept same ends number none over =
    subst (λ (e : Engine). ReachesNext old.server e.server (standing_of old) (standing_of e) known part rest after outs outs lines last is_over) (sym same)
    (subst (λ (n : ℕ). ReachesNext old.server old.server (standing_of old) (standing_of old) known part rest after outs outs n last is_over) (sym number)
    (subst (λ (out : Option StepOut). ReachesNext old.server old.server (standing_of old) (standing_of old) known part rest after outs outs part.number out is_over)
    (sym none)
    (subst (λ (b : Bool). ReachesNext old.server old.server (standing_of old) (standing_of old) known part rest after outs outs part.number None b) (sym over)
    (reaches_over old.server (standing_of old) known part rest after outs (if_kept EndsCut known (pending part before) kept ends)))))

-- where events end, no configuration was cut off
pub events_end : (rest : Option (List ℕ)) → IfSome rest EndsHere → IfSome rest EndsCut
events_end None h = tt
events_end (Some rest) (inl none) = inl none
events_end (Some rest) (inr cut) = inr (inl cut)

-- ---- why none begins

both_none : (rest : Option (List ℕ)) → IfSome rest IsDamagedRecord → IfSome rest IsDamagedConfiguration → IfSome rest IsDamagedPart
both_none None h k = tt
both_none (Some rest) h k = record { no_event = h; no_configuration = k }

unbegun_stops : (server : Server) (state : Standing) (longest : ℕ) (F : Type 0) (rest : Option (List ℕ)) (lines : ℕ) (outs : Outputs) (e : RecordError)
    → IfSome rest IsDamagedRecord → UnbegunStops server longest F rest lines e
    → RecordStops server server state state longest F rest lines outs outs e
unbegun_stops server state longest F rest lines outs errors.NoMemory none h = (refl, inl (stays state outs))
unbegun_stops server state longest F rest lines outs (errors.Damaged line) none h = record {
  in_force = refl;
  state = refl;
  shown = refl;
  why = both_none rest none h.0;
  at = h.1;
}
unbegun_stops server state longest F rest lines outs errors.Read none h = (refl, refl, h, refl)
unbegun_stops server state longest F rest lines outs errors.Step none h = absurd h
unbegun_stops server state longest F rest lines outs errors.Journal none h = absurd h
unbegun_stops server state longest F rest lines outs (errors.TooLong line) none h = record { in_force = refl; state = refl; shown = refl; why = h.0; at = h.1 }
unbegun_stops server state longest F rest lines outs (errors.NoConfiguration line why) none h =
    record { in_force = refl; state = refl; shown = refl; why = h.0; at = h.1 }
unbegun_stops server state longest F rest lines outs (errors.OtherFrame line key) none h = record { in_force = refl; state = refl; shown = refl; why = h.0; at = h.1 }
unbegun_stops server state longest F rest lines outs errors.Write none h = absurd h

is_next_kept : (known script : Option (List ℕ)) (Is : List ℕ → Type 0) → Keeps known script → NextIs script Is → NextIs known Is
is_next_kept known script Is kept h = record {
  configuration = h.configuration;
  next = record {
    text = h.next.text;
    says = h.next.says;
    begins = if_kept (λ bytes. (further : List ℕ) × (bytes ≡ h.next.text ++ further)) known script kept
        h.next.begins;
  };
  is = h.is;
}

unbegun_kept : (server : Server) (longest : ℕ) (F : Type 0) (known script : Option (List ℕ)) (lines : ℕ) (e : RecordError) → Keeps known script
    → UnbegunStops server longest F script lines e → UnbegunStops server longest F known lines e
unbegun_kept server longest F known script lines errors.NoMemory kept h = tt
unbegun_kept server longest F known script lines (errors.Damaged line) kept h = (if_kept IsDamagedConfiguration known script kept h.0, h.1)
unbegun_kept server longest F known script lines errors.Read kept h = h
unbegun_kept server longest F known script lines errors.Step kept h = absurd h
unbegun_kept server longest F known script lines errors.Journal kept h = absurd h
unbegun_kept server longest F known script lines (errors.TooLong line) kept h = (if_kept (IsLongConfiguration longest) known script kept h.0, h.1)
unbegun_kept server longest F known script lines (errors.NoConfiguration line why) kept h = (is_next_kept known script (λ bytes. StatesNone bytes why) kept h.0, h.1)
unbegun_kept server longest F known script lines (errors.OtherFrame line key) kept h = (is_next_kept known script (λ bytes. StatesOther server bytes key) kept h.0, h.1)
unbegun_kept server longest F known script lines errors.Write kept h = absurd h

pub unbegun : (old new : Engine) (longest : ℕ) (F : Type 0) (known script : Option (List ℕ)) (lines : ℕ) (outs : Outputs) (e : RecordError) → Keeps known script
    → new ≡ old → IfSome known IsDamagedRecord
    → UnbegunStops old.server longest F script lines e → SegmentsStop old.server new.server (standing_of old) (standing_of new) longest F known lines outs outs e
unbegun old new longest F known script lines outs e kept same none h =
    subst (λ (x : Engine). SegmentsStop old.server x.server (standing_of old) (standing_of x) longest F known lines outs outs e) (sym same)
    (record {
      rest = known;
      reached = (standing_of old);
      in_force = old.server;
      lines_then = lines;
      half = outs;
      last = None;
      takes = segments_nothing old.server (standing_of old) known lines outs;
      why = unbegun_stops old.server (standing_of old) longest F known lines outs e none (unbegun_kept old.server longest F known script lines e kept h);
      noted = noted_none outs.written;
    })

-- ---- a segment

abbrev pub SegmentSaid : Type 0
SegmentSaid = SegmentTextBegins

abbrev pub SegmentNoted : Type 0
SegmentNoted =
    (old mid new : Option (Option (List ℕ))) (segment : Segment) → NotesConfiguration old mid segment.configuration → Notes mid new segment.events
    → NotesSegments old new (segment ∷ [])

-- of the server as it was before
abbrev segment_under : SegmentSaid → SegmentNoted → (server in_force : Server) (config : Config) (old new : Standing) (known : Option (List ℕ)) (part half : Reading)
    (before middle rest : Option (List ℕ)) (outs : Outputs) (told : Option (Option (List ℕ))) (whole : Outputs) (text : List ℕ) (lines : ℕ) (last : Option StepOut)
    → Keeps known (pending part before) → GivesConfiguration part half before middle text → States text config → in_force ≡ record { config = config; word = server.word }
    → in_force ≡ under server config → NotesConfiguration outs.written told text
    → TakesEvents (under server config) old new (pending half middle) rest half.number lines (outputs_of told outs.shown) whole last
    → TakesSegments server in_force old new known rest part.number lines outs whole last
segment_under said noted server in_force config old new known part half before middle rest outs told whole text lines last kept gives states is is_under configured h =
    record {
      segments = record { configuration = text; events = h.events } ∷ [];
      text = gives.text ++ h.text;
      periods = record { config = config; events = h.events } ∷ [];
      says = said (record { configuration = text; events = h.events }) gives.text h.text gives.says h.says;
      consumes = Consumes-trans known (pending half middle) rest gives.text h.text (keeps_consumes known (pending part before) (pending half middle) gives.text kept
          gives.consumes) h.consumes;
      counted = numbers_add part.number half.number lines gives.text h.text gives.number h.counted;
      stated = (record { states = states; same = refl }, tt);
      frames = (sym is ∙ is_under, tt);
      runs = runs_one server config old new h.events h.runs;
      last_is = h.last_is;
      in_force = is;
      is_under = is_under;
      shown = h.shown;
      noted = noted outs.written told whole.written (record { configuration = text; events = h.events }) configured h.noted;
    }

-- events that the changed server takes are taken by the server under that configuration
events_under : (old mid : Engine) (config : Config) (new : Standing) (before rest : Option (List ℕ)) (lines lines_then : ℕ) (outs outs_then : Outputs)
    (last : Option StepOut) → mid.server ≡ under old.server config → standing_of mid ≡ standing_of old
    → TakesEvents mid.server (standing_of mid) new before rest lines lines_then outs outs_then last
    → TakesEvents (under old.server config) (standing_of old) new before rest lines lines_then outs outs_then last
events_under old mid config new before rest lines lines_then outs outs_then last is same h =
    subst (λ (s : Server). TakesEvents s (standing_of old) new before rest lines lines_then outs outs_then last) is
    (subst (λ (s : Standing). TakesEvents mid.server s new before rest lines lines_then outs outs_then last) same h)

segment_of : SegmentSaid → SegmentNoted → (old mid : Engine) (new : Standing) (known : Option (List ℕ)) (part half : Reading) (before middle rest : Option (List ℕ))
    (outs : Outputs) (told : Option (Option (List ℕ))) (whole : Outputs) (text : List ℕ) (lines : ℕ) (last : Option StepOut)
    → Keeps known (pending part before) → TakesConfiguration old mid part half before middle text → NotesConfiguration outs.written told text
    → TakesEvents mid.server (standing_of mid) new (pending half middle) rest half.number lines (outputs_of told outs.shown) whole last
    → TakesSegments old.server mid.server (standing_of old) new known rest part.number lines outs whole last
segment_of said noted old mid new known part half before middle rest outs told whole text lines last kept taken configured h =
    segment_under said noted old.server mid.server taken.taken.config (standing_of old) new known part half before middle rest outs told whole text lines last kept
    taken.gives taken.taken.states taken.taken.changes.server taken.taken.changes.is_under configured
    (events_under old mid taken.taken.config new (pending half middle) rest half.number lines (outputs_of told outs.shown) whole last taken.taken.changes.is_under
    (standing_is mid old.state old.timers taken.taken.changes.state taken.taken.changes.timers) h)

pub reaches_next : SegmentSaid → SegmentNoted → (old mid : Engine) (then_server : Server) (new : Standing) (known : Option (List ℕ)) (part half rest : Reading)
    (before middle after : Option (List ℕ)) (outs : Outputs) (told : Option (Option (List ℕ))) (whole : Outputs) (text : List ℕ) (lines : ℕ)
    (last : Option StepOut) (is_over : Bool) → Keeps known (pending part before) → then_server ≡ mid.server → TakesConfiguration old mid part half before middle text
    → NotesConfiguration outs.written told text → ReachesEnd mid.server (standing_of mid) new half rest middle after (outputs_of told outs.shown) whole lines last
    is_over
    → ReachesNext old.server then_server (standing_of old) new known part rest after outs whole lines last is_over
reaches_next said noted old mid then_server new known part half rest before middle after outs told whole text lines last is_over kept same taken configured h =
    subst (λ (s : Server). ReachesNext old.server s (standing_of old) new known part rest after outs whole lines last is_over) (sym same)
    (record {
      left_then = h.left_then;
      takes = segment_of said noted old mid new known part half before middle h.left_then outs told whole text lines last kept taken configured h.takes;
      over = λ e. events_end h.left_then (h.over e);
      kept = h.kept;
      no_event = h.no_event;
      number = h.number;
      fewer = λ e. less_behind (left rest) (left half) (left part) (h.fewer e) taken.gives.fewer;
    })
  where
    less_behind : (a b c : ℕ) → a ≤ b → b < c → a < c
    less_behind a b c h k = omega (arith, h, k)

-- ---- why no more of it is taken

-- the journal failed behind the configuration
pub untold : (old mid : Engine) (longest : ℕ) (F : Type 0) (known : Option (List ℕ)) (part half : Reading) (before middle : Option (List ℕ)) (outs : Outputs)
    (told : Option (Option (List ℕ))) (text : List ℕ) (e : RecordError) → Keeps known (pending part before) → e ≡ errors.Journal → told ≡ None
    → TakesConfiguration old mid part half before middle text → SegmentsStop old.server mid.server (standing_of old) (standing_of mid) longest F known part.number outs
    (outputs_of told outs.shown) e
untold old mid longest F known part half before middle outs told text e kept is failed taken =
    subst (λ (x : RecordError). SegmentsStop old.server mid.server (standing_of old) (standing_of mid) longest F known part.number outs (outputs_of told outs.shown) x)
    (sym is)
    (record {
      rest = known;
      reached = (standing_of old);
      in_force = old.server;
      lines_then = part.number;
      half = outs;
      last = None;
      takes = segments_nothing old.server (standing_of old) known part.number outs;
      why = inr (record {
        config = taken.taken.config;
        next = record {
          configuration = text;
          next = record {
            text = taken.gives.text;
            says = taken.gives.says;
            begins = next_bytes known (pending half middle) taken.gives.text
                (keeps_consumes known (pending part before) (pending half middle) taken.gives.text kept taken.gives.consumes);
          };
          is = taken.taken.states;
        };
        in_force = taken.taken.changes.server;
        state = (standing_is mid old.state old.timers taken.taken.changes.state taken.taken.changes.timers);
        shown = refl;
        failed = failed;
      });
      noted = subst (λ (o : Option (Option (List ℕ))). NotesSegments outs.written o []) (sym failed) tt;
    })

-- why an event isn't taken
pub event_stops : (server : Server) (old new : Standing) (longest : ℕ) (F : Type 0) (rest : Option (List ℕ)) (lines : ℕ) (half whole : Outputs) (e : ResumeError)
    → NextStops server old new F rest lines half whole e
    → RecordStops server server old new longest F rest lines half whole (record_error_of e)
event_stops server old new longest F rest lines half whole events.NoMemory h = (refl, h.why)
event_stops server old new longest F rest lines half whole (events.Damaged line) h = record {
  in_force = refl;
  state = h.why.0;
  shown = h.why.3;
  why = both_none rest h.why.1 h.none;
  at = h.why.2;
}
event_stops server old new longest F rest lines half whole events.Read h = (refl, h.why.0, h.why.1, h.why.2)
event_stops server old new longest F rest lines half whole events.Step h = (refl, h.why)
event_stops server old new longest F rest lines half whole events.Journal h = inl (refl, h.why)
event_stops server old new longest F rest lines half whole events.Write h = (refl, h.why)

stopped_under : SegmentSaid → SegmentNoted → (server in_force : Server) (config : Config) (old reached new : Standing) (longest : ℕ) (F : Type 0)
    (known : Option (List ℕ)) (part half : Reading) (before middle rest : Option (List ℕ)) (outs : Outputs) (told : Option (Option (List ℕ))) (so_far whole : Outputs)
    (text : List ℕ) (lines : ℕ) (last : Option StepOut) (refusal : ResumeError) → Keeps known (pending part before) → GivesConfiguration part half before middle text
    → States text config → in_force ≡ record { config = config; word = server.word } → in_force ≡ under server config
    → NotesConfiguration outs.written told text → TakesEvents (under server config) old reached (pending half middle) rest half.number lines (outputs_of told outs.shown)
    so_far last → NextStops in_force reached new F rest lines so_far whole refusal
    → SegmentsStop server in_force old new longest F known part.number outs whole (record_error_of refusal)
stopped_under said noted server in_force config old reached new longest F known part half before middle rest outs told so_far whole text lines last refusal kept gives
    states is is_under configured h stops = record {
      rest = rest;
      reached = reached;
      in_force = in_force;
      lines_then = lines;
      half = so_far;
      last = last;
      takes = segment_under said noted server in_force config old reached known part half before middle rest outs told so_far text lines last kept gives states is
          is_under
          configured h;
      why = event_stops in_force reached new longest F rest lines so_far whole refusal stops;
      noted = noted outs.written told whole.written (record { configuration = text; events = h.events }) configured
          (noted_at told so_far.written whole.written h.events refusal h.noted stops.told);
    }

pub stopped_behind : SegmentSaid → SegmentNoted → (old mid : Engine) (then_server : Server) (new : Standing) (longest : ℕ) (F : Type 0) (known : Option (List ℕ))
    (part half : Reading) (before middle : Option (List ℕ)) (outs : Outputs) (told : Option (Option (List ℕ))) (whole : Outputs) (text : List ℕ)
    (refusal : ResumeError) (e : RecordError) → Keeps known (pending part before) → e ≡ record_error_of refusal → then_server ≡ mid.server
    → TakesConfiguration old mid part half before middle text → NotesConfiguration outs.written told text
    → EventsStop mid.server (standing_of mid) new F (pending half middle) half.number (outputs_of told outs.shown) whole refusal
    → SegmentsStop old.server then_server (standing_of old) new longest F known part.number outs whole e
stopped_behind said noted old mid then_server new longest F known part half before middle outs told whole text refusal e kept is same taken configured h =
    subst (λ (x : RecordError). SegmentsStop old.server then_server (standing_of old) new longest F known part.number outs whole x) (sym is)
    (subst (λ (s : Server). SegmentsStop old.server s (standing_of old) new longest F known part.number outs whole (record_error_of refusal)) (sym same)
    (stopped_under said noted old.server mid.server taken.taken.config (standing_of old) h.reached new longest F known part half before middle h.rest outs told h.half
    whole text h.lines_then h.last refusal kept taken.gives taken.taken.states taken.taken.changes.server
    taken.taken.changes.is_under configured (events_under old mid taken.taken.config h.reached (pending half middle) h.rest half.number h.lines_then
    (outputs_of told outs.shown) h.half h.last taken.taken.changes.is_under (standing_is mid old.state old.timers taken.taken.changes.state
    taken.taken.changes.timers) h.takes) h.stops))

-- what holds where no more comes
pub none_waits : {P : Type 0} {X : Type 0} (found : Option X) → found ≡ None → IfNone found P → P
none_waits None e h = h
none_waits (Some x) e h = absurd cc
