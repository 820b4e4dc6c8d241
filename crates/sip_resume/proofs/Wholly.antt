-- A record so far: its events, and the segments behind them.
use Rattle.std.proofs.Common.{◌≡◌, inl, ℕ, ◌+◌, ◌<◌, cond, arith, Bool, true, false, List, [], ◌∷◌, ◌++◌, Option, None, Some, refl, sym, ◌∙◌, ap, ap₂, subst}
use Rattle.std.proofs.Common.{append-nil}
use Rattle.std.specs.Prelude.{IfSome, count_by}
use Rattle.std.specs.Io.KnownBytes.{Consumes, Keeps}
use Rattle.std.specs.List.{AllByRecursion}
use Rattle.std.proofs.KnownBytes.{Consumes-trans}
use Rattle.sip_event.specs.declared.event.Event.{Event}
use Rattle.sip_event.specs.declared.event.StepOut.{StepOut}
use Rattle.sip_config_types.specs.declared.config.Config.{Config}
use Rattle.sip_run.specs.engine.Engine.{Engine}
use Rattle.sip_run.specs.Due.{standing_of}
use Rattle.sip_model.specs.state.declared.server.Server.{Server}
use Rattle.sip_model.specs.TimerOrder.{Standing}
use Rattle.sip_model.specs.Run.{under}
use Rattle.sip_model.specs.Periods.{Period}
use Rattle.sip_model.proofs.SendingLists.{all_joined}
use Rattle.sip_replay_script.specs.Lines.{Reading, is_end, pending}
use Rattle.sip_replay_script.specs.Recorded.{IsDamagedRecord}
use Rattle.sip_segment_config.specs.Last.{EndsCut}
use Rattle.sip_journal.specs.Segments.{Segment, SaysSegments, SaysWhole}
use Rattle.sip_journal.specs.Record.{NotesSegments}
use Rattle.sip_resume.specs.Outputs.{Outputs, Shows}
use Rattle.sip_resume.specs.Resumes.{newest_step}
use Rattle.sip_resume.specs.RecordErrors.{record_error_of}
use Rattle.sip_resume.specs.Whole.{AreStated, KeepsFrame, IsRecordResumed, IsRecordUnresumed, NotesWhole, RecordStops, RunsUnder, config_behind}
use Rattle.sip_resume.specs.Parts.{EventsStop, ReachesEnd, ReachesNext, SegmentsStop, TakesEvents, TakesSegments, newest_of}
use Rattle.sip_resume.specs.declared.error.ResumeError.{ResumeError}
use Rattle.sip_resume.specs.declared.record_error.RecordError.{RecordError}
use Rattle.sip_resume.proofs.Eventwise.{noted_at, numbers_add}
use Rattle.sip_resume.proofs.Retaken.{left_of}
use Rattle.sip_resume.proofs.Running.{shown_both}
use Rattle.sip_resume.proofs.Segmentwise.{event_stops, events_end, noted_none}
use Rattle.sip_resume.proofs.UnderRuns.{config_both, frames_of, newest_is, runs_back, runs_both, runs_one, stated_both}
use Rattle.sip_segment_config.proofs.SoFar.{says_more}

abbrev pub SegmentTextsJoin : Type 0
SegmentTextsJoin = (segments others : List Segment) (text more : List ℕ) → SaysSegments segments text → SaysSegments others more
    → SaysSegments (segments ++ others) (text ++ more)

abbrev pub NotedJoin : Type 0
NotedJoin = (old mid new : Option (Option (List ℕ))) (segments others : List Segment) → NotesSegments old mid segments → NotesSegments mid new others
    → NotesSegments old new (segments ++ others)

-- events of a record were taken, and segments behind them
pub record TakesRecord (server server_then : Server) (old new : Standing) (before rest : Option (List ℕ)) (lines lines_then : ℕ) (outs outs_then : Outputs)
    (last : Option StepOut) : Type 0 where
  pub events : List Event
  pub segments : List Segment
  pub text : List ℕ
  pub periods : List Period
  pub says : SaysWhole events segments text
  pub consumes : Consumes before rest text
  pub counted : lines_then ≡ lines + count_by is_end text
  pub stated : AreStated segments periods
  pub frames : AllByRecursion (KeepsFrame server) periods
  pub runs : RunsUnder server old new (record { config = server.config; events = events } ∷ periods)
  pub last_is : newest_step runs.history ≡ last
  pub in_force : server_then ≡ record { config = config_behind server.config periods; word = server.word }
  pub is_under : server_then ≡ under server (config_behind server.config periods)
  pub shown : Shows outs.shown outs_then.shown runs.steps
  pub noted : NotesWhole outs.written outs_then.written events segments

-- and that is how far it came
pub record RecordSoFar (old new : Engine) (part rest : Reading) (before after : Option (List ℕ)) (outs outs_then : Outputs) (lines : ℕ) (last : Option StepOut)
    (is_over : Bool) : Type 0 where
  pub left_then : Option (List ℕ)
  pub takes : TakesRecord old.server new.server (standing_of old) (standing_of new) (pending part before) left_then part.number lines outs outs_then last
  pub over : is_over ≡ true → IfSome left_then EndsCut
  pub kept : is_over ≡ false → Keeps left_then (pending rest after)
  pub no_event : is_over ≡ false → IfSome left_then IsDamagedRecord
  pub number : is_over ≡ false → rest.number ≡ lines

-- no segment yet
abbrev pub record_begun : (server : Server) (old new : Standing) (before rest : Option (List ℕ)) (lines lines_then : ℕ) (outs outs_then : Outputs) (last : Option StepOut)
    → TakesEvents server old new before rest lines lines_then outs outs_then last
    → TakesRecord server server old new before rest lines lines_then outs outs_then last
record_begun server old new before rest lines lines_then outs outs_then last h = record {
  events = h.events;
  segments = [];
  text = h.text;
  periods = [];
  says = record { taken = h.text; rest = []; cut = sym (append-nil h.text); says = h.says; others = refl };
  consumes = h.consumes;
  counted = h.counted;
  stated = tt;
  frames = tt;
  runs = runs_one server server.config old new h.events h.runs;
  last_is = h.last_is;
  in_force = refl;
  is_under = refl;
  shown = h.shown;
  noted = record { between = outs_then.written; told = h.noted; told_then = noted_none outs_then.written };
}

-- ---- more segments

notes_more : NotedJoin → (old mid new : Option (Option (List ℕ))) (events : List Event) (segments others : List Segment) → NotesWhole old mid events segments
    → NotesSegments mid new others → NotesWhole old new events (segments ++ others)
notes_more join old mid new events segments others h k = record { between = h.between; told = h.told; told_then = join h.between mid new segments others h.told_then k }

-- the server under the configurations of both
force_both : (server mid new : Server) (periods others : List Period) → mid ≡ record { config = config_behind server.config periods; word = server.word }
    → new ≡ record { config = config_behind mid.config others; word = mid.word }
    → new ≡ record { config = config_behind server.config (periods ++ others); word = server.word }
force_both server mid new periods others h k =
    k ∙ ap (λ (s : Server). let both : Server = record { config = config_behind s.config others; word = s.word } in both) h
    ∙ ap (λ (c : Config). let both : Server = record { config = c; word = server.word } in both) (sym (config_both server.config periods others))

under_both : (server mid new : Server) (periods others : List Period) → mid ≡ record { config = config_behind server.config periods; word = server.word }
    → mid ≡ under server (config_behind server.config periods) → new ≡ under mid (config_behind mid.config others)
    → new ≡ under server (config_behind server.config (periods ++ others))
under_both server mid new periods others h is_under k =
    k ∙ ap (λ (c : Config). under mid (config_behind c others)) (ap (λ (s : Server). s.config) h)
    ∙ ap (λ (s : Server). under s (config_behind (config_behind server.config periods) others)) is_under
    ∙ ap (λ (c : Config). under server c) (sym (config_both server.config periods others))

-- segments of the server under the configuration that is in force then
abbrev record_under : SegmentTextsJoin → NotedJoin → (server mid new : Server) (first half last : Standing) (before middle rest : Option (List ℕ))
    (lines lines_mid lines_then : ℕ) (outs told whole : Outputs) (newest further : Option StepOut)
    → (h : TakesRecord server mid first half before middle lines lines_mid outs told newest)
    → (k : TakesSegments mid new half last middle rest lines_mid lines_then told whole further)
    → (more : RunsUnder server half last k.periods) → newest_step more.history ≡ further → Shows told.shown whole.shown more.steps
    → TakesRecord server new first last before rest lines lines_then outs whole (newest_of further newest)
record_under join noted server mid new first half last before middle rest lines lines_mid lines_then outs told whole newest further h k more is shows = record {
  events = h.events;
  segments = h.segments ++ k.segments;
  text = h.text ++ k.text;
  periods = h.periods ++ k.periods;
  says = says_more join h.events h.segments k.segments h.text k.text h.says k.says;
  consumes = Consumes-trans before middle rest h.text k.text h.consumes k.consumes;
  counted = numbers_add lines lines_mid lines_then h.text k.text h.counted k.counted;
  stated = stated_both h.segments k.segments h.periods k.periods h.stated k.stated;
  frames = all_joined (KeepsFrame server) h.periods k.periods h.frames (frames_of server mid (config_behind server.config h.periods) k.periods h.is_under k.frames);
  runs = runs_both server first half last (record { config = server.config; events = h.events } ∷ h.periods) k.periods h.runs more;
  last_is = newest_is h.runs.history more.history ∙ ap₂ newest_of is h.last_is;
  in_force = force_both server mid new h.periods k.periods h.in_force k.in_force;
  is_under = under_both server mid new h.periods k.periods h.in_force h.is_under k.is_under;
  shown = shown_both outs.shown told.shown whole.shown h.runs.steps more.steps h.shown shows;
  noted = notes_more noted outs.written told.written whole.written h.events h.segments k.segments h.noted k.noted;
}

-- the run of segments, with its newest step and what was shown, is one of the server that began
record RunsSo (server : Server) (old new : Standing) (periods : List Period) (last : Option StepOut) (a b : Option (List ℕ)) : Type 0 where
  runs : RunsUnder server old new periods
  last_is : newest_step runs.history ≡ last
  shown : Shows a b runs.steps

so_back : (server : Server) (config : Config) (old new : Standing) (periods : List Period) (last : Option StepOut) (a b : Option (List ℕ))
    → RunsSo (under server config) old new periods last a b → RunsSo server old new periods last a b
so_back server config old new periods last a b h = record { runs = runs_back server config old new periods h.runs; last_is = h.last_is; shown = h.shown }

so_of : (server mid : Server) (config : Config) (old new : Standing) (periods : List Period) (last : Option StepOut) (a b : Option (List ℕ)) → mid ≡ under server config
    → (h : RunsUnder mid old new periods) → newest_step h.history ≡ last → Shows a b h.steps
    → RunsSo server old new periods last a b
so_of server mid config old new periods last a b is h newest shows =
    let of_mid : RunsSo mid old new periods last a b = record { runs = h; last_is = newest; shown = shows } in
    so_back server config old new periods last a b (subst (λ (s : Server). RunsSo s old new periods last a b) is of_mid)

pub record_more : SegmentTextsJoin → NotedJoin → (server mid new : Server) (first half last : Standing) (before middle rest : Option (List ℕ))
    (lines lines_mid lines_then : ℕ) (outs told whole : Outputs) (newest further : Option StepOut)
    → TakesRecord server mid first half before middle lines lines_mid outs told newest
    → TakesSegments mid new half last middle rest lines_mid lines_then told whole further
    → TakesRecord server new first last before rest lines lines_then outs whole (newest_of further newest)
record_more join noted server mid new first half last before middle rest lines lines_mid lines_then outs told whole newest further h k =
    let so = so_of server mid (config_behind server.config h.periods) half last k.periods further told.shown whole.shown h.is_under k.runs k.last_is k.shown in
    record_under join noted server mid new first half last before middle rest lines lines_mid lines_then outs told whole newest further h k so.runs so.last_is so.shown

-- ---- how far it came

pub front_reached : (old new : Engine) (part rest : Reading) (before after : Option (List ℕ)) (outs outs_then : Outputs) (lines : ℕ) (last : Option StepOut)
    (is_over : Bool) → new.server ≡ old.server
    → ReachesEnd old.server (standing_of old) (standing_of new) part rest before after outs outs_then lines last is_over
    → RecordSoFar old new part rest before after outs outs_then lines last is_over
front_reached old new part rest before after outs outs_then lines last is_over same h = record {
  left_then = h.left_then;
  takes = subst (λ (s : Server). TakesRecord old.server s (standing_of old) (standing_of new) (pending part before) h.left_then part.number lines outs outs_then last)
      (sym same)
      (record_begun old.server (standing_of old) (standing_of new) (pending part before) h.left_then part.number lines outs outs_then last h.takes);
  over = λ e. events_end h.left_then (h.over e);
  kept = h.kept;
  no_event = h.no_event;
  number = h.number;
}

-- of what stands in the loop
pub further_reached : SegmentTextsJoin → NotedJoin → (old mid new : Engine) (part half rest : Reading) (before middle after : Option (List ℕ)) (outs told whole : Outputs)
    (lines_mid lines lines_then : ℕ) (newest further last : Option StepOut)
    (was_over over_then is_over : Bool) → was_over ≡ false → lines ≡ lines_then → last ≡ newest_of further newest → is_over ≡ over_then
    → (h : RecordSoFar old mid part half before middle outs told lines_mid newest was_over)
    → ReachesNext mid.server new.server (standing_of mid) (standing_of new) h.left_then half rest after told whole lines_then further over_then
    → RecordSoFar old new part rest before after outs whole lines last is_over
further_reached join noted old mid new part half rest before middle after outs told whole lines_mid lines lines_then newest further last was_over over_then is_over on
    same_lines same_last same_over h k =
    subst (λ (n : ℕ). RecordSoFar old new part rest before after outs whole n last is_over) (sym same_lines)
    (subst (λ (out : Option StepOut). RecordSoFar old new part rest before after outs whole lines_then out is_over) (sym same_last)
    (subst (λ (b : Bool). RecordSoFar old new part rest before after outs whole lines_then (newest_of further newest) b) (sym same_over)
    (record {
      left_then = k.left_then;
      takes = record_more join noted old.server mid.server new.server (standing_of old) (standing_of mid) (standing_of new) (pending part before) h.left_then k.left_then
          part.number half.number lines_then outs told whole newest further
          (subst (λ (n : ℕ). TakesRecord old.server mid.server (standing_of old) (standing_of mid) (pending part before) h.left_then part.number n outs told newest)
          (sym (h.number on)) h.takes) k.takes;
      over = k.over;
      kept = k.kept;
      no_event = k.no_event;
      number = k.number;
    })))

-- ---- the end

ends_of : (rest : Option (List ℕ)) → IfSome rest EndsCut → EndsCut (left_of rest)
ends_of None h = inl refl
ends_of (Some rest) h = h

whole_of : (before rest : Option (List ℕ)) (text : List ℕ) → Consumes before rest text → IfSome before (λ bytes. bytes ≡ text ++ left_of rest)
whole_of None rest text h = tt
whole_of (Some xs) None text h = absurd h
whole_of (Some xs) (Some ys) text h = h

pub record_resumed : (server server_then : Server) (old new : Standing) (before rest : Option (List ℕ)) (lines lines_then : ℕ) (outs outs_then : Outputs)
    (last : Option StepOut)
    → TakesRecord server server_then old new before rest lines lines_then outs outs_then last → IfSome rest EndsCut
    → IsRecordResumed server server_then old new before lines outs outs_then lines_then last
record_resumed server server_then old new before rest lines lines_then outs outs_then last h ends = record {
  text = h.text;
  further = left_of rest;
  events = h.events;
  segments = h.segments;
  whole = whole_of before rest h.text h.consumes;
  says = h.says;
  ends = ends_of rest ends;
  takes = record { periods = h.periods; stated = h.stated; frames = h.frames; runs = h.runs; in_force = h.in_force };
  shown = h.shown;
  noted = h.noted;
  counted = h.counted;
  last_is = h.last_is;
}

-- ---- refusals

rest_is : (before rest : Option (List ℕ)) (text : List ℕ) → Consumes before rest text
    → IfSome before (λ bytes. (further : List ℕ) × (rest ≡ Some further) × (bytes ≡ text ++ further))
rest_is None rest text h = tt
rest_is (Some xs) None text h = absurd h
rest_is (Some xs) (Some ys) text h = (ys, refl, h)

stopped_at : (server server_then in_force : Server) (old reached new : Standing) (longest : ℕ) (F : Type 0) (before rest : Option (List ℕ)) (lines lines_then : ℕ)
    (outs half outs_then : Outputs) (last : Option StepOut) (e : RecordError)
    → (h : TakesRecord server in_force old reached before rest lines lines_then outs half last) → NotesWhole outs.written outs_then.written h.events h.segments
    → RecordStops in_force server_then reached new longest F rest lines_then half outs_then e
    → IsRecordUnresumed server server_then old new longest F before lines outs outs_then e
stopped_at server server_then in_force old reached new longest F before rest lines lines_then outs half outs_then last e h noted why = record {
  text = h.text;
  events = h.events;
  segments = h.segments;
  rest = rest;
  reached = reached;
  in_force = in_force;
  half = half;
  says = h.says;
  whole = rest_is before rest h.text h.consumes;
  takes = record { periods = h.periods; stated = h.stated; frames = h.frames; runs = h.runs; in_force = h.in_force };
  shown = h.shown;
  noted = noted;
  why = subst (λ (n : ℕ). RecordStops in_force server_then reached new longest F rest n half outs_then e) h.counted why;
}

-- behind some segments
pub record_unresumed : SegmentTextsJoin → NotedJoin → (server mid server_then : Server) (first half new : Standing) (longest : ℕ) (F : Type 0)
    (before middle : Option (List ℕ)) (lines lines_mid : ℕ) (outs told whole : Outputs) (newest : Option StepOut) (e : RecordError)
    → TakesRecord server mid first half before middle lines lines_mid outs told newest → SegmentsStop mid server_then half new longest F middle lines_mid told whole e
    → IsRecordUnresumed server server_then first new longest F before lines outs whole e
record_unresumed join noted server mid server_then first half new longest F before middle lines lines_mid outs told whole newest e h s =
    let so = so_of server mid (config_behind server.config h.periods) half s.reached s.takes.periods s.last told.shown s.half.shown h.is_under s.takes.runs
    s.takes.last_is s.takes.shown in
    stopped_at server server_then s.in_force first s.reached new longest F before s.rest lines s.lines_then outs s.half whole (newest_of s.last newest) e
    (record_under join noted server mid s.in_force first half s.reached before middle s.rest lines lines_mid s.lines_then outs told s.half newest s.last h s.takes so.runs
    so.last_is so.shown)
    (notes_more noted outs.written told.written whole.written h.events h.segments s.takes.segments h.noted s.noted) s.why

-- among the events in front of them
pub front_unresumed : (server server_then : Server) (old new : Standing) (longest : ℕ) (F : Type 0) (before : Option (List ℕ)) (lines : ℕ) (outs outs_then : Outputs)
    (refusal : ResumeError) (e : RecordError) → e ≡ record_error_of refusal
    → server_then ≡ server → EventsStop server old new F before lines outs outs_then refusal
    → IsRecordUnresumed server server_then old new longest F before lines outs outs_then e
front_unresumed server server_then old new longest F before lines outs outs_then refusal e is same s =
    subst (λ (x : RecordError). IsRecordUnresumed server server_then old new longest F before lines outs outs_then x) (sym is)
    (subst (λ (x : Server). IsRecordUnresumed server x old new longest F before lines outs outs_then (record_error_of refusal)) (sym same)
    (stopped_at server server server old s.reached new longest F before s.rest lines s.lines_then outs s.half outs_then s.last (record_error_of refusal)
    (record_begun server old s.reached before s.rest lines s.lines_then outs s.half s.last s.takes)
    (record {
      between = outs_then.written;
      told = noted_at outs.written s.half.written outs_then.written s.takes.events refusal s.takes.noted s.stops.told;
      told_then = noted_none outs_then.written;
    })
    (event_stops server s.reached new longest F s.rest s.lines_then s.half outs_then refusal s.stops)))

pub unresumed_further : SegmentTextsJoin → NotedJoin → (old mid new : Engine) (longest : ℕ) (F : Type 0) (part half : Reading) (before middle : Option (List ℕ))
    (outs told whole : Outputs) (lines : ℕ) (newest : Option StepOut) (was_over : Bool) (e : RecordError) → was_over ≡ false
    → (h : RecordSoFar old mid part half before middle outs told lines newest was_over)
    → SegmentsStop mid.server new.server (standing_of mid) (standing_of new) longest F h.left_then half.number told whole e
    → IsRecordUnresumed old.server new.server (standing_of old) (standing_of new) longest F (pending part before) part.number outs whole e
unresumed_further join noted old mid new longest F part half before middle outs told whole lines newest was_over e on h s =
    record_unresumed join noted old.server mid.server new.server (standing_of old) (standing_of mid) (standing_of new) longest F (pending part before) h.left_then
    part.number half.number outs told whole newest e
    (subst (λ (n : ℕ). TakesRecord old.server mid.server (standing_of old) (standing_of mid) (pending part before) h.left_then part.number n outs told newest)
    (sym (h.number on)) h.takes) s

pub resumed_so : (old new : Engine) (part rest : Reading) (before after : Option (List ℕ)) (outs outs_then : Outputs) (lines : ℕ) (last : Option StepOut) (is_over : Bool)
    → is_over ≡ true
    → RecordSoFar old new part rest before after outs outs_then lines last is_over → IsRecordResumed old.server new.server (standing_of old) (standing_of new)
    (pending part before) part.number outs outs_then lines last
resumed_so old new part rest before after outs outs_then lines last is_over end h =
    record_resumed old.server new.server (standing_of old) (standing_of new) (pending part before) h.left_then part.number lines outs outs_then last h.takes (h.over end)

-- ---- fewer bytes are left

pub fewer_left : (old new : ℕ) (was_over over_then is_over : Bool) → was_over ≡ false → is_over ≡ over_then → (over_then ≡ false → new < old)
    → cond is_over 0 (new + 1) < cond was_over 0 (old + 1)
fewer_left old new true over_then is_over on same fewer = absurd cc
fewer_left old new false true true on same fewer = omega arith
fewer_left old new false true false on same fewer = absurd cc
fewer_left old new false false true on same fewer = absurd cc
fewer_left old new false false false on same fewer = let less : new < old = fewer refl in omega (arith, less)
