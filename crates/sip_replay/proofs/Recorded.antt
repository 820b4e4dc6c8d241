-- Records, one behind the other, and two of one text.
use Rattle.std.proofs.Common.{◌≡◌, ◌∙◌, ℕ, List, [], ◌∷◌, ◌++◌, append_assoc, append-nil, Option, Some, None, refl, sym, ap, ap₂, subst}
use Rattle.std.specs.Io.KnownBytes.{Appends}
use Rattle.std.specs.List.{AllByRecursion}
use Rattle.sip_config_types.specs.declared.config.Config.{Config}
use Rattle.sip_config_change.specs.Frame.{frame_key_of}
use Rattle.sip_event.specs.declared.event.Event.{Event}
use Rattle.sip_event.specs.declared.event.Event.TheVariants.{Datagram, Time, Fault}
use Rattle.sip_event.specs.declared.event.StepOut.{StepOut}
use Rattle.sip_replay_script.specs.Events.{SaysEvents}
use Rattle.sip_replay_script.specs.Recorded.{SaysRecord}
use Rattle.sip_journal.specs.Segments.{SaysConfiguration, SaysWhole, Segment}
use Rattle.sip_config.specs.Stated.{States}
use Rattle.sip_replay_print.specs.Print.{printed}
use Rattle.sip_journal.specs.Record.{GrewBy, Notes, NotesConfiguration, NotesSegments, NotesText}
use Rattle.sip_model.specs.state.declared.proxy_state.ProxyState.{ProxyState}
use Rattle.sip_model.specs.TimerOrder.{Standing, first_standing}
use Rattle.sip_model.specs.state.declared.server.Server.{Server}
use Rattle.sip_model.specs.state.State.{first_state}
use Rattle.sip_model.specs.state.SameState.{SameState}
use Rattle.sip_model.specs.steps_model.Step.{Act, Given, Passing}
use Rattle.sip_model.specs.Run.{Link, IsChain, IsUnder, under}
use Rattle.sip_model.specs.Periods.{IsRunUnder, Period}
use Rattle.model_transactions.specs.Queue.{Entry}
use Rattle.sip_model.proofs.Along.{queued_weaker}
use Rattle.sip_model.specs.Ties.{AreOne, AreOrderly, IsOrderly}
use Rattle.sip_model.proofs.Orderly.{Orderly}
use Rattle.sip_resume.specs.Outputs.{Outputs}
use Rattle.sip_resume.specs.Resumes.{Runs}
use Rattle.sip_resume.specs.Whole.{AreStated, IsRecordResumed, TakesWhole, config_behind}
use Rattle.sip_resume.proofs.UnderRuns.{runs_one}
use Rattle.sip_loop.specs.Replays.{ReplaysTo}
use Rattle.sip_loop.specs.Serving.{AreInTurn, IsTurnOf}
use Rattle.sip_replay.specs.Recorded.{IsRecordedUnder}
use Rattle.sip_replay.proofs.Joining.{RunsJoin, recorded_on}
use Rattle.sip_replay.proofs.OneList.{rest_is}

-- ---- turns

-- an event that came in its turn came promptly, and the first of what was due happened
orderly_turn : (server : Server) (queue : List Entry) (before after : ProxyState) (act : Act) (out : StepOut) → IsTurnOf server queue before act out after
    → IsOrderly server queue before act out after
orderly_turn server queue before after (Given (Datagram at word from bytes)) out turn = tt
orderly_turn server queue before after (Given (Time at)) out turn = tt
orderly_turn server queue before after (Given (Fault at ticket)) out turn = (turn.1.none_due.none, turn.1.none_due.none_again)
orderly_turn server queue before after (Passing at) out turn = turn

-- under its own configuration
pub under_own : (server : Server) (queue : List Entry) (link : Link) → IsUnder server.config link → IsOrderly server queue link.before link.act link.out link.after
    → Orderly server queue link
under_own server queue link is orderly = subst (λ (c : Config). IsOrderly (under server c) queue link.before link.act link.out link.after) (sym is) orderly

pub orderly_turns : (server : Server) (queue : List Entry) (history : List Link) → AllByRecursion (IsUnder server.config) history → AreInTurn server queue history
    → AreOrderly server queue history
orderly_turns server queue history configured turns =
    queued_weaker (IsUnder server.config) (λ (standing : List Entry) (link : Link). IsTurnOf server standing link.before link.act link.out link.after) (Orderly server)
    (λ standing link is turn. under_own server standing link is (orderly_turn server standing link.before link.after link.act link.out turn)) queue history configured
    turns

-- ---- what is taken under the configuration that is in force

-- a text of events alone
pub says_alone : (events : List Event) (text : List ℕ) → SaysRecord events text → SaysWhole events [] text
says_alone events text says = record { taken = text; rest = []; cut = sym (append-nil text); says = says; others = refl }

-- and a run over them
abbrev pub takes_alone : (server : Server) (old new : Standing) (events : List Event) → Runs server old new events None → TakesWhole server server old new events []
takes_alone server old new events runs = record { periods = []; stated = tt; frames = tt; runs = runs_one server server.config old new events runs; in_force = refl }

-- ---- one record behind another

pub nothing_recorded : (server : Server) (first : ℕ) → IsRecordedUnder server server first [] [] (first_standing first)
nothing_recorded server first = record {
  events = [];
  segments = [];
  periods = [];
  says = says_alone [] [] refl;
  stated = tt;
  frames = tt;
  history = [];
  is_run = record {
    own = [];
    further = [];
    earlier = [];
    later = [];
    middle = first_state first;
    is_run = record { chain = refl; paced = tt; of_events = refl; of_steps = refl; configured = tt };
    behind = record { no_steps = refl; no_history = refl; stays = refl };
    of_steps = refl;
    of_history = refl;
  };
  orderly = tt;
  queue = refl;
  in_force = refl;
}

-- events more, under the configuration that is in force
pub events_on : RunsJoin → (server now : Server) (first : ℕ) (text more : List ℕ) (steps : List StepOut) (old new : Standing) (events : List Event)
    → IsRecordedUnder server now first text steps old → SaysRecord events more
    → (runs : Runs now old new events None) → IsRecordedUnder server now first (text ++ more) (steps ++ runs.steps) new
events_on join server now first text more steps old new events h says runs =
    recorded_on join server now now first text more steps old new events [] h (says_alone events more says) (takes_alone now old new events runs)

-- what a journal was told of events
pub noted_text : (before after : Option (Option (List ℕ))) (front more : List ℕ) (events : List Event) → before ≡ Some (Some front) → after ≡ Some (Some (front ++ more))
    → Notes before after events → SaysRecord events more
noted_text before after front more events was is noted =
    let so : NotesText front (front ++ more) events =
    subst (λ (w : Option (Option (List ℕ))). Notes (Some (Some front)) w events) is (subst (λ (w : Option (Option (List ℕ))). Notes w after events) was noted) in
    subst (λ (l : List ℕ). SaysRecord events l) (sym (rest_is front more so.text so.grown)) so.says

abbrev pub OneScript : Type 0
OneScript = (events others : List Event) (text : List ℕ) → SaysEvents events text → SaysEvents others text → events ≡ others

abbrev pub RecordsSay : Type 0
RecordsSay = (events : List Event) (text : List ℕ) → SaysRecord events text → SaysEvents events text

-- by serving
pub served_on : RunsJoin → OneScript → RecordsSay → (server now : Server) (first : ℕ) (text : List ℕ) (steps further : List StepOut) (old new : Standing)
    (front more : List ℕ) (told : List Event) → IsRecordedUnder server now first text steps old
    → SaysRecord told more → ReplaysTo now old new front (front ++ more) None further → IsRecordedUnder server now first (text ++ more) (steps ++ further) new
served_on join one record_says server now first text steps further old new front more told h says replays =
    let is_so : SaysEvents replays.events more = subst (λ (l : List ℕ). SaysEvents replays.events l) (sym (rest_is front more replays.text replays.grown)) replays.says in
    let same : told ≡ replays.events = one told replays.events more (record_says told more says) is_so in
    events_on join server now first text more steps old new replays.events h (subst (λ (es : List Event). SaysRecord es more) same says)
    (record {
      steps = further;
      history = replays.history;
      is_run = replays.is_run;
      orderly =
          orderly_turns now old.queue replays.history replays.is_run.configured replays.turns;
      queue = replays.queue;
    })

-- by a configuration that came into force
says_configuration : (bytes text : List ℕ) → SaysConfiguration text bytes → SaysWhole [] (record { configuration = bytes; events = [] } ∷ []) text
says_configuration bytes text says = record {
  taken = [];
  rest = text;
  cut = refl;
  says = refl;
  others = record { first = text; taken = []; rest = []; cut = sym (append-nil text); configured = says; says = refl; others = refl };
}

abbrev takes_configuration : (now : Server) (state : Standing) (bytes : List ℕ) (config : Config) → States bytes config
    → record { config = config; word = now.word } ≡ under now config
    → TakesWhole now (record { config = config; word = now.word }) state state [] (record { configuration = bytes; events = [] } ∷ [])
takes_configuration now state bytes config states keeps = record {
  periods = record { config = config; events = [] } ∷ [];
  stated = (record { states = states; same = refl }, tt);
  frames = (keeps, tt);
  runs = record {
    steps = [];
    history = [];
    is_run = record {
      own = [];
      further = [];
      earlier = [];
      later = [];
      middle = state.state;
      is_run = record { chain = refl; paced = tt; of_events = refl; of_steps = refl; configured = tt };
      behind = record {
        own = [];
        further = [];
        earlier = [];
        later = [];
        middle = state.state;
        is_run = record { chain = refl; paced = tt; of_events = refl; of_steps = refl; configured = tt };
        behind = record { no_steps = refl; no_history = refl; stays = refl };
        of_steps = refl;
        of_history = refl;
      };
      of_steps = refl;
      of_history = refl;
    };
    orderly = tt;
    queue = refl;
  };
  in_force = refl;
}

abbrev pub PolicyIsNew : Type 0
PolicyIsNew = (old new : Config) → frame_key_of old new ≡ None → record new { own = old.own; realm = old.realm } ≡ new

pub changed_on : RunsJoin → PolicyIsNew → (server now : Server) (first : ℕ) (text : List ℕ) (steps : List StepOut) (last : Standing) (bytes : List ℕ) (config : Config)
    (front more : List ℕ) → IsRecordedUnder server now first text steps last
    → States bytes config → frame_key_of now.config config ≡ None → NotesConfiguration (Some (Some front)) (Some (Some (front ++ more))) bytes
    → IsRecordedUnder server (record { config = config; word = now.word }) first (text ++ more) steps last
changed_on join policy server now first text steps last bytes config front more h states same_frame noted =
    let so : GrewBy (λ (l : List ℕ). SaysConfiguration l bytes) front (front ++ more) = noted in
    let then_server : Server = record { config = config; word = now.word } in
    let keeps : then_server ≡ under now config = ap (λ (c : Config). let s : Server = record { config = c; word = now.word } in s)
    (sym (policy now.config config same_frame)) in
    subst (λ (outs : List StepOut). IsRecordedUnder server then_server first (text ++ more) outs last) (append-nil steps)
    (recorded_on join server now then_server first text more steps last last [] (record { configuration = bytes; events = [] } ∷ []) h
    (says_configuration bytes more (subst (λ (l : List ℕ). SaysConfiguration l bytes) (sym (rest_is front more so.text so.grown)) so.says))
    (takes_configuration now last bytes config states keeps))

-- by going on from a record
pub resumed_on : RunsJoin → (server now server_then : Server) (first : ℕ) (text : List ℕ) (steps : List StepOut) (old new : Standing) (bytes : Option (List ℕ))
    (lines lines_then : ℕ) (outs outs_then : Outputs) (last : Option StepOut)
    → IsRecordedUnder server now first text steps old → (resumed : IsRecordResumed now server_then old new bytes lines outs outs_then lines_then last)
    → IsRecordedUnder server server_then first (text ++ resumed.text) (steps ++ resumed.takes.runs.steps) new
resumed_on join server now server_then first text steps old new bytes lines lines_then outs outs_then last h resumed =
    recorded_on join server now server_then first text resumed.text steps old new resumed.events resumed.segments h resumed.says resumed.takes

-- by what the journal was told of it
noted_whole : (front more : List ℕ) (between : Option (Option (List ℕ))) (events : List Event) (segments : List Segment) → Notes (Some (Some front)) between events
    → NotesSegments between (Some (Some (front ++ more))) segments → SaysWhole events segments more
noted_whole front more None events segments h k = absurd k
noted_whole front more (Some None) events segments h k = absurd h
noted_whole front more (Some (Some half)) events segments h k = record {
  taken = h.text;
  rest = k.text;
  cut = rest_is front more (h.text ++ k.text) (k.grown ∙ ap (λ (l : List ℕ). l ++ k.text) h.grown ∙ append_assoc front h.text k.text);
  says = h.says;
  others = k.says;
}

pub told_on : RunsJoin → (server now server_then : Server) (first : ℕ) (text : List ℕ) (steps : List StepOut) (old new : Standing) (bytes : Option (List ℕ))
    (lines lines_then : ℕ) (outs outs_then : Outputs) (last : Option StepOut) (front more : List ℕ)
    → IsRecordedUnder server now first text steps old → (resumed : IsRecordResumed now server_then old new bytes lines outs outs_then lines_then last)
    → outs.written ≡ Some (Some front) → outs_then.written ≡ Some (Some (front ++ more))
    → IsRecordedUnder server server_then first (text ++ more) (steps ++ resumed.takes.runs.steps) new
told_on join server now server_then first text steps old new bytes lines lines_then outs outs_then last front more h resumed was is =
    let says : SaysWhole resumed.events resumed.segments more = noted_whole front more resumed.noted.between resumed.events resumed.segments
    (subst (λ (w : Option (Option (List ℕ))). Notes w resumed.noted.between resumed.events) was resumed.noted.told)
    (subst (λ (w : Option (Option (List ℕ))). NotesSegments resumed.noted.between w resumed.segments) is resumed.noted.told_then) in
    recorded_on join server now server_then first text more steps old new resumed.events resumed.segments h says resumed.takes

-- ---- two of one text

abbrev pub RunsAreOne : Type 0
RunsAreOne =
    (server : Server) (first : ℕ) (past : List Link) (queue : List Entry) (start other_start last end : ProxyState) (periods : List Period) (steps others : List StepOut)
    (history its : List Link)
    → IsChain server (first_state first) past start → SameState start other_start → IsRunUnder server start periods None steps history last
    → IsRunUnder server other_start periods None others its end
    → AreOrderly server queue history → AreOrderly server queue its → AreOne steps others last end

abbrev pub OneWhole : Type 0
OneWhole = (events taken : List Event) (segments others : List Segment) (text : List ℕ) → SaysWhole events segments text → SaysWhole taken others text
    → (events ≡ taken) × (segments ≡ others)

-- bytes state one configuration
one_config : (bytes : List ℕ) (config other : Config) → States bytes config → States bytes other → config ≡ other
one_config bytes config other h k = let a = h.stated in let b = k.stated in cc

pub period_is : (period other : Period) → period.config ≡ other.config → period.events ≡ other.events → period ≡ other
period_is period other c e = ap₂ (λ (config : Config) (events : List Event). let p : Period = record { config = config; events = events } in p) c e

one_stated : (segments : List Segment) (periods others : List Period) → AreStated segments periods → AreStated segments others → periods ≡ others
one_stated [] [] [] h k = refl
one_stated [] [] (other ∷ others) h k = absurd k
one_stated [] (period ∷ periods) others h k = absurd h
one_stated (segment ∷ segments) [] others h k = absurd h
one_stated (segment ∷ segments) (period ∷ periods) [] h k = absurd k
one_stated (segment ∷ segments) (period ∷ periods) (other ∷ others) h k =
    ap₂ (λ (p : Period) (ps : List Period). p ∷ ps)
    (period_is period other (one_config segment.configuration period.config other.config h.0.states k.0.states) (h.0.same ∙ sym k.0.same))
    (one_stated segments periods others h.1 k.1)

-- the events and periods of two records of one text
record SameText (events others : List Event) (periods other_periods : List Period) : Type 0 where
  events_are : others ≡ events
  periods_are : other_periods ≡ periods

same_text : OneWhole → (server now then_server : Server) (first : ℕ) (text : List ℕ) (steps others : List StepOut) (last end : Standing)
    → (h : IsRecordedUnder server now first text steps last) → (k : IsRecordedUnder server then_server first text others end)
    → SameText h.events k.events h.periods k.periods
same_text one server now then_server first text steps others last end h k =
    let same = one k.events h.events k.segments h.segments text k.says h.says in
    record {
      events_are = same.0;
      periods_are = one_stated h.segments k.periods h.periods (subst (λ (segments : List Segment). AreStated segments k.periods) same.1 k.stated) h.stated;
    }

pub first_same : (first : ℕ) → SameState (first_state first) (first_state first)
first_same first = record { moment = refl; next = refl; bindings = λ aor moment le. refl; nonces = refl; requests = refl; dialogs = λ p. refl }

pub one_record : RunsAreOne → OneWhole → (server now then_server : Server) (first : ℕ) (text : List ℕ) (steps others : List StepOut) (last end : Standing)
    → IsRecordedUnder server now first text steps last → IsRecordedUnder server then_server first text others end
    → AreOne steps others last.state end.state
one_record are one server now then_server first text steps others last end h k =
    let same = same_text one server now then_server first text steps others last end h k in
    are server first [] [] (first_state first) (first_state first) last.state end.state (record { config = server.config; events = h.events } ∷ h.periods) steps others
    h.history k.history refl (first_same first) h.is_run
    (subst (λ (es : List Event). IsRunUnder server (first_state first) (record { config = server.config; events = es } ∷ h.periods) None others k.history end.state)
    same.events_are
    (subst (λ (ps : List Period). IsRunUnder server (first_state first) (record { config = server.config; events = k.events } ∷ ps) None others k.history end.state)
    same.periods_are k.is_run))
    h.orderly k.orderly

-- and one configuration is in force behind it
pub one_in_force : OneWhole → (server now then_server : Server) (first : ℕ) (text : List ℕ) (steps others : List StepOut) (last end : Standing)
    → IsRecordedUnder server now first text steps last → IsRecordedUnder server then_server first text others end
    → now ≡ then_server
one_in_force one server now then_server first text steps others last end h k =
    let same = same_text one server now then_server first text steps others last end h k in
    h.in_force ∙ ap (λ (ps : List Period). let s : Server = record { config = config_behind server.config ps; word = server.word } in s) (sym same.periods_are)
    ∙ sym k.in_force

-- ---- what is printed

pub prints_served : (steps others : List StepOut) (last end : ProxyState) (old new : Option (List ℕ)) → Appends old new (printed others) → AreOne steps others last end
    → Appends old new (printed steps)
prints_served steps others last end old new written one = subst (λ (outs : List StepOut). Appends old new (printed outs)) (sym one.steps_are) written
