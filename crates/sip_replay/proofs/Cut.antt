-- A run over some events and more has been one over the first of them, and so has a record.
use Rattle.std.proofs.Common.{◌≡◌, ◌⊎◌, inl, inr, ◌∙◌, ℕ, List, [], ◌∷◌, ◌++◌, drop, reverse, append_assoc, append-nil, Option, Some, None, refl, sym, ap, ap₂, subst}
use Rattle.std.proofs.lemmas.List.{reverse-append, reverse-reverse}
use Rattle.std.specs.List.{AllByRecursion}
use Rattle.sip_event.specs.declared.event.Event.{Event}
use Rattle.sip_event.specs.declared.event.StepOut.{StepOut}
use Rattle.sip_config_types.specs.declared.config.Config.{Config}
use Rattle.sip_replay_script.specs.Recorded.{SaysRecord}
use Rattle.sip_journal.specs.Segments.{SaysWhole, Segment}
use Rattle.sip_model.specs.state.declared.proxy_state.ProxyState.{ProxyState}
use Rattle.sip_model.specs.TimerOrder.{Standing, first_standing, queue_from}
use Rattle.sip_model.specs.state.declared.server.Server.{Server}
use Rattle.sip_model.specs.state.State.{first_state}
use Rattle.sip_model.specs.steps_model.Step.{Act, Given, Passing}
use Rattle.sip_model.specs.Run.{Link, IsChain, IsPaced, IsRun, IsUnder, IsUpTo, event_of, events_of, next_moment, steps_of, under}
use Rattle.sip_model.specs.Periods.{IsRunUnder, Period, until_of}
use Rattle.model_transactions.specs.Queue.{Entry}
use Rattle.sip_model.proofs.Along.{queue_behind, queued_earlier, queued_later}
use Rattle.sip_model.specs.Ties.{AreOrderly}
use Rattle.sip_model.proofs.Orderly.{Orderly, orderly_joined}
use Rattle.sip_resume.specs.Resumes.{Runs}
use Rattle.sip_resume.specs.Whole.{AreStated, KeepsFrame, config_behind}
use Rattle.sip_loop.specs.Serving.{Doing, IsUnserved, Told, ahead, event_told, gathered, steps_taken, untold_in}
use Rattle.sip_loop.specs.declared.serve_error.ServeError.{ServeError}
use Rattle.sip_replay.specs.Recorded.{IsRecordedUnder, RecordsFront}
use Rattle.sip_replay.proofs.Joining.{RunsJoin, grown, grown_same, joined, periods_joined}
use Rattle.sip_replay.proofs.Recorded.{events_on, noted_text, orderly_turns, period_is}
use Rattle.sip_replay.proofs.Fronts.{GoesOn, Readings, says_on}

-- ---- histories

-- A history begins with one that took these events, the newest first, and did nothing behind the newest of them.
record Begins (server : Server) (queue : List Entry) (start : ProxyState) (taken : List Event) (history : List Link) : Type 0 where
  earlier : List Link
  later : List StepOut
  middle : ProxyState
  chain : IsChain server start earlier middle
  paced : IsPaced None earlier
  configured : AllByRecursion (IsUnder server.config) earlier
  orderly : AreOrderly server queue earlier
  events_are : events_of earlier ≡ taken
  steps_are : steps_of history ≡ later ++ steps_of earlier

-- a step more behind it
with_link : (server : Server) (queue : List Entry) (start : ProxyState) (taken : List Event) (link : Link) (history : List Link) → Begins server queue start taken history
    → Begins server queue start taken (link ∷ history)
with_link server queue start taken link history h = record {
  earlier = h.earlier;
  later = link.out ∷ h.later;
  middle = h.middle;
  chain = h.chain;
  paced = h.paced;
  configured = h.configured;
  orderly = h.orderly;
  events_are = h.events_are;
  steps_are = ap (λ (steps : List StepOut). link.out ∷ steps) h.steps_are;
}

-- none is left
none_taken : (left taken : List Event) → [] ≡ left ++ taken → [] ≡ taken
none_taken [] taken e = e
none_taken (event ∷ left) taken e = absurd (cc)

-- The newest step is that of the newest event; or it came behind that.
newest : (next : Option ℕ) (history : List Link) (left taken : List Event) (act : Act) → IsUpTo next act × IsPaced (next_moment next act) history
    → event_of act (events_of history) ≡ left ++ taken
    → ((IsUpTo None act × IsPaced (next_moment None act) history) × (event_of act (events_of history) ≡ taken))
    ⊎ ((more : List Event) × (events_of history ≡ more ++ taken))
newest next history left taken (Passing at) paced e = inr (left, e)
newest next history [] taken (Given event) paced e = inl ((tt, paced.1), e)
newest next history (first ∷ left) taken (Given event) paced e = inr (left, ap (drop 1) e)

begins : (server : Server) (queue : List Entry) (start last : ProxyState) (next : Option ℕ) (left taken : List Event) (history : List Link)
    → IsChain server start history last → IsPaced next history → AllByRecursion (IsUnder server.config) history → AreOrderly server queue history
    → events_of history ≡ left ++ taken → Begins server queue start taken history
begins server queue start last next left taken [] chain paced configured orderly e =
    record { earlier = []; later = []; middle = start; chain = refl; paced = tt; configured = tt; orderly = tt; events_are = none_taken left taken e; steps_are = refl }
begins server queue start last next left taken (link ∷ history) chain paced configured orderly e =
    by_newest (newest next history left taken link.act paced e) (λ more is. begins server queue start link.before (next_moment next link.act) more taken history chain.2
    paced.1 configured.1 orderly.1 is) where
      by_newest : ((IsUpTo None link.act × IsPaced (next_moment None link.act) history) × (event_of link.act (events_of history) ≡ taken))
          ⊎ ((more : List Event) × (events_of history ≡ more ++ taken))
          → ((more : List Event) → events_of history ≡ more ++ taken → Begins server queue start taken history) → Begins server queue start taken (link ∷ history)
      by_newest (inl is) rest = record {
        earlier = link ∷ history;
        later = [];
        middle = last;
        chain = chain;
        paced = is.0;
        configured = configured;
        orderly = orderly;
        events_are = is.1;
        steps_are = refl;
      }
      by_newest (inr is) rest = with_link server queue start taken link history (rest is.0 is.1)

-- ---- a run

-- so a run has a front
pub record RunFront (server : Server) (start : Standing) (events : List Event) (steps : List StepOut) : Type 0 where
  pub middle : Standing
  pub further : List StepOut
  pub runs : Runs server start middle events None
  pub cut : steps ≡ runs.steps ++ further

pub run_front : (server : Server) (start : Standing) (last : ProxyState) (events more : List Event) (until : Option ℕ) (steps : List StepOut) (history : List Link)
    → IsRun server start.state (events ++ more) until steps history last → AreOrderly server start.queue history
    → RunFront server start events steps
run_front server start last events more until steps history run orderly =
    let newest_first : events_of history ≡ reverse more ++ reverse events = sym (reverse-reverse (events_of history)) ∙ ap reverse run.of_events
    ∙ reverse-append events more in
    let h : Begins server start.queue start.state (reverse events) history =
    begins server start.queue start.state last until (reverse more) (reverse events) history run.chain run.paced run.configured orderly newest_first in
    record {
      middle = record { state = h.middle; queue = queue_from start.queue h.earlier };
      further = reverse h.later;
      runs = record {
        steps = reverse (steps_of h.earlier);
        history = h.earlier;
        is_run = record { chain = h.chain; paced = h.paced; of_events = ap reverse h.events_are ∙ reverse-reverse events; of_steps = refl; configured = h.configured };
        orderly = h.orderly;
        queue = refl;
      };
      cut = sym run.of_steps ∙ ap reverse h.steps_are ∙ reverse-append h.later (steps_of h.earlier);
    }

-- and so has one over periods
record PeriodsFront (server : Server) (config : Config) (events : List Event) (periods : List Period) (start : Standing) (steps : List StepOut) : Type 0 where
  front : List StepOut
  further : List StepOut
  cut : steps ≡ front ++ further
  middle : Standing
  history : List Link
  is_run : IsRunUnder server start.state (record { config = config; events = events } ∷ periods) None front history middle.state
  orderly : AreOrderly server start.queue history
  queue : middle.queue ≡ queue_from start.queue history

periods_front : (server : Server) (config : Config) (events : List Event) (periods : List Period) (more : List Event) (behind : List Period) (start : Standing)
    (last : ProxyState) (steps : List StepOut) (history : List Link)
    → IsRunUnder server start.state (record { config = config; events = grown events periods more } ∷ periods_joined periods more behind) None steps history last
    → AreOrderly server start.queue history → PeriodsFront server config events periods start steps
periods_front server config events [] more behind start last steps history h orderly =
    let own : AreOrderly server start.queue h.earlier = queued_earlier (Orderly server) start.queue h.earlier h.later
    (subst (λ (links : List Link). AreOrderly server start.queue links) h.of_history orderly) in
    let so : RunFront (under server config) start events h.own = run_front (under server config) start h.middle events more (until_of behind None) h.own h.earlier
    h.is_run own in
    record {
      front = so.runs.steps;
      further = so.further ++ h.further;
      cut = h.of_steps ∙ ap (λ (outs : List StepOut). outs ++ h.further) so.cut ∙ append_assoc so.runs.steps so.further h.further;
      middle = so.middle;
      history = so.runs.history;
      is_run = record {
        own = so.runs.steps;
        further = [];
        earlier = so.runs.history;
        later = [];
        middle = so.middle.state;
        is_run = so.runs.is_run;
        behind = record { no_steps = refl; no_history = refl; stays = refl };
        of_steps = sym (append-nil so.runs.steps);
        of_history = refl;
      };
      orderly = so.runs.orderly;
      queue = so.runs.queue;
    }
periods_front server config events (period ∷ periods) more behind start last steps history h orderly =
    let all : AreOrderly server start.queue (h.later ++ h.earlier) = subst (λ (links : List Link). AreOrderly server start.queue links) h.of_history orderly in
    let then : Standing = record { state = h.middle; queue = queue_from start.queue h.earlier } in
    let so : PeriodsFront server period.config period.events periods then h.further =
    periods_front server period.config period.events periods more behind then last h.further h.later h.behind
    (queued_later (Orderly server) start.queue h.earlier h.later all) in
    record {
      front = h.own ++ so.front;
      further = so.further;
      cut = h.of_steps ∙ ap (λ (outs : List StepOut). h.own ++ outs) so.cut ∙ sym (append_assoc h.own so.front so.further);
      middle = so.middle;
      history = so.history ++ h.earlier;
      is_run = record {
        own = h.own;
        further = so.front;
        earlier = h.earlier;
        later = so.history;
        middle = h.middle;
        is_run = h.is_run;
        behind = so.is_run;
        of_steps = refl;
        of_history = refl;
      };
      orderly = orderly_joined server start then h.earlier so.history refl (queued_earlier (Orderly server) start.queue h.earlier h.later all) so.orderly;
      queue = queue_behind start then so.middle h.earlier so.history refl so.queue;
    }

-- ---- a record

-- of joined segments the first ones state the first periods
record StatedFront (server : Server) (segments : List Segment) (more : List Event) (periods : List Period) : Type 0 where
  front : List Period
  behind : List Period
  periods_are : periods ≡ periods_joined front more behind
  stated : AreStated segments front
  frames : AllByRecursion (KeepsFrame server) front

stated_front : (server : Server) (segments : List Segment) (more : List Event) (others : List Segment) (periods : List Period)
    → AreStated (joined segments more others) periods → AllByRecursion (KeepsFrame server) periods → StatedFront server segments more periods
stated_front server [] more others periods h frames = record { front = []; behind = periods; periods_are = refl; stated = tt; frames = tt }
stated_front server (segment ∷ segments) more others [] h frames = absurd h
stated_front server (segment ∷ segments) more others (period ∷ periods) h frames =
    let so : StatedFront server segments more periods = stated_front server segments more others periods h.1 frames.1 in
    record {
      front = record { config = period.config; events = segment.events } ∷ so.front;
      behind = so.behind;
      periods_are = ap₂ (λ (p : Period) (ps : List Period). p ∷ ps)
          (period_is period (record { config = period.config; events = grown segment.events so.front more }) refl
          (h.0.same ∙ sym (grown_same segments so.front segment.events segment.events more so.stated refl))) so.periods_are;
      stated = (record { states = h.0.states; same = refl }, so.stated);
      frames = (frames.0, so.frames);
    }

-- a record of which the first part says events and segments
pub front_recorded : Readings → (server now : Server) (first : ℕ) (text further : List ℕ) (steps : List StepOut) (last : Standing) (events : List Event)
    (segments : List Segment) → IsRecordedUnder server now first (text ++ further) steps last → SaysWhole events segments text
    → RecordsFront server first text steps
front_recorded r server now first text further steps last events segments h says =
    let on : GoesOn events segments h.events h.segments further = says_on r events h.events segments h.segments text further says h.says in
    let so : StatedFront server segments on.more h.periods = stated_front server segments on.more on.others h.periods
    (subst (λ (ss : List Segment). AreStated ss h.periods) on.segments_are h.stated) h.frames in
    let own : h.events ≡ grown events so.front on.more = on.events_are ∙ sym (grown_same segments so.front events events on.more so.stated refl) in
    let run : IsRunUnder server (first_state first) (record { config = server.config; events = grown events so.front on.more }
    ∷ periods_joined so.front on.more so.behind) None steps h.history last.state =
    subst (λ (es : List Event). IsRunUnder server (first_state first) (record { config = server.config; events = es } ∷ periods_joined so.front on.more so.behind) None
    steps h.history last.state) own
    (subst (λ (ps : List Period). IsRunUnder server (first_state first) (record { config = server.config; events = h.events } ∷ ps) None steps h.history last.state)
    so.periods_are h.is_run) in
    let front : PeriodsFront server server.config events so.front (first_standing first) steps =
    periods_front server server.config events so.front on.more so.behind (first_standing first) last.state steps h.history run h.orderly in
    record {
      front = front.front;
      further = front.further;
      cut = front.cut;
      server_then = record { config = config_behind server.config so.front; word = server.word };
      last = front.middle;
      recorded = record {
        events = events;
        segments = segments;
        periods = so.front;
        says = says;
        stated = so.stated;
        frames = so.frames;
        history = front.history;
        is_run = front.is_run;
        orderly = front.orderly;
        queue = front.queue;
        in_force = refl;
      };
    }

-- of serving that was refused, up to the last event that the journal was told
pub unserved_on : RunsJoin → (server now : Server) (first : ℕ) (text : List ℕ) (steps : List StepOut) (turns : ℕ) (old new : Standing) (before after : Told)
    (e : ServeError) (front more : List ℕ) → IsRecordedUnder server now first text steps old
    → (unserved : IsUnserved turns now old new before after e) → before.journal.bytes ≡ Some (Some front) → after.journal.bytes ≡ Some (Some (front ++ more))
    → RecordsFront server first (text ++ more) (steps ++ gathered steps_taken unserved.done)
unserved_on join server now first text steps turns old new before after e front more h unserved was is =
    let done : List Doing = unserved.done in
    let told : List Event = gathered event_told done in
    let says : SaysRecord told more = noted_text before.journal.bytes after.journal.bytes front more told was is unserved.serves.told.noted in
    let run : IsRun now old.state (told ++ untold_in unserved.point.stage) (ahead done) (gathered steps_taken done) unserved.serves.history new.state =
    subst (λ (es : List Event). IsRun now old.state es (ahead done) (gathered steps_taken done) unserved.serves.history new.state) unserved.told_but_last
    unserved.serves.is_run in
    let so : RunFront now old told (gathered steps_taken done) =
    run_front now old new.state told (untold_in unserved.point.stage) (ahead done) (gathered steps_taken done) unserved.serves.history run
    (orderly_turns now old.queue unserved.serves.history unserved.serves.is_run.configured unserved.serves.turns) in
    record {
      front = steps ++ so.runs.steps;
      further = so.further;
      cut = ap (λ (outs : List StepOut). steps ++ outs) so.cut ∙ sym (append_assoc steps so.runs.steps so.further);
      server_then = now;
      last = so.middle;
      recorded = events_on join server now first text more steps old so.middle told h says so.runs;
    }
