-- A run of the server, step by step.
use Rattle.std.proofs.Common.{◌≡◌, inr, ℕ, List, [], ◌∷◌, ◌++◌, Option, None, Some, refl, sym, ◌∙◌, ap, subst, append-nil}
use Rattle.std.proofs.lemmas.Grind.{flat_map-append}
use Rattle.std.proofs.lemmas.List.{reverse-append}
use Rattle.std.proofs.KnownBytes.{Appends-nil, Appends-trans}
use Rattle.std.specs.Io.KnownBytes.{Appends}
use Rattle.sip_event.specs.declared.event.Event.{Event}
use Rattle.sip_event.specs.declared.event.Event.TheVariants.{Datagram, Time, Fault}
use Rattle.sip_event.specs.declared.event.StepOut.{StepOut}
use Rattle.sip_model.specs.state.declared.server.Server.{Server}
use Rattle.sip_model.specs.state.declared.proxy_state.ProxyState.{ProxyState}
use Rattle.sip_model.specs.TimerOrder.{IsFirstOf, IsQueueAfter, Standing}
use Rattle.sip_model.specs.steps_model.Step.{Given, IsStep, Passing, moment_of}
use Rattle.sip_model.specs.Run.{Link, IsRun, event_moment, events_of, steps_of, first_moment}
use Rattle.model_transactions.specs.Queue.{Entry}
use Rattle.sip_model.proofs.Along.{queue_behind, queue_next}
use Rattle.sip_model.specs.Ties.{IsPrompt}
use Rattle.sip_model.proofs.Orderly.{orderly_joined}
use Rattle.sip_run.specs.Due.{Fires, NothingDueBy}
use Rattle.sip_run.proofs.RunOn.{run_on}
use Rattle.sip_replay_print.specs.Print.{printed, step_text}
use Rattle.sip_replay_script.specs.Devices.{WritesFront}
use Rattle.sip_replay_script.proofs.Fronts.{front_second}
use Rattle.sip_resume.specs.Outputs.{Shows, ShowsFront}
use Rattle.sip_resume.specs.Resumes.{Runs, RunsPart, RunsShown, TakesOwn, newest_step}

-- ---- all that is due happens first

-- an event that comes once nothing is due by its moment waited for all that was
pub prompt_event : (server : Server) (mid new : ProxyState) (event : Event) (out : StepOut) → NothingDueBy (moment_of mid (event_moment event)) mid
    → IsPrompt server mid (Given event) out new
prompt_event server mid new (Datagram at word from bytes) out none = tt
prompt_event server mid new (Time at) out none = tt
prompt_event server mid new (Fault at ticket) out none = (none.none, none.none_again)

-- ---- runs

-- no step yet
abbrev pub runs_nothing : (server : Server) (state : Standing) (until : Option ℕ) → Runs server state state [] until
runs_nothing server state until = record {
  steps = [];
  history = [];
  is_run = record { chain = refl; paced = tt; of_events = refl; of_steps = refl; configured = tt };
  orderly = tt;
  queue = refl;
}

-- what is due happens
abbrev pub runs_firing : (server : Server) (old mid new : Standing) (at : ℕ) (out : StepOut) → Runs server old mid [] (Some at) → Fires server mid at out new
    → Runs server old new [] (Some at)
runs_firing server old mid new at out h fires = record {
  steps = h.steps ++ out ∷ [];
  history = record { config = server.config; before = mid.state; act = Passing at; out = out; after = new.state } ∷ h.history;
  is_run = record {
    chain = (refl, inr fires.happens.happens, h.is_run.chain);
    paced = (refl, h.is_run.paced);
    of_events = h.is_run.of_events;
    of_steps = reverse-append (out ∷ []) (steps_of h.history) ∙ ap (λ l. l ++ out ∷ []) h.is_run.of_steps;
    configured = (refl, h.is_run.configured);
  };
  orderly = (subst (λ (q : List Entry). IsFirstOf server q mid.state at out new.state) h.queue fires.happens, h.orderly);
  queue = queue_next old mid new h.history h.queue fires.queue;
}

-- an event's own step comes
abbrev pub runs_given : (server : Server) (old mid new : Standing) (event : Event) (out : StepOut) → Runs server old mid [] (Some (event_moment event))
    → NothingDueBy (moment_of mid.state (event_moment event)) mid.state → IsStep server mid.state (Given event) out new.state
    → IsQueueAfter mid new → Runs server old new (event ∷ []) None
runs_given server old mid new event out h none step queue = record {
  steps = h.steps ++ out ∷ [];
  history = record { config = server.config; before = mid.state; act = Given event; out = out; after = new.state } ∷ h.history;
  is_run = record {
    chain = (refl, step, h.is_run.chain);
    paced = (tt, h.is_run.paced);
    of_events = reverse-append (event ∷ []) (events_of h.history) ∙ ap (λ l. l ++ event ∷ []) h.is_run.of_events;
    of_steps = reverse-append (out ∷ []) (steps_of h.history) ∙ ap (λ l. l ++ out ∷ []) h.is_run.of_steps;
    configured = (refl, h.is_run.configured);
  };
  orderly = (prompt_event server mid.state new.state event out none, h.orderly);
  queue = queue_next old mid new h.history h.queue queue;
}

-- ---- what is shown of it

pub printed_more : (steps : List StepOut) (out : StepOut) → printed (steps ++ out ∷ []) ≡ printed steps ++ step_text out
printed_more steps out = flat_map-append step_text steps (out ∷ []) ∙ ap (λ l. printed steps ++ l) (append-nil (step_text out))

shown_more : (a b c : Option (List ℕ)) (steps : List StepOut) (out : StepOut) → Shows a b steps → Appends b c (step_text out) → Shows a c (steps ++ out ∷ [])
shown_more a b c steps out h one = subst (λ l. Appends a c l) (sym (printed_more steps out)) (Appends-trans a b c (printed steps) (step_text out) h one)

front_more : (a b c : Option (List ℕ)) (steps : List StepOut) (out : StepOut) → Shows a b steps → WritesFront b c (step_text out) → ShowsFront a c (steps ++ out ∷ [])
front_more a b c steps out h one = subst (λ l. WritesFront a c l) (sym (printed_more steps out)) (front_second a b c (printed steps) (step_text out) h one)

-- one list of steps behind the other
pub shown_both : (a b c : Option (List ℕ)) (steps more : List StepOut) → Shows a b steps → Shows b c more → Shows a c (steps ++ more)
shown_both a b c steps more h k = subst (λ l. Appends a c l) (sym (flat_map-append step_text steps more)) (Appends-trans a b c (printed steps) (printed more) h k)

pub shows_nothing : (server : Server) (state : Standing) (until : Option ℕ) (a : Option (List ℕ)) → RunsShown server state state [] until a a
shows_nothing server state until a = record { runs = runs_nothing server state until; all = Appends-nil a }

-- what is due happens, of the server as it is then, and is shown
firing_shown : (server : Server) (old mid new : Standing) (at : ℕ) (out : StepOut) (a b c : Option (List ℕ)) → RunsShown server old mid [] (Some at) a b
    → Fires server mid at out new → Appends b c (step_text out) → RunsShown server old new [] (Some at) a c
firing_shown server old mid new at out a b c h fires one = record {
  runs = runs_firing server old mid new at out h.runs fires;
  all = shown_more a b c h.runs.steps out h.all one;
}

pub shows_firing : (server then_server : Server) (old mid new : Standing) (at : ℕ) (out : StepOut) (a b c : Option (List ℕ)) → then_server ≡ server
    → RunsShown server old mid [] (Some at) a b → Fires then_server mid at out new → Appends b c (step_text out)
    → RunsShown server old new [] (Some at) a c
shows_firing server then_server old mid new at out a b c same h fires one = firing_shown server old mid new at out a b c h
    (subst (λ (s : Server). Fires s mid at out new) same fires) one

-- or isn't shown whole
firing_part : (server : Server) (old mid new : Standing) (at : ℕ) (out : StepOut) (a b c : Option (List ℕ)) → RunsShown server old mid [] (Some at) a b
    → Fires server mid at out new → WritesFront b c (step_text out) → RunsPart server old new [] (Some at) a c
firing_part server old mid new at out a b c h fires one = record {
  runs = runs_firing server old mid new at out h.runs fires;
  front = front_more a b c h.runs.steps out h.all one;
}

pub unshown_firing : (server then_server : Server) (old mid new : Standing) (at : ℕ) (out : StepOut) (a b c : Option (List ℕ)) → then_server ≡ server
    → RunsShown server old mid [] (Some at) a b → Fires then_server mid at out new → WritesFront b c (step_text out)
    → RunsPart server old new [] (Some at) a c
unshown_firing server then_server old mid new at out a b c same h fires one = firing_part server old mid new at out a b c h
    (subst (λ (s : Server). Fires s mid at out new) same fires) one

-- up to the moment of an event
pub shown_by : (server : Server) (old mid : Standing) (at : ℕ) (event : Event) (a b : Option (List ℕ)) → at ≡ event_moment event
    → RunsShown server old mid [] (Some at) a b → RunsShown server old mid [] (Some (event_moment event)) a b
shown_by server old mid at event a b is h = subst (λ (m : ℕ). RunsShown server old mid [] (Some m) a b) is h

-- its own step is shown
own_shown : (server : Server) (old mid new : Standing) (event : Event) (out : StepOut) (a b c : Option (List ℕ))
    → RunsShown server old mid [] (Some (event_moment event)) a b → NothingDueBy (moment_of mid.state (event_moment event)) mid.state
    → IsStep server mid.state (Given event) out new.state → IsQueueAfter mid new → Appends b c (step_text out) → TakesOwn server old new event a c out
own_shown server old mid new event out a b c h none step queue one = record {
  runs = runs_given server old mid new event out h.runs none step queue;
  last = refl;
  all = shown_more a b c h.runs.steps out h.all one;
}

own_part : (server : Server) (old mid new : Standing) (event : Event) (out : StepOut) (a b c : Option (List ℕ))
    → RunsShown server old mid [] (Some (event_moment event)) a b → NothingDueBy (moment_of mid.state (event_moment event)) mid.state
    → IsStep server mid.state (Given event) out new.state → IsQueueAfter mid new → WritesFront b c (step_text out) → RunsPart server old new (event ∷ []) None a c
own_part server old mid new event out a b c h none step queue one = record {
  runs = runs_given server old mid new event out h.runs none step queue;
  front = front_more a b c h.runs.steps out h.all one;
}

nothing_due : (mid : Standing) (at : ℕ) (event : Event) → at ≡ event_moment event → NothingDueBy (moment_of mid.state at) mid.state
    → NothingDueBy (moment_of mid.state (event_moment event)) mid.state
nothing_due mid at event is none = subst (λ (m : ℕ). NothingDueBy (moment_of mid.state m) mid.state) is none

pub takes_own : (server then_server : Server) (old mid new : Standing) (at : ℕ) (event : Event) (out : StepOut) (a b c : Option (List ℕ)) → then_server ≡ server
    → at ≡ event_moment event → RunsShown server old mid [] (Some at) a b
    → NothingDueBy (moment_of mid.state at) mid.state → IsStep then_server mid.state (Given event) out new.state → IsQueueAfter mid new → Appends b c (step_text out)
    → TakesOwn server old new event a c out
takes_own server then_server old mid new at event out a b c same is h none step queue one =
    own_shown server old mid new event out a b c (shown_by server old mid at event a b is h) (nothing_due mid at event is none)
    (subst (λ (s : Server). IsStep s mid.state (Given event) out new.state) same step) queue one

pub unshown_own : (server then_server : Server) (old mid new : Standing) (at : ℕ) (event : Event) (out : StepOut) (a b c : Option (List ℕ)) → then_server ≡ server
    → at ≡ event_moment event → RunsShown server old mid [] (Some at) a b
    → NothingDueBy (moment_of mid.state at) mid.state → IsStep then_server mid.state (Given event) out new.state → IsQueueAfter mid new → WritesFront b c (step_text out)
    → RunsPart server old new (event ∷ []) None a c
unshown_own server then_server old mid new at event out a b c same is h none step queue one =
    own_part server old mid new event out a b c (shown_by server old mid at event a b is h) (nothing_due mid at event is none)
    (subst (λ (s : Server). IsStep s mid.state (Given event) out new.state) same step) queue one

-- ---- one run behind another

abbrev pub RunsJoin : Type 0
RunsJoin =
    (server : Server) (first middle last : ProxyState) (events more : List Event) (until : Option ℕ) (steps further : List StepOut) (history later : List Link)
    → IsRun server first events (first_moment more until) steps history middle → IsRun server middle more until further later last
    → IsRun server first (events ++ more) until (steps ++ further) (later ++ history) last

-- one run behind another
pub joined : RunsJoin → (server : Server) (old mid new : Standing) (events more : List Event) (until : Option ℕ) → (h : Runs server old mid events None)
    → (next : Runs server mid new more until)
    → IsRun server old.state (events ++ more) until (h.steps ++ next.steps) (next.history ++ h.history) new.state
joined join server old mid new events more until h next =
    join server old.state mid.state new.state events more until h.steps next.steps h.history next.history
    (run_on server old.state mid.state events (first_moment more until) h.steps h.history h.is_run) next.is_run

pub newest_both : (history later : List Link) (out : StepOut) → newest_step later ≡ Some out → newest_step (later ++ history) ≡ Some out
newest_both history [] out e = absurd cc
newest_both history (link ∷ later) out e = e

-- events, and one more behind them
pub record RunsOn (server : Server) (old new : Standing) (events : List Event) (last : Option StepOut) : Type 0 where
  pub runs : Runs server old new events None
  pub last_is : newest_step runs.history ≡ last

abbrev pub runs_on_nothing : (server : Server) (state : Standing) → RunsOn server state state [] None
runs_on_nothing server state = record {
  runs = record {
    steps = [];
    history = [];
    is_run =
        record { chain = refl; paced = tt; of_events = refl; of_steps = refl; configured = tt };
    orderly = tt;
    queue = refl;
  };
  last_is = refl;
}

abbrev pub runs_on_one : RunsJoin → (server : Server) (old mid new : Standing) (events : List Event) (event : Event) (out : StepOut) (a b : Option (List ℕ))
    → Runs server old mid events None → TakesOwn server mid new event a b out → RunsOn server old new (events ++ event ∷ []) (Some out)
runs_on_one join server old mid new events event out a b h next = record {
  runs = record {
    steps = h.steps ++ next.runs.steps;
    history = next.runs.history ++ h.history;
    is_run = joined join server old mid new events (event ∷ []) None h next.runs;
    orderly =
        orderly_joined server old mid h.history next.runs.history h.queue h.orderly next.runs.orderly;
    queue = queue_behind old mid new h.history next.runs.history h.queue next.runs.queue;
  };
  last_is = newest_both h.history next.runs.history out next.last;
}
