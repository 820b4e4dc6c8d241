-- A run of the server, step by step, and the list of its steps.
use Rattle.std.proofs.Common.{◌≡◌, ◌<◌, ◌+◌, inr, ℕ, List, [], ◌∷◌, ◌++◌, length, get_or, take, Option, None, Some, refl, sym, ◌∙◌, ap, subst, append-nil, append_assoc}
use Rattle.std.proofs.lemmas.List.{reverse-append, take_more}
use Rattle.sip_event.specs.declared.event.Event.{Event}
use Rattle.sip_event.specs.declared.event.StepOut.{StepOut}
use Rattle.sip_engine.specs.state.declared.server.Server.{Server}
use Rattle.sip_engine.specs.state.declared.proxy_state.ProxyState.{ProxyState}
use Rattle.sip_engine.specs.steps_model.Step.{Given, Passing, IsStep}
use Rattle.sip_engine.specs.model.Run.{Link, IsRun, event_moment, events_of, steps_of, first_moment}
use Rattle.sip_run.specs.Due.{Fires}
use Rattle.model_transactions.specs.Queue.{Entry}
use Rattle.sip_engine.specs.model.TimerOrder.{IsFirstOf, IsQueueAfter, Standing}
use Rattle.sip_engine.proofs.of_order.{queue_behind, queue_next, queued_joined}
use Rattle.sip_run.specs.Runs.{AreTurns, IsInTurn, IsTurn, Goes}
use Rattle.sip_run.proofs.RunOn.{run_on}

-- no step yet
pub goes_nothing : (server : Server) (standing : Standing) (until : Option ℕ) (list : List StepOut) → Goes server standing standing [] until list list
goes_nothing server standing until list = record {
  steps = [];
  history = [];
  is_run = record { chain = refl; paced = tt; of_events = refl; of_steps = refl; configured = tt };
  turns = tt;
  queue = refl;
  listed = sym (append-nil list);
}

happens_next : (server : Server) (old mid new : Standing) (at : ℕ) (out : StepOut) (a b c : List StepOut) → Goes server old mid [] (Some at) a b
    → IsFirstOf server mid.queue mid.state at out new.state → IsQueueAfter mid new
    → c ≡ b ++ out ∷ [] → Goes server old new [] (Some at) a c
happens_next server old mid new at out a b c h happens queue more = record {
  steps = h.steps ++ out ∷ [];
  history = record { config = server.config; before = mid.state; act = Passing at; out = out; after = new.state } ∷ h.history;
  is_run = record {
    chain = (refl, inr happens.happens, h.is_run.chain);
    paced = (refl, h.is_run.paced);
    of_events = h.is_run.of_events;
    of_steps = reverse-append (out ∷ []) (steps_of h.history) ∙ ap (λ l. l ++ out ∷ []) h.is_run.of_steps;
    configured = (refl, h.is_run.configured);
  };
  turns = (subst (λ (q : List Entry). IsFirstOf server q mid.state at out new.state) h.queue happens, h.turns);
  queue = queue_next old mid new h.history h.queue queue;
  listed = more ∙ ap (λ l. l ++ out ∷ []) h.listed ∙ append_assoc a h.steps (out ∷ []);
}

-- what is due happens, of the server as it is then
pub goes_firing : (server then_server : Server) (old mid new : Standing) (at : ℕ) (out : StepOut) (a b c : List StepOut) → then_server ≡ server
    → Goes server old mid [] (Some at) a b
    → Fires then_server mid at out new → c ≡ b ++ out ∷ [] → Goes server old new [] (Some at) a c
goes_firing server then_server old mid new at out a b c same h fires more =
    happens_next server old mid new at out a b c h (subst (λ s. IsFirstOf s mid.queue mid.state at out new.state) same fires.happens) fires.queue more

event_next : (server : Server) (old mid new : Standing) (event : Event) (out : StepOut) (a b c : List StepOut) → Goes server old mid [] (Some (event_moment event)) a b
    → IsInTurn mid.state event
    → IsStep server mid.state (Given event) out new.state → IsQueueAfter mid new → c ≡ b ++ out ∷ [] → Goes server old new (event ∷ []) None a c
event_next server old mid new event out a b c h turn step queue more = record {
  steps = h.steps ++ out ∷ [];
  history = record { config = server.config; before = mid.state; act = Given event; out = out; after = new.state } ∷ h.history;
  is_run = record {
    chain = (refl, step, h.is_run.chain);
    paced = (tt, h.is_run.paced);
    of_events = reverse-append (event ∷ []) (events_of h.history) ∙ ap (λ l. l ++ event ∷ []) h.is_run.of_events;
    of_steps = reverse-append (out ∷ []) (steps_of h.history) ∙ ap (λ l. l ++ out ∷ []) h.is_run.of_steps;
    configured = (refl, h.is_run.configured);
  };
  turns = (turn, h.turns);
  queue = queue_next old mid new h.history h.queue queue;
  listed = more ∙ ap (λ l. l ++ out ∷ []) h.listed ∙ append_assoc a h.steps (out ∷ []);
}

-- the event's own step comes, of the server as it is then
pub goes_taking : (server then_server : Server) (old mid new : Standing) (at : ℕ) (event : Event) (out : StepOut) (a b c : List StepOut) → then_server ≡ server
    → at ≡ event_moment event
    → Goes server old mid [] (Some at) a b → IsInTurn mid.state event → IsStep then_server mid.state (Given event) out new.state → IsQueueAfter mid new
    → c ≡ b ++ out ∷ []
    → Goes server old new (event ∷ []) None a c
goes_taking server then_server old mid new at event out a b c same is h turn step queue more =
    event_next server old mid new event out a b c (subst (λ (m : ℕ). Goes server old mid [] (Some m) a b) is h) turn
    (subst (λ s. IsStep s mid.state (Given event) out new.state) same step) queue more

-- ---- one run behind another

abbrev pub RunsJoin : Type 0
RunsJoin =
    (server : Server) (first middle last : ProxyState) (events more : List Event) (until : Option ℕ) (steps further : List StepOut) (history later : List Link)
    → IsRun server first events (first_moment more until) steps history middle → IsRun server middle more until further later last
    → IsRun server first (events ++ more) until (steps ++ further) (later ++ history) last

goes_both : RunsJoin → (server : Server) (old mid new : Standing) (events more : List Event) (until : Option ℕ) (a b c : List StepOut)
    → Goes server old mid events None a b → Goes server mid new more until b c
    → Goes server old new (events ++ more) until a c
goes_both join server old mid new events more until a b c h next = record {
  steps = h.steps ++ next.steps;
  history = next.history ++ h.history;
  is_run = join server old.state mid.state new.state events more until h.steps next.steps h.history next.history
      (run_on server old.state mid.state events (first_moment more until) h.steps h.history h.is_run) next.is_run;
  turns = queued_joined (λ (standing : List Entry) (link : Link). IsTurn server standing link.before link.act link.out link.after) old.queue h.history next.history
      h.turns
      (subst (λ (q : List Entry). AreTurns server q next.history) h.queue next.turns);
  queue = queue_behind old mid new h.history next.history h.queue next.queue;
  listed = next.listed ∙ ap (λ l. l ++ next.steps) h.listed ∙ append_assoc a h.steps next.steps;
}

-- the same of the server as it is then
pub goes_on : RunsJoin → (server then_server : Server) (old mid new : Standing) (events more : List Event) (until : Option ℕ) (a b c : List StepOut)
    → then_server ≡ server → Goes server old mid events None a b
    → Goes then_server mid new more until b c → Goes server old new (events ++ more) until a c
goes_on join server then_server old mid new events more until a b c same h next =
    goes_both join server old mid new events more until a b c h (subst (λ s. Goes s mid new more until b c) same next)

-- an event more of a list
pub goes_more : RunsJoin → (server then_server : Server) (old mid new : Standing) (events : List Event) (i : ℕ) (event : Event) (a b c : List StepOut) → i < length events
    → event ≡ get_or events i event → then_server ≡ server
    → Goes server old mid (take i events) None a b → Goes then_server mid new (event ∷ []) None b c → Goes server old new (take (i + 1) events) None a c
goes_more join server then_server old mid new events i event a b c lt is same h next =
    let one_more : take (i + 1) events ≡ take i events ++ event ∷ [] = take_more events i event lt ∙ ap (λ (e : Event). take i events ++ e ∷ []) (sym is) in
    subst (λ (es : List Event). Goes server old new es None a c) (sym one_more) (goes_on join server then_server old mid new (take i events) (event ∷ []) None a b c same
    h next)
