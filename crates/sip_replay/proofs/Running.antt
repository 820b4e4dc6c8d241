-- A run of the server, step by step, and what is printed of it.
use Rattle.std.proofs.Common.{◌≡◌, inr, ℕ, List, [], ◌∷◌, ◌++◌, Option, None, Some, refl, sym, ◌∙◌, ap, subst}
use Rattle.std.proofs.lemmas.Grind.{flat_map-append}
use Rattle.std.proofs.lemmas.List.{reverse-append}
use Rattle.std.specs.Io.KnownBytes.{Appends}
use Rattle.std.proofs.KnownBytes.{Appends-nil, Appends-trans}
use Rattle.sip_event.specs.declared.event.Event.{Event}
use Rattle.sip_event.specs.declared.event.StepOut.{StepOut}
use Rattle.sip_model.specs.state.declared.server.Server.{Server}
use Rattle.sip_model.specs.TimerOrder.{IsFirstOf, IsQueueAfter, Standing}
use Rattle.sip_model.specs.steps_model.Step.{Given, IsStep, Passing, moment_of}
use Rattle.sip_model.specs.Run.{event_moment, events_of, steps_of}
use Rattle.sip_replay_print.specs.Print.{step_text, printed}
use Rattle.model_transactions.specs.Queue.{Entry}
use Rattle.sip_model.proofs.Along.{queue_behind, queue_next}
use Rattle.sip_model.proofs.Orderly.{orderly_joined}
use Rattle.sip_resume.specs.run.Due.{Fires, NothingDueBy}
use Rattle.sip_resume.proofs.of_run.{run_on}
use Rattle.sip_replay.specs.Replays.{Plays}
use Rattle.sip_resume.proofs.Running.{RunsJoin, prompt_event, printed_more}

-- no step yet
pub plays_nothing : (server : Server) (state : Standing) (until : Option ℕ) (before : Option (List ℕ)) → Plays server state state [] until before before
plays_nothing server state until before = record {
  steps = [];
  history = [];
  is_run = record { chain = refl; paced = tt; of_events = refl; of_steps = refl; configured = tt };
  orderly = tt;
  queue = refl;
  written = Appends-nil before;
}

-- time passes
passing_step : (server : Server) (old mid new : Standing) (at : ℕ) (out : StepOut) (a b c : Option (List ℕ)) → Plays server old mid [] (Some at) a b
    → IsFirstOf server mid.queue mid.state at out new.state → IsQueueAfter mid new
    → Appends b c (step_text out) → Plays server old new [] (Some at) a c
passing_step server old mid new at out a b c h happens queue written = record {
  steps = h.steps ++ out ∷ [];
  history = record { config = server.config; before = mid.state; act = Passing at; out = out; after = new.state } ∷ h.history;
  is_run = record {
    chain = (refl, inr happens.happens, h.is_run.chain);
    paced = (refl, h.is_run.paced);
    of_events = h.is_run.of_events;
    of_steps = reverse-append (out ∷ []) (steps_of h.history) ∙ ap (λ l. l ++ out ∷ []) h.is_run.of_steps;
    configured = (refl, h.is_run.configured);
  };
  orderly = (subst (λ (q : List Entry). IsFirstOf server q mid.state at out new.state) h.queue happens, h.orderly);
  queue = queue_next old mid new h.history h.queue queue;
  written = subst (λ l. Appends a c l) (sym (printed_more h.steps out)) (Appends-trans a b c (printed h.steps) (step_text out) h.written written);
}

-- what is due happens, of the server as it is then
pub plays_firing : (server then_server : Server) (old mid new : Standing) (at : ℕ) (out : StepOut) (a b c : Option (List ℕ)) → then_server ≡ server
    → Plays server old mid [] (Some at) a b
    → Fires then_server mid at out new → Appends b c (step_text out) → Plays server old new [] (Some at) a c
plays_firing server then_server old mid new at out a b c same h fires written =
    passing_step server old mid new at out a b c h (subst (λ s. IsFirstOf s mid.queue mid.state at out new.state) same fires.happens) fires.queue written

-- the event's own step comes
event_step : (server : Server) (old mid new : Standing) (event : Event) (out : StepOut) (a b c : Option (List ℕ))
    → Plays server old mid [] (Some (event_moment event)) a b
    → NothingDueBy (moment_of mid.state (event_moment event)) mid.state → IsStep server mid.state (Given event) out new.state → IsQueueAfter mid new
    → Appends b c (step_text out) → Plays server old new (event ∷ []) None a c
event_step server old mid new event out a b c h none step queue written = record {
  steps = h.steps ++ out ∷ [];
  history = record { config = server.config; before = mid.state; act = Given event; out = out; after = new.state } ∷ h.history;
  is_run = record {
    chain = (refl, step, h.is_run.chain);
    paced = (tt, h.is_run.paced);
    of_events = reverse-append (event ∷ []) (events_of h.history) ∙ ap (λ l. l ++ event ∷ []) h.is_run.of_events;
    of_steps = reverse-append (out ∷ []) (steps_of h.history) ∙ ap (λ l. l ++ out ∷ []) h.is_run.of_steps;
    configured = (refl, h.is_run.configured);
  };
  orderly = (prompt_event server mid.state new.state event out none, h.orderly);
  queue = queue_next old mid new h.history h.queue queue;
  written = subst (λ l. Appends a c l) (sym (printed_more h.steps out)) (Appends-trans a b c (printed h.steps) (step_text out) h.written written);
}

-- the same of the server as it is then
pub plays_event : (server then_server : Server) (old mid new : Standing) (at : ℕ) (event : Event) (out : StepOut) (a b c : Option (List ℕ)) → then_server ≡ server
    → at ≡ event_moment event
    → Plays server old mid [] (Some at) a b → NothingDueBy (moment_of mid.state at) mid.state → IsStep then_server mid.state (Given event) out new.state
    → IsQueueAfter mid new → Appends b c (step_text out) → Plays server old new (event ∷ []) None a c
plays_event server then_server old mid new at event out a b c same is h none step queue written =
    event_step server old mid new event out a b c (subst (λ (m : ℕ). Plays server old mid [] (Some m) a b) is h)
    (subst (λ (m : ℕ). NothingDueBy (moment_of mid.state m) mid.state) is none) (subst (λ s. IsStep s mid.state (Given event) out new.state) same step) queue written

-- an event more
pub plays_both : RunsJoin → (server : Server) (old mid new : Standing) (events : List Event) (event : Event) (a b c : Option (List ℕ))
    → Plays server old mid events None a b → Plays server mid new (event ∷ []) None b c
    → Plays server old new (events ++ event ∷ []) None a c
plays_both join server old mid new events event a b c h next = record {
  steps = h.steps ++ next.steps;
  history = next.history ++ h.history;
  is_run = join server old.state mid.state new.state events (event ∷ []) None h.steps next.steps h.history next.history
      (run_on server old.state mid.state events (Some (event_moment event)) h.steps h.history h.is_run) next.is_run;
  orderly = orderly_joined server old mid h.history next.history h.queue h.orderly next.orderly;
  queue = queue_behind old mid new h.history next.history h.queue next.queue;
  written = subst (λ l. Appends a c l) (sym (flat_map-append step_text h.steps next.steps))
      (Appends-trans a b c (printed h.steps) (printed next.steps) h.written next.written);
}
