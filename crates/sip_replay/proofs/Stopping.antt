-- How a replay stops.
use Rattle.std.proofs.Common.{◌≡◌, ℕ, inl, inr, List, [], ◌∷◌, ◌++◌, Option, None, Some, refl, sym, ◌∙◌, ap, subst}
use Rattle.std.specs.Prelude.{IsSome}
use Rattle.std.specs.Io.KnownBytes.{Appends}
use Rattle.std.proofs.lemmas.List.{reverse-append}
use Rattle.sip_event.specs.declared.event.Event.{Event}
use Rattle.sip_event.specs.declared.event.StepOut.{StepOut}
use Rattle.sip_model.specs.state.declared.server.Server.{Server}
use Rattle.model_transactions.specs.Queue.{Entry}
use Rattle.sip_model.specs.TimerOrder.{IsFirstOf, Standing}
use Rattle.sip_model.specs.steps_model.Step.{Given, IsStep, Passing, moment_of}
use Rattle.sip_model.specs.Run.{event_moment, events_of, steps_of}
use Rattle.sip_resume.specs.run.engine.declared.error.StepError.{StepError}
use Rattle.sip_resume.specs.run.engine.declared.error.StepError.TheVariants as step_errors
use Rattle.sip_resume.specs.run.engine.StepError.{refusal_at}
use Rattle.sip_replay_print.specs.Print.{step_text, printed}
use Rattle.sip_replay.specs.Errors.{stop_of_print, stop_of_step}
use Rattle.sip_replay_script.specs.Devices.{WritesFront}
use Rattle.sip_replay_print.specs.Stops.{PrintStops}
use Rattle.sip_resume.specs.run.Due.{Fires, NothingDueBy}
use Rattle.sip_resume.specs.run.Refusals.{RefusesStep, refusal_of_event}
use Rattle.sip_replay.specs.Refusals.{PlaysPart, FiringStops, TakingStops}
use Rattle.sip_replay.specs.Replays.{Plays}
use Rattle.sip_replay.specs.declared.stop.Stop.{Stop}
use Rattle.sip_replay.specs.declared.stop.Stop.TheVariants as stops
use Rattle.sip_replay_script.specs.declared.print_stop.PrintStop.{PrintStop}
use Rattle.sip_replay_script.specs.declared.print_stop.PrintStop.TheVariants as print_stops
use Rattle.sip_replay_script.proofs.Fronts.{front_all, front_second}
use Rattle.sip_resume.proofs.Running.{prompt_event, printed_more}
use Rattle.sip_resume.proofs.Refused.{too_late}

-- ---- a step that is refused

-- for another reason than want of memory: as the server says
too_large_is : (refusal : Option StepError) → RefusesStep refusal step_errors.MomentTooLarge → IsSome refusal
too_large_is None h = absurd cc
too_large_is (Some refusal) h = refl

worn_is : (refusal : Option StepError) → RefusesStep refusal step_errors.Worn → IsSome refusal
worn_is None h = absurd cc
worn_is (Some refusal) h = refl

-- ---- time that passes

-- all that was printed is a front of it
part_of : (server : Server) (old new : Standing) (events : List Event) (until : Option ℕ) (a b : Option (List ℕ)) → Plays server old new events until a b
    → PlaysPart server old events until a b
part_of server old new events until a b h = record {
  steps = h.steps;
  history = h.history;
  last = new.state;
  is_run = h.is_run;
  orderly = h.orderly;
  writes = front_all a b (printed h.steps) h.written;
}

-- a front of the last step
front_more : (a b c : Option (List ℕ)) (steps : List StepOut) (out : StepOut) → Appends a b (printed steps) → WritesFront b c (step_text out)
    → WritesFront a c (printed (steps ++ out ∷ []))
front_more a b c steps out h front = subst (λ l. WritesFront a c l) (sym (printed_more steps out)) (front_second a b c (printed steps) (step_text out) h front)

part_passing : (server : Server) (old mid new : Standing) (at : ℕ) (out : StepOut) (a b c : Option (List ℕ)) → Plays server old mid [] (Some at) a b
    → IsFirstOf server mid.queue mid.state at out new.state
    → WritesFront b c (step_text out) → PlaysPart server old [] (Some at) a c
part_passing server old mid new at out a b c h happens front = record {
  steps = h.steps ++ out ∷ [];
  history = record { config = server.config; before = mid.state; act = Passing at; out = out; after = new.state } ∷ h.history;
  last = new.state;
  is_run = record {
    chain = (refl, inr happens.happens, h.is_run.chain);
    paced = (refl, h.is_run.paced);
    of_events = h.is_run.of_events;
    of_steps = reverse-append (out ∷ []) (steps_of h.history) ∙ ap (λ l. l ++ out ∷ []) h.is_run.of_steps;
    configured = (refl, h.is_run.configured);
  };
  orderly = (subst (λ (q : List Entry). IsFirstOf server q mid.state at out new.state) h.queue happens, h.orderly);
  writes = front_more a b c h.steps out h.written front;
}

-- what is due next is refused
pub firing_refused : (server : Server) (old mid : Standing) (at : ℕ) (a b : Option (List ℕ)) (G : Type 0) (e : StepError) → Plays server old mid [] (Some at) a b
    → RefusesStep (refusal_at at) e → FiringStops server old at a b G (stop_of_step e)
firing_refused server old mid at a b G step_errors.NoMemory h s = part_of server old mid [] (Some at) a b h
firing_refused server old mid at a b G step_errors.MomentTooLarge h s = record { last = mid; plays = h; why = too_large_is (refusal_at at) s }
firing_refused server old mid at a b G step_errors.Worn h s = record { last = mid; plays = h; why = worn_is (refusal_at at) s }

part_stops_firing : (server : Server) (old : Standing) (at : ℕ) (a c : Option (List ℕ)) (G : Type 0) (stop : PrintStop) → PlaysPart server old [] (Some at) a c
    → PrintStops G stop → FiringStops server old at a c G (stop_of_print stop)
part_stops_firing server old at a c G print_stops.NoMemory h s = h
part_stops_firing server old at a c G print_stops.Write h s = (h, s)

-- what happened isn't printed whole
pub firing_unprinted : (server then_server : Server) (old mid new : Standing) (at : ℕ) (out : StepOut) (a b c : Option (List ℕ)) (G : Type 0) (stop : PrintStop)
    → then_server ≡ server → Plays server old mid [] (Some at) a b
    → Fires then_server mid at out new → WritesFront b c (step_text out) → PrintStops G stop → FiringStops server old at a c G (stop_of_print stop)
firing_unprinted server then_server old mid new at out a b c G stop same h fires front s =
    part_stops_firing server old at a c G stop (part_passing server old mid new at out a b c h
    (subst (λ x. IsFirstOf x mid.queue mid.state at out new.state) same fires.happens) front) s

-- ---- an event that was read

part_event : (server : Server) (old mid new : Standing) (event : Event) (out : StepOut) (a b c : Option (List ℕ))
    → Plays server old mid [] (Some (event_moment event)) a b
    → NothingDueBy (moment_of mid.state (event_moment event)) mid.state → IsStep server mid.state (Given event) out new.state → WritesFront b c (step_text out)
    → PlaysPart server old (event ∷ []) None a c
part_event server old mid new event out a b c h none step front = record {
  steps = h.steps ++ out ∷ [];
  history = record { config = server.config; before = mid.state; act = Given event; out = out; after = new.state } ∷ h.history;
  last = new.state;
  is_run = record {
    chain = (refl, step, h.is_run.chain);
    paced = (tt, h.is_run.paced);
    of_events = reverse-append (event ∷ []) (events_of h.history) ∙ ap (λ l. l ++ event ∷ []) h.is_run.of_events;
    of_steps = reverse-append (out ∷ []) (steps_of h.history) ∙ ap (λ l. l ++ out ∷ []) h.is_run.of_steps;
    configured = (refl, h.is_run.configured);
  };
  orderly = (prompt_event server mid.state new.state event out none, h.orderly);
  writes = front_more a b c h.steps out h.written front;
}

firing_taking : (server : Server) (old : Standing) (event : Event) (a b : Option (List ℕ)) (G : Type 0) (stop : Stop)
    → FiringStops server old (event_moment event) a b G stop → TakingStops server old event a b G stop
firing_taking server old event a b G stops.NoMemory h = inl h
firing_taking server old event a b G stops.Script h = record { last = h.last; plays = h.plays; why = too_late h.last.state event h.why }
firing_taking server old event a b G stops.Write h = (inl h.0, h.1)

-- before it not all was fired
pub taking_unfired : (server : Server) (old : Standing) (at : ℕ) (event : Event) (a b : Option (List ℕ)) (G : Type 0) (stop : Stop) → at ≡ event_moment event
    → FiringStops server old at a b G stop → TakingStops server old event a b G stop
taking_unfired server old at event a b G stop is h = firing_taking server old event a b G stop (subst (λ (m : ℕ). FiringStops server old m a b G stop) is h)

own_stops : (server : Server) (old mid : Standing) (event : Event) (a b : Option (List ℕ)) (G : Type 0) (e : StepError)
    → Plays server old mid [] (Some (event_moment event)) a b → RefusesStep (refusal_of_event mid.state event) e
    → TakingStops server old event a b G (stop_of_step e)
own_stops server old mid event a b G step_errors.NoMemory h s = inl (part_of server old mid [] (Some (event_moment event)) a b h)
own_stops server old mid event a b G step_errors.MomentTooLarge h s = record { last = mid; plays = h; why = too_large_is (refusal_of_event mid.state event) s }
own_stops server old mid event a b G step_errors.Worn h s = record { last = mid; plays = h; why = worn_is (refusal_of_event mid.state event) s }

-- its own step is refused
pub taking_refused : (server : Server) (old mid : Standing) (at : ℕ) (event : Event) (a b : Option (List ℕ)) (G : Type 0) (e : StepError) → at ≡ event_moment event
    → Plays server old mid [] (Some at) a b
    → RefusesStep (refusal_of_event mid.state event) e → TakingStops server old event a b G (stop_of_step e)
taking_refused server old mid at event a b G e is h s = own_stops server old mid event a b G e (subst (λ (m : ℕ). Plays server old mid [] (Some m) a b) is h) s

part_stops_taking : (server : Server) (old : Standing) (event : Event) (a c : Option (List ℕ)) (G : Type 0) (stop : PrintStop)
    → PlaysPart server old (event ∷ []) None a c → PrintStops G stop → TakingStops server old event a c G (stop_of_print stop)
part_stops_taking server old event a c G print_stops.NoMemory h s = inr h
part_stops_taking server old event a c G print_stops.Write h s = (inr h, s)

-- its own step isn't printed whole
pub taking_unprinted : (server then_server : Server) (old mid new : Standing) (at : ℕ) (event : Event) (out : StepOut) (a b c : Option (List ℕ)) (G : Type 0)
    (stop : PrintStop) → then_server ≡ server → at ≡ event_moment event
    → Plays server old mid [] (Some at) a b → NothingDueBy (moment_of mid.state at) mid.state → IsStep then_server mid.state (Given event) out new.state
    → WritesFront b c (step_text out) → PrintStops G stop → TakingStops server old event a c G (stop_of_print stop)
taking_unprinted server then_server old mid new at event out a b c G stop same is h none step front s =
    part_stops_taking server old event a c G stop
    (part_event server old mid new event out a b c (subst (λ (m : ℕ). Plays server old mid [] (Some m) a b) is h)
    (subst (λ (m : ℕ). NothingDueBy (moment_of mid.state m) mid.state) is none) (subst (λ x. IsStep x mid.state (Given event) out new.state) same step) front) s
