-- An event is taken behind all that is due by its moment, and is told.
use Rattle.std.proofs.Common.{◌≡◌, inl, inr, ℕ, [], ◌∷◌, None, Some, refl, sym, subst}
use Rattle.sip_event.specs.declared.event.Event.{Event}
use Rattle.sip_event.specs.declared.event.StepOut.{StepOut}
use Rattle.sip_config_types.specs.declared.config.Config.{Config}
use Rattle.sip_model.specs.state.declared.server.Server.{Server}
use Rattle.sip_model.specs.steps_model.Step.{Given, IsStep, moment_of}
use Rattle.sip_model.specs.Run.{event_moment}
use Rattle.sip_model.specs.TimerOrder.{IsQueueAfter, Standing}
use Rattle.sip_resume.specs.run.Due.{NothingDueBy}
use Rattle.sip_resume.specs.run.Refusals.{RefusesStep, refusal_of_event}
use Rattle.sip_resume.specs.run.engine.declared.error.StepError.{StepError}
use Rattle.sip_resume.specs.run.engine.declared.error.StepError.TheVariants as step_errors
use Rattle.sip_replay_script.specs.declared.print_stop.PrintStop.{PrintStop}
use Rattle.sip_replay_script.specs.declared.print_stop.PrintStop.TheVariants as prints
use Rattle.sip_resume.specs.Resumes.{StepStops}
use Rattle.sip_resume.proofs.Refused.{step_stops, too_late}
use Rattle.sip_resume.proofs.Running.{runs_given}
use Rattle.sip_retell.specs.Errors.{error_of_print, error_of_step}
use Rattle.sip_listener.specs.Heard.{Heard, heard_as}
use Rattle.sip_retell.specs.Retells.{RunsMost, RunsTold}
use Rattle.sip_retell.specs.Stops.{PassingStops, TurnStops}
use Rattle.sip_retell.specs.declared.error.RetellError.{RetellError}
use Rattle.sip_retell.specs.declared.error.RetellError.TheVariants as errors
use Rattle.sip_retell.proofs.Firing.{most_of}

-- up to the moment of an event
told_by : {L : Type 0} (hears : L → Heard → L → Type 0) (server : Server) (old mid : Standing) (at : ℕ) (event : Event) (a b : L) → at ≡ event_moment event
    → RunsTold hears server old mid [] (Some at) a b
    → RunsTold hears server old mid [] (Some (event_moment event)) a b
told_by hears server old mid at event a b is h = subst (λ (m : ℕ). RunsTold hears server old mid [] (Some m) a b) is h

nothing_due : (mid : Standing) (at : ℕ) (event : Event) → at ≡ event_moment event → NothingDueBy (moment_of mid.state at) mid.state
    → NothingDueBy (moment_of mid.state (event_moment event)) mid.state
nothing_due mid at event is none = subst (λ (m : ℕ). NothingDueBy (moment_of mid.state m) mid.state) is none

own_told : {L : Type 0} (hears : L → Heard → L → Type 0) (server : Server) (old mid new : Standing) (event : Event) (out : StepOut) (a b c : L)
    → RunsTold hears server old mid [] (Some (event_moment event)) a b
    → NothingDueBy (moment_of mid.state (event_moment event)) mid.state → IsStep server mid.state (Given event) out new.state → IsQueueAfter mid new
    → hears b (heard_as server.config (Some event) out) c → RunsTold hears server old new (event ∷ []) None a c
own_told hears server old mid new event out a b c h none step queue one = record {
  runs = runs_given server old mid new event out h.runs none step queue;
  told = record { half = b; earlier = h.told; last = one };
}

own_untold : {L : Type 0} (hears refuses : L → Heard → L → Type 0) (server : Server) (old mid new : Standing) (event : Event) (out : StepOut) (a b c : L)
    → RunsTold hears server old mid [] (Some (event_moment event)) a b
    → NothingDueBy (moment_of mid.state (event_moment event)) mid.state → IsStep server mid.state (Given event) out new.state → IsQueueAfter mid new
    → refuses b (heard_as server.config (Some event) out) c → RunsMost hears refuses server old new (event ∷ []) None a c
own_untold hears refuses server old mid new event out a b c h none step queue silent = record {
  runs = runs_given server old mid new event out h.runs none step queue;
  told = inr (record {
    link = record { config = server.config; before = mid.state; act = Given event; out = out; after = new.state };
    others = h.runs.history;
    half = b;
    history_is = refl;
    told = h.told;
    refused = silent;
  });
}

-- the event's own step is told, of the server as it is then
pub turn_told : {L : Type 0} (hears : L → Heard → L → Type 0) (server then_server : Server) (old mid new : Standing) (at : ℕ) (event : Event)
    (config : Config) (out : StepOut) (a b c : L)
    → then_server ≡ server → at ≡ event_moment event → config ≡ server.config → RunsTold hears server old mid [] (Some at) a b
    → NothingDueBy (moment_of mid.state at) mid.state → IsStep then_server mid.state (Given event) out new.state → IsQueueAfter mid new
    → hears b (heard_as config (Some event) out) c → RunsTold hears server old new (event ∷ []) None a c
turn_told hears server then_server old mid new at event config out a b c same is in_force h none step queue one =
    own_told hears server old mid new event out a b c (told_by hears server old mid at event a b is h) (nothing_due mid at event is none)
    (subst (λ (s : Server). IsStep s mid.state (Given event) out new.state) same step) queue
    (subst (λ (k : Config). hears b (heard_as k (Some event) out) c) in_force one)

-- or isn't
pub turn_untold : {L : Type 0} (hears refuses : L → Heard → L
    → Type 0) (server then_server : Server) (old mid new : Standing) (at : ℕ) (event : Event) (config : Config) (out : StepOut) (a b c : L)
    → then_server ≡ server → at ≡ event_moment event → config ≡ server.config → RunsTold hears server old mid [] (Some at) a b
    → NothingDueBy (moment_of mid.state at) mid.state → IsStep then_server mid.state (Given event) out new.state → IsQueueAfter mid new
    → refuses b (heard_as config (Some event) out) c → RunsMost hears refuses server old new (event ∷ []) None a c
turn_untold hears refuses server then_server old mid new at event config out a b c same is in_force h none step queue silent =
    own_untold hears refuses server old mid new event out a b c (told_by hears server old mid at event a b is h) (nothing_due mid at event is none)
    (subst (λ (s : Server). IsStep s mid.state (Given event) out new.state) same step) queue
    (subst (λ (k : Config). refuses b (heard_as k (Some event) out) c) in_force silent)

-- ---- why it isn't taken

-- what is due by its moment was stopped
due_so : {L : Type 0} (hears refuses : L → Heard → L → Type 0) (server : Server) (old new : Standing) (event : Event) (a b : L) (e : RetellError)
    → PassingStops hears refuses server old new (event_moment event) a b e
    → TurnStops hears refuses server old new event a b e
due_so hears refuses server old new event a b errors.NoMemory h = inl h
due_so hears refuses server old new event a b (errors.Damaged line) h = absurd h
due_so hears refuses server old new event a b errors.Read h = absurd h
due_so hears refuses server old new event a b errors.Step h = record { due = h.due; refused = too_late new.state event h.refused }
due_so hears refuses server old new event a b (errors.TooLong line) h = absurd h
due_so hears refuses server old new event a b (errors.NoConfiguration line why) h = absurd h
due_so hears refuses server old new event a b (errors.OtherFrame line key) h = absurd h
due_so hears refuses server old new event a b errors.Listener h = inl h

pub due_stops : {L : Type 0} (hears refuses : L → Heard → L → Type 0) (server : Server) (old new : Standing) (at : ℕ) (event : Event) (a b : L)
    (e : RetellError) → at ≡ event_moment event
    → PassingStops hears refuses server old new at a b e → TurnStops hears refuses server old new event a b e
due_stops hears refuses server old new at event a b e is h = due_so hears refuses server old new event a b e (subst (λ
    (m : ℕ). PassingStops hears refuses server old new m a b e) is h)

-- its own step was refused
own_refused : {L : Type 0} (hears refuses : L → Heard → L → Type 0) (server : Server) (old mid : Standing) (event : Event) (a b : L) (e : StepError)
    → RunsTold hears server old mid [] (Some (event_moment event)) a b
    → StepStops (refusal_of_event mid.state event) e → TurnStops hears refuses server old mid event a b (error_of_step e)
own_refused hears refuses server old mid event a b step_errors.NoMemory h s = inl (most_of hears refuses server old mid [] (Some (event_moment event)) a b h)
own_refused hears refuses server old mid event a b step_errors.MomentTooLarge h s = record { due = h; refused = s }
own_refused hears refuses server old mid event a b step_errors.Worn h s = record { due = h; refused = s }

pub own_stops : {L : Type 0} (hears refuses : L → Heard → L → Type 0) (server : Server) (old mid new : Standing) (at : ℕ) (event : Event) (a b : L)
    (e : StepError) → new ≡ mid → at ≡ event_moment event
    → RunsTold hears server old mid [] (Some at) a b → RefusesStep (refusal_of_event mid.state event) e
    → TurnStops hears refuses server old new event a b (error_of_step e)
own_stops hears refuses server old mid new at event a b e same is h s =
    subst (λ (x : Standing). TurnStops hears refuses server old x event a b (error_of_step e)) (sym same)
    (own_refused hears refuses server old mid event a b e (told_by hears server old mid at event a b is h) (step_stops (refusal_of_event mid.state event) e s))

-- or wasn't told
pub own_unheard : {L : Type 0} (hears refuses : L → Heard → L → Type 0) (server : Server) (old new : Standing) (event : Event) (a c : L) (stop : PrintStop)
    → RunsMost hears refuses server old new (event ∷ []) None a c
    → TurnStops hears refuses server old new event a c (error_of_print stop)
own_unheard hears refuses server old new event a c prints.NoMemory h = inr h
own_unheard hears refuses server old new event a c prints.Write h = inr h
