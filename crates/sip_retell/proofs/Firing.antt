-- What is due happens, and is told.
use Rattle.std.proofs.Common.{◌≡◌, inl, inr, ℕ, List, [], Option, None, Some, refl, sym, subst}
use Rattle.sip_event.specs.declared.event.Event.{Event}
use Rattle.sip_event.specs.declared.event.StepOut.{StepOut}
use Rattle.sip_config_types.specs.declared.config.Config.{Config}
use Rattle.sip_model.specs.state.declared.server.Server.{Server}
use Rattle.sip_model.specs.steps_model.Step.{Passing}
use Rattle.sip_model.specs.TimerOrder.{Standing}
use Rattle.sip_resume.specs.run.Due.{Fires}
use Rattle.sip_resume.specs.run.Refusals.{RefusesStep}
use Rattle.sip_resume.specs.run.engine.declared.error.StepError.{StepError}
use Rattle.sip_resume.specs.run.engine.declared.error.StepError.TheVariants as step_errors
use Rattle.sip_resume.specs.run.engine.StepError.{refusal_at}
use Rattle.sip_replay_script.specs.declared.print_stop.PrintStop.{PrintStop}
use Rattle.sip_replay_script.specs.declared.print_stop.PrintStop.TheVariants as prints
use Rattle.sip_resume.specs.Resumes.{StepStops}
use Rattle.sip_resume.proofs.Refused.{step_stops}
use Rattle.sip_resume.proofs.Running.{runs_firing, runs_nothing}
use Rattle.sip_retell.specs.Errors.{error_of_print, error_of_step}
use Rattle.sip_listener.specs.Heard.{Heard, heard_as}
use Rattle.sip_retell.specs.Retells.{RunsMost, RunsTold}
use Rattle.sip_retell.specs.Stops.{PassingStops}

pub tells_nothing : {L : Type 0} (hears : L → Heard → L → Type 0) (server : Server) (state : Standing) (until : Option ℕ) (a : L)
    → RunsTold hears server state state [] until a a
tells_nothing hears server state until a = record { runs = runs_nothing server state until; told = refl }

pub most_of : {L : Type 0} (hears refuses : L → Heard → L → Type 0) (server : Server) (old new : Standing) (events : List Event) (until : Option ℕ) (a b : L)
    → RunsTold hears server old new events until a b
    → RunsMost hears refuses server old new events until a b
most_of hears refuses server old new events until a b h = record { runs = h.runs; told = inl h.told }

-- ---- one more that is due

firing_told : {L : Type 0} (hears : L → Heard → L → Type 0) (server : Server) (old mid new : Standing) (at : ℕ) (out : StepOut) (a b c : L)
    → RunsTold hears server old mid [] (Some at) a b
    → Fires server mid at out new → hears b (heard_as server.config None out) c → RunsTold hears server old new [] (Some at) a c
firing_told hears server old mid new at out a b c h fires one = record {
  runs = runs_firing server old mid new at out h.runs fires;
  told = record { half = b; earlier = h.told; last = one };
}

-- of the server as it is then
pub tells_firing : {L : Type 0} (hears : L → Heard → L → Type 0) (server then_server : Server) (old mid new : Standing) (at : ℕ) (config : Config)
    (out : StepOut) (a b c : L) → then_server ≡ server
    → config ≡ server.config → RunsTold hears server old mid [] (Some at) a b → Fires then_server mid at out new
    → hears b (heard_as config None out) c → RunsTold hears server old new [] (Some at) a c
tells_firing hears server then_server old mid new at config out a b c same is h fires one =
    firing_told hears server old mid new at out a b c h (subst (λ (s : Server). Fires s mid at out new) same fires)
    (subst (λ (k : Config). hears b (heard_as k None out) c) is one)

firing_untold : {L : Type 0} (hears refuses : L → Heard → L → Type 0) (server : Server) (old mid new : Standing) (at : ℕ) (out : StepOut) (a b c : L)
    → RunsTold hears server old mid [] (Some at) a b
    → Fires server mid at out new → refuses b (heard_as server.config None out) c → RunsMost hears refuses server old new [] (Some at) a c
firing_untold hears refuses server old mid new at out a b c h fires silent = record {
  runs = runs_firing server old mid new at out h.runs fires;
  told = inr (record {
    link = record { config = server.config; before = mid.state; act = Passing at; out = out; after = new.state };
    others = h.runs.history;
    half = b;
    history_is = refl;
    told = h.told;
    refused = silent;
  });
}

-- it isn't told
pub untold_firing : {L : Type 0} (hears refuses : L → Heard → L
    → Type 0) (server then_server : Server) (old mid new : Standing) (at : ℕ) (config : Config) (out : StepOut) (a b c : L) → then_server ≡ server
    → config ≡ server.config → RunsTold hears server old mid [] (Some at) a b → Fires then_server mid at out new → refuses b (heard_as config None out) c
    → RunsMost hears refuses server old new [] (Some at) a c
untold_firing hears refuses server then_server old mid new at config out a b c same is h fires silent =
    firing_untold hears refuses server old mid new at out a b c h (subst (λ (s : Server). Fires s mid at out new) same fires)
    (subst (λ (k : Config). refuses b (heard_as k None out) c) is silent)

-- ---- why no more happens

firing_refused : {L : Type 0} (hears refuses : L → Heard → L → Type 0) (server : Server) (old mid : Standing) (at : ℕ) (a b : L) (e : StepError)
    → RunsTold hears server old mid [] (Some at) a b
    → StepStops (refusal_at at) e → PassingStops hears refuses server old mid at a b (error_of_step e)
firing_refused hears refuses server old mid at a b step_errors.NoMemory h s = most_of hears refuses server old mid [] (Some at) a b h
firing_refused hears refuses server old mid at a b step_errors.MomentTooLarge h s = record { due = h; refused = s }
firing_refused hears refuses server old mid at a b step_errors.Worn h s = record { due = h; refused = s }

pub passing_stops : {L : Type 0} (hears refuses : L → Heard → L → Type 0) (server : Server) (old mid new : Standing) (at : ℕ) (a b : L) (e : StepError)
    → new ≡ mid → RunsTold hears server old mid [] (Some at) a b
    → RefusesStep (refusal_at at) e → PassingStops hears refuses server old new at a b (error_of_step e)
passing_stops hears refuses server old mid new at a b e same h s =
    subst (λ (x : Standing). PassingStops hears refuses server old x at a b (error_of_step e)) (sym same)
    (firing_refused hears refuses server old mid at a b e h (step_stops (refusal_at at) e s))

pub passing_untold : {L : Type 0} (hears refuses : L → Heard → L → Type 0) (server : Server) (old new : Standing) (at : ℕ) (a c : L) (stop : PrintStop)
    → RunsMost hears refuses server old new [] (Some at) a c
    → PassingStops hears refuses server old new at a c (error_of_print stop)
passing_untold hears refuses server old new at a c prints.NoMemory h = h
passing_untold hears refuses server old new at a c prints.Write h = h
