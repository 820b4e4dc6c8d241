-- Why an event of a record isn't taken.
use Rattle.std.proofs.Common.{◌≡◌, inl, inr, ℕ, Bool, true, false, List, [], ◌∷◌, Option, None, Some, refl, sym, subst}
use Rattle.std.specs.Prelude.{IsSome, if◌then◌else◌}
use Rattle.sip_event.specs.declared.event.Event.{Event}
use Rattle.sip_event.specs.declared.event.Event.TheVariants.{Datagram, Time, Fault}
use Rattle.sip_model.specs.state.declared.server.Server.{Server}
use Rattle.sip_model.specs.state.declared.proxy_state.ProxyState.{ProxyState}
use Rattle.sip_model.specs.TimerOrder.{Standing}
use Rattle.sip_model.specs.Run.{event_moment}
use Rattle.sip_run.specs.engine.declared.error.StepError.{StepError}
use Rattle.sip_run.specs.engine.declared.error.StepError.TheVariants as step_errors
use Rattle.sip_run.specs.engine.StepError.{refusal_at, is_too_large}
use Rattle.sip_run.specs.Refusals.{RefusesStep, refusal_of_event}
use Rattle.sip_replay_script.specs.Lines.{Reading, pending}
use Rattle.sip_replay_script.specs.Recorded.{GivesRecorded}
use Rattle.sip_replay_print.specs.Print.{printed}
use Rattle.sip_replay_script.proofs.Fronts.{front_all}
use Rattle.sip_replay_script.specs.declared.print_stop.PrintStop.{PrintStop}
use Rattle.sip_replay_script.specs.declared.print_stop.PrintStop.TheVariants as prints
use Rattle.sip_event.specs.declared.event.StepOut.{StepOut}
use Rattle.sip_resume.specs.Errors.{error_of_print, error_of_step}
use Rattle.sip_resume.specs.Outputs.{Outputs}
use Rattle.sip_resume.specs.Resumes.{FiringStops, IsNext, JournalAt, ResumeStops, RunsPart, RunsShown, StaysAsItWas, StepStops, StopsAmong, StopsAround, TakesOwn}
use Rattle.sip_resume.specs.Resumes.{TurnStops, UnreadStops}
use Rattle.sip_resume.specs.declared.error.ResumeError.{ResumeError}
use Rattle.sip_resume.specs.declared.error.ResumeError.TheVariants as errors
use Rattle.sip_resume.proofs.Running.{shown_by}
use Rattle.sip_segment_config.proofs.Stopping.{next_bytes}

-- ---- a step that is refused

some_stops : (refusal e : StepError) → StepStops (Some refusal) e
some_stops refusal step_errors.NoMemory = tt
some_stops refusal step_errors.MomentTooLarge = refl
some_stops refusal step_errors.Worn = refl

pub step_stops : (refusal : Option StepError) (e : StepError) → RefusesStep refusal e → StepStops refusal e
step_stops None e h = subst (λ x. StepStops None x) (sym h) tt
step_stops (Some refusal) e h = some_stops refusal e

pub some_else : {X : Type 0} (b : Bool) (x : X) (other : Option X) → IsSome (if b then Some x else None) → IsSome (if b then Some x else other)
some_else true x other h = h
some_else false x other h = absurd (cc)

-- a moment that is too large is that for each event
pub too_late : (state : ProxyState) (event : Event) → IsSome (refusal_at (event_moment event)) → IsSome (refusal_of_event state event)
too_late state (Datagram at word from bytes) h = some_else (is_too_large at) step_errors.MomentTooLarge _ h
too_late state (Time at) h = h
too_late state (Fault at ticket) h = h

part_of : (server : Server) (old new : Standing) (events : List Event) (until : Option ℕ) (a b : Option (List ℕ)) → RunsShown server old new events until a b
    → RunsPart server old new events until a b
part_of server old new events until a b h = record { runs = h.runs; front = front_all a b (printed h.runs.steps) h.all }

-- what is due was refused
firing_refused : (server : Server) (old mid : Standing) (at : ℕ) (a b : Option (List ℕ)) (e : StepError) → RunsShown server old mid [] (Some at) a b
    → StepStops (refusal_at at) e → FiringStops server old mid at a b (error_of_step e)
firing_refused server old mid at a b step_errors.NoMemory h s = part_of server old mid [] (Some at) a b h
firing_refused server old mid at a b step_errors.MomentTooLarge h s = record { due = h; refused = s }
firing_refused server old mid at a b step_errors.Worn h s = record { due = h; refused = s }

pub firing_stops : (server : Server) (old mid new : Standing) (at : ℕ) (a b : Option (List ℕ)) (e : StepError) → new ≡ mid → RunsShown server old mid [] (Some at) a b
    → RefusesStep (refusal_at at) e → FiringStops server old new at a b (error_of_step e)
firing_stops server old mid new at a b e same h s =
    subst (λ (x : Standing). FiringStops server old x at a b (error_of_step e)) (sym same) (firing_refused server old mid at a b e h (step_stops (refusal_at at) e s))

-- or wasn't shown
pub firing_unshown : (server : Server) (old new : Standing) (at : ℕ) (a c : Option (List ℕ)) (stop : PrintStop) → RunsPart server old new [] (Some at) a c
    → FiringStops server old new at a c (error_of_print stop)
firing_unshown server old new at a c prints.NoMemory h = h
firing_unshown server old new at a c prints.Write h = h

-- and so an event isn't taken
due_so : (server : Server) (old new : Standing) (event : Event) (a b : Option (List ℕ)) (e : ResumeError) → FiringStops server old new (event_moment event) a b e
    → TurnStops server old new event a b e
due_so server old new event a b errors.NoMemory h = inl h
due_so server old new event a b (errors.Damaged line) h = absurd h
due_so server old new event a b errors.Read h = absurd h
due_so server old new event a b errors.Step h = record { due = h.due; refused = too_late new.state event h.refused }
due_so server old new event a b errors.Journal h = absurd h
due_so server old new event a b errors.Write h = inl h

pub due_stops : (server : Server) (old new : Standing) (at : ℕ) (event : Event) (a b : Option (List ℕ)) (e : ResumeError) → at ≡ event_moment event
    → FiringStops server old new at a b e → TurnStops server old new event a b e
due_stops server old new at event a b e is h = due_so server old new event a b e (subst (λ (m : ℕ). FiringStops server old new m a b e) is h)

-- its own step was refused
own_refused : (server : Server) (old mid : Standing) (event : Event) (a b : Option (List ℕ)) (e : StepError) → RunsShown server old mid [] (Some (event_moment event)) a b
    → StepStops (refusal_of_event mid.state event) e → TurnStops server old mid event a b (error_of_step e)
own_refused server old mid event a b step_errors.NoMemory h s = inl (part_of server old mid [] (Some (event_moment event)) a b h)
own_refused server old mid event a b step_errors.MomentTooLarge h s = record { due = h; refused = s }
own_refused server old mid event a b step_errors.Worn h s = record { due = h; refused = s }

pub own_stops : (server : Server) (old mid new : Standing) (at : ℕ) (event : Event) (a b : Option (List ℕ)) (e : StepError) → new ≡ mid → at ≡ event_moment event
    → RunsShown server old mid [] (Some at) a b → RefusesStep (refusal_of_event mid.state event) e
    → TurnStops server old new event a b (error_of_step e)
own_stops server old mid new at event a b e same is h s =
    subst (λ (x : Standing). TurnStops server old x event a b (error_of_step e)) (sym same)
    (own_refused server old mid event a b e (shown_by server old mid at event a b is h) (step_stops (refusal_of_event mid.state event) e s))

-- or wasn't shown
pub own_unshown : (server : Server) (old new : Standing) (event : Event) (a c : Option (List ℕ)) (stop : PrintStop) → RunsPart server old new (event ∷ []) None a c
    → TurnStops server old new event a c (error_of_print stop)
own_unshown server old new event a c prints.NoMemory h = inr h
own_unshown server old new event a c prints.Write h = inr h

-- ---- an event that comes next

is_next : (part rest : Reading) (m r : Option (List ℕ)) (event : Event) → GivesRecorded part rest m r event → IsNext (pending part m) event
is_next part rest m r event g = record { text = g.given.text; says = g.recorded; begins = next_bytes (pending part m) (pending rest r) g.given.text g.given.consumes }

among : (server : Server) (old new : Standing) (part rest : Reading) (m r : Option (List ℕ)) (event : Event) (outs outs_then : Outputs)
    → GivesRecorded part rest m r event → StopsAround server old new event outs.shown outs_then.shown
    → StopsAmong server old new (pending part m) outs outs_then
among server old new part rest m r event outs outs_then given (inl h) = inl (record { event = event; next = is_next part rest m r event given; part = h })
among server old new part rest m r event outs outs_then given (inr h) = inr (record { event = event; next = is_next part rest m r event given; part = h })

pub turn_refused : (F : Type 0) (server : Server) (old new : Standing) (part rest : Reading) (m r : Option (List ℕ)) (event : Event) (number : ℕ)
    (outs outs_then : Outputs) (e : ResumeError) → GivesRecorded part rest m r event
    → TurnStops server old new event outs.shown outs_then.shown e → ResumeStops server old new F (pending part m) number outs outs_then e
turn_refused F server old new part rest m r event number outs outs_then errors.NoMemory given h = inr (among server old new part rest m r event outs outs_then given h)
turn_refused F server old new part rest m r event number outs outs_then (errors.Damaged line) given h = absurd h
turn_refused F server old new part rest m r event number outs outs_then errors.Read given h = absurd h
turn_refused F server old new part rest m r event number outs outs_then errors.Step given h =
    record { event = event; next = is_next part rest m r event given; runs = h.due.runs; shown = h.due.all; refused = h.refused }
turn_refused F server old new part rest m r event number outs outs_then errors.Journal given h = absurd h
turn_refused F server old new part rest m r event number outs outs_then errors.Write given h = among server old new part rest m r event outs outs_then given h

pub turn_told : (server : Server) (old new : Standing) (event : Event) (a b : Option (List ℕ)) (written : Option (Option (List ℕ))) (e : ResumeError)
    → TurnStops server old new event a b e → JournalAt written written e
turn_told server old new event a b written errors.NoMemory h = refl
turn_told server old new event a b written (errors.Damaged line) h = absurd h
turn_told server old new event a b written errors.Read h = absurd h
turn_told server old new event a b written errors.Step h = refl
turn_told server old new event a b written errors.Journal h = absurd h
turn_told server old new event a b written errors.Write h = refl

-- it was taken, and not told
pub untold : (F : Type 0) (server : Server) (old new : Standing) (part rest : Reading) (m r : Option (List ℕ)) (event : Event) (number : ℕ) (outs outs_then : Outputs)
    (out : StepOut) (e : ResumeError) → e ≡ errors.Journal
    → GivesRecorded part rest m r event → TakesOwn server old new event outs.shown outs_then.shown out → outs_then.written ≡ None
    → ResumeStops server old new F (pending part m) number outs outs_then e
untold F server old new part rest m r event number outs outs_then out e is given takes failed =
    subst (λ (x : ResumeError). ResumeStops server old new F (pending part m) number outs outs_then x) (sym is)
    (record { event = event; next = is_next part rest m r event given; runs = takes.runs; shown = takes.all; failed = failed })

pub untold_at : (old new : Option (Option (List ℕ))) (e : ResumeError) → e ≡ errors.Journal → new ≡ None → JournalAt old new e
untold_at old new e is failed = subst (λ (x : ResumeError). JournalAt old new x) (sym is) failed

-- ---- no event that comes next

pub stays : (state : Standing) (outs : Outputs) → StaysAsItWas state state outs outs
stays state outs = record { state = refl; shown = refl }

pub unread : (F : Type 0) (server : Server) (state : Standing) (number : ℕ) (script : Option (List ℕ)) (outs : Outputs) (e : ResumeError) → UnreadStops F script number e
    → ResumeStops server state state F script number outs outs e
unread F server state number script outs errors.NoMemory h = inl (stays state outs)
unread F server state number script outs (errors.Damaged line) h = (refl, h.0, h.1, refl)
unread F server state number script outs errors.Read h = (refl, h, refl)
unread F server state number script outs errors.Step h = absurd h
unread F server state number script outs errors.Journal h = absurd h
unread F server state number script outs errors.Write h = absurd h

pub unread_told : (F : Type 0) (number : ℕ) (script : Option (List ℕ)) (written : Option (Option (List ℕ))) (e : ResumeError) → UnreadStops F script number e
    → JournalAt written written e
unread_told F number script written errors.NoMemory h = refl
unread_told F number script written (errors.Damaged line) h = refl
unread_told F number script written errors.Read h = refl
unread_told F number script written errors.Step h = absurd h
unread_told F number script written errors.Journal h = absurd h
unread_told F number script written errors.Write h = absurd h
