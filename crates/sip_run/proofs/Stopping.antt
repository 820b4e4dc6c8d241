-- Where a run stops, and the whole of it.
use Rattle.std.proofs.Common.{◌≡◌, ◌<◌, ◌+◌, inl, inr, ℕ, List, [], ◌∷◌, ◌++◌, length, get_or, take, drop, Option, None, Some, refl, sym, ◌∙◌, ap, subst, append-nil}
use Rattle.std.proofs.lemmas.List.{drop_more, take-append-drop}
use Rattle.sip_event.specs.declared.event.Event.{Event}
use Rattle.sip_event.specs.declared.event.StepOut.{StepOut}
use Rattle.sip_engine.specs.state.declared.server.Server.{Server}
use Rattle.sip_engine.specs.state.declared.proxy_state.ProxyState.{ProxyState}
use Rattle.sip_engine.specs.state.State.{first_state}
use Rattle.sip_engine.specs.model.Run.{IsChain, Link, IsRun, event_moment, first_moment}
use Rattle.sip_engine.specs.model.Access.{Access}
use Rattle.sip_engine.specs.model.Bounds.{IsBounded}
use Rattle.sip_engine.specs.declared.error.StepError.{StepError}
use Rattle.sip_engine.specs.declared.error.StepError.TheVariants.{NoMemory}
use Rattle.sip_engine.specs.model.TimerOrder.{Standing, first_standing}
use Rattle.sip_run.specs.Refusals.{RefusesStep}
use Rattle.sip_run.specs.Runs.{IsRunOver, Goes, Halts, Stops}
use Rattle.sip_run.proofs.Going.{RunsJoin, goes_on}

-- ---- before an event

-- want of memory, where the server refuses nothing
no_memory : (refusal : Option StepError) (e : StepError) → refusal ≡ None → e ≡ NoMemory → RefusesStep refusal e
no_memory refusal e none is = subst (λ r. RefusesStep r e) (sym none) is

-- ---- behind events that were taken

pub stops_at : RunsJoin → (server then_server : Server) (old mid : Standing) (events : List Event) (i : ℕ) (event : Event) (a b c : List StepOut) (e : StepError)
    → i < length events → event ≡ get_or events i event
    → then_server ≡ server → Goes server old mid (take i events) None a b → Halts then_server mid event b c e → Stops server old events a c e
stops_at join server then_server old mid events i event a b c e lt is same h halts = record {
  taken = take i events;
  event = event;
  left = drop (i + 1) events;
  last = halts.last;
  cut = sym (take-append-drop i events)
      ∙ ap (λ (es : List Event). take i events ++ es) (drop_more events i event lt ∙ ap (λ (x : Event). x ∷ drop (i + 1) events) (sym is));
  goes = subst (λ (es : List Event). Goes server old halts.last es (Some (event_moment event)) a c) (append-nil (take i events))
      (goes_on join server then_server old mid halts.last (take i events) [] (Some (event_moment event)) a b c same h halts.goes);
  refused = halts.refused;
}

-- ---- the whole

-- every run has access
abbrev pub AllHaveAccess : Type 0
AllHaveAccess =
    (server : Server) (first : ℕ) (events : List Event) (until : Option ℕ) (steps : List StepOut) (history : List Link) (last : ProxyState)
    → IsRun server (first_state first) events until steps history last → Access server history

-- every history is bounded
abbrev pub AllAreBounded : Type 0
AllAreBounded = (server : Server) (first : ℕ) (history : List Link) (last : ProxyState) → IsChain server (first_state first) history last → IsBounded server history

-- every run is lawful: it has both
abbrev pub AllAreLawful : Type 0
AllAreLawful =
    (server : Server) (first : ℕ) (events : List Event) (until : Option ℕ) (steps : List StepOut) (history : List Link) (last : ProxyState)
    → IsRun server (first_state first) events until steps history last → Access server history × IsBounded server history

-- by the two laws
pub by_laws : AllHaveAccess → AllAreBounded → AllAreLawful
by_laws access bounded = λ server first events until steps history last run. (
  access server first events until steps history last run,
  bounded server first history last run.chain,
)

run_over : AllAreLawful → (server : Server) (first : ℕ) (last : Standing) (events : List Event) (list : List StepOut)
    → Goes server (first_standing first) last events None [] list → IsRunOver server first events list None
run_over law server first last events list h = record {
  taken = events;
  left = [];
  history = h.history;
  last = last.state;
  cut = sym (append-nil events);
  is_run = subst (λ (l : List StepOut). IsRun server (first_state first) events None l h.history last.state) (sym h.listed) h.is_run;
  turns = h.turns;
  access = (law server first events None h.steps h.history last.state h.is_run).0;
  bounded = (law server first events None h.steps h.history last.state h.is_run).1;
  ended = inl tt;
}

run_stopped : AllAreLawful → (server : Server) (first : ℕ) (events : List Event) (list : List StepOut) (e : StepError)
    → Stops server (first_standing first) events [] list e → IsRunOver server first events list (Some e)
run_stopped law server first events list e h = record {
  taken = h.taken;
  left = h.event ∷ h.left;
  history = h.goes.history;
  last = h.last.state;
  cut = h.cut;
  is_run = subst (λ (l : List StepOut). IsRun server (first_state first) h.taken (Some (event_moment h.event)) l h.goes.history h.last.state) (sym h.goes.listed)
      h.goes.is_run;
  turns = h.goes.turns;
  access = (law server first h.taken (Some (event_moment h.event)) h.goes.steps h.goes.history h.last.state h.goes.is_run).0;
  bounded = (law server first h.taken (Some (event_moment h.event)) h.goes.steps h.goes.history h.last.state h.goes.is_run).1;
  ended = inl h.refused;
}

-- all events were taken by a server that was opened
pub whole : AllAreLawful → (server then_server : Server) (first : ℕ) (start_at last : Standing) (events : List Event) (start list : List StepOut) → then_server ≡ server
    → start_at ≡ first_standing first → start ≡ []
    → Goes then_server start_at last events None start list → IsRunOver server first events list None
whole law server then_server first start_at last events start list same at_first none h =
    run_over law server first last events list
    (subst (λ (l : List StepOut). Goes server (first_standing first) last events None l list) none
    (subst (λ (x : Standing). Goes server x last events None start list) at_first (subst (λ s. Goes s start_at last events None start list) same h)))

-- up to a refusal
pub stopped : AllAreLawful → (server then_server : Server) (first : ℕ) (start_at : Standing) (events : List Event) (start list : List StepOut) (e : StepError)
    → then_server ≡ server → start_at ≡ first_standing first
    → start ≡ [] → Stops then_server start_at events start list e → IsRunOver server first events list (Some e)
stopped law server then_server first start_at events start list e same at_first none h =
    run_stopped law server first events list e
    (subst (λ (l : List StepOut). Stops server (first_standing first) events l list e) none
    (subst (λ (x : Standing). Stops server x events start list e) at_first (subst (λ s. Stops s start_at events start list e) same h)))

-- there was no server
nothing_run : AllAreLawful → (server : Server) (first : ℕ) (events : List Event) → IsRunOver server first events [] (Some NoMemory)
nothing_run law server first events =
    let nothing : IsRun server (first_state first) [] (first_moment events None) [] [] (first_state first) =
    record { chain = refl; paced = tt; of_events = refl; of_steps = refl; configured = tt } in
    record {
      taken = [];
      left = events;
      history = [];
      last = first_state first;
      cut = refl;
      is_run = nothing;
      turns = tt;
      access = (law server first [] (first_moment events None) [] [] (first_state first) nothing).0;
      bounded = (law server first [] (first_moment events None) [] [] (first_state first) nothing).1;
      ended = inr (record { nothing = refl; no_memory = refl });
    }

pub unopened : AllAreLawful → (server : Server) (first : ℕ) (events : List Event) (list : List StepOut) → list ≡ [] → IsRunOver server first events list (Some NoMemory)
unopened law server first events list none = subst (λ (l : List StepOut). IsRunOver server first events l (Some NoMemory)) (sym none)
    (nothing_run law server first events)
