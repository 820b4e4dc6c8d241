-- Two runs, one behind the other, are one.
use Rattle.std.proofs.Common.{◌≡◌, ◌∙◌, ℕ, List, [], ◌∷◌, ◌++◌, reverse, refl, sym, ap, ap₂, subst, Option, Some, None}
use Rattle.std.proofs.lemmas.List.{reverse-append}
use Rattle.std.specs.List.{AllByRecursion}
use Rattle.sip_event.specs.declared.event.StepOut.{StepOut}
use Rattle.sip_event.specs.declared.event.Event.{Event}
use Rattle.model_steps.specs.state.declared.server.Server.{Server}
use Rattle.model_steps.specs.state.declared.proxy_state.ProxyState.{ProxyState}
use Rattle.model_steps.specs.Step.{Act, Given, Passing}
use Rattle.sip_model.specs.Run.{Link, IsChain, event_of, events_of, steps_of, event_moment, next_moment, IsPaced, IsUnder, IsUpTo, first_moment, IsRun}

-- a chain behind another one
pub joined_chain : (server : Server) (first middle last : ProxyState) (history later : List Link) → IsChain server first history middle → IsChain server middle later last
    → IsChain server first (later ++ history) last
joined_chain server first middle last history [] before behind = subst (λ state. IsChain server first history state) (sym behind) before
joined_chain server first middle last history (link ∷ later) before behind =
    (behind.0, behind.1, joined_chain server first middle link.before history later before behind.2)

-- the events of a history behind another one
pub joined_events : (history later : List Link) → events_of (later ++ history) ≡ events_of later ++ events_of history
joined_events history [] = refl
joined_events history (link ∷ later) = by_act link.act (joined_events history later) where
  by_act : (act : Act) → events_of (later ++ history) ≡ events_of later ++ events_of history
      → event_of act (events_of (later ++ history)) ≡ event_of act (events_of later) ++ events_of history
  by_act (Given event) rest = ap (λ (events : List Event). event ∷ events) rest
  by_act (Passing at) rest = rest

-- its steps
pub joined_steps : (history later : List Link) → steps_of (later ++ history) ≡ steps_of later ++ steps_of history
joined_steps history [] = refl
joined_steps history (link ∷ later) = ap (λ (steps : List StepOut). link.out ∷ steps) (joined_steps history later)

-- ---- pace

-- the moment of the event that comes next, seen from before a history
abbrev pub next_before : Option ℕ → List Link → Option ℕ
next_before next [] = next
next_before next (link ∷ history) = next_before (next_moment next link.act) history

-- the moment of the first of some events and one behind them
moment_behind : (event : Event) (events : List Event) (next : Option ℕ) → first_moment (events ++ event ∷ []) next ≡ first_moment events (Some (event_moment event))
moment_behind event [] next = refl
moment_behind event (other ∷ events) next = refl

-- it is the moment of the history's first event
pub next_is : (history : List Link) (next : Option ℕ) → next_before next history ≡ first_moment (reverse (events_of history)) next
next_is [] next = refl
next_is (link ∷ history) next = by_act link.act (λ later. next_is history later) where
  by_act : (act : Act) → ((later : Option ℕ) → next_before later history ≡ first_moment (reverse (events_of history)) later)
      → next_before (next_moment next act) history ≡ first_moment (reverse (event_of act (events_of history))) next
  by_act (Given event) rest =
      rest (Some (event_moment event)) ∙ sym (moment_behind event (reverse (events_of history)) next)
      ∙ ap (λ (events : List Event). first_moment events next) (sym (reverse-append (event ∷ []) (events_of history)))
  by_act (Passing at) rest = rest next

-- a history behind another one keeps the pace
pub joined_pace : (next : Option ℕ) (history later : List Link) → IsPaced next later → IsPaced (next_before next later) history → IsPaced next (later ++ history)
joined_pace next history [] pace before = before
joined_pace next history (link ∷ later) pace before = (pace.0, joined_pace (next_moment next link.act) history later pace.1 before)

-- a history that ends with an event keeps the pace whatever comes next
paced_act : (next : Option ℕ) (act : Act) (history : List Link) → (IsUpTo None act × IsPaced (next_moment None act) history)
    → (IsUpTo next act × IsPaced (next_moment next act) history)
paced_act next (Given event) history h = h
paced_act next (Passing at) history h = absurd h.0

pub paced_any : (next : Option ℕ) (history : List Link) → IsPaced None history → IsPaced next history
paced_any next [] h = tt
paced_any next (link ∷ history) h = paced_act next link.act history h

-- ---- the whole

-- what holds of the links of both
pub all_joined : (P : Link → Type 0) (history later : List Link) → AllByRecursion P history → AllByRecursion P later → AllByRecursion P (later ++ history)
all_joined P history [] before behind = before
all_joined P history (link ∷ later) before behind = (behind.0, all_joined P history later before behind.1)

-- two runs, one behind the other, are one
pub joined_run : (server : Server) (first middle last : ProxyState) (events more : List Event) (until : Option ℕ) (steps further : List StepOut)
    (history later : List Link)
    → IsRun server first events (first_moment more until) steps history middle → IsRun server middle more until further later last
    → IsRun server first (events ++ more) until (steps ++ further) (later ++ history) last
joined_run server first middle last events more until steps further history later before behind = record {
  chain = joined_chain server first middle last history later before.chain behind.chain;
  paced = joined_pace until history later behind.paced
      (subst (λ next. IsPaced next history) (sym (next_is later until ∙ ap (λ (es : List Event). first_moment es until) behind.of_events)) before.paced);
  of_events = ap reverse (joined_events history later) ∙ reverse-append (events_of later) (events_of history)
      ∙ ap₂ (λ (a b : List Event). a ++ b) before.of_events behind.of_events;
  of_steps = ap reverse (joined_steps history later) ∙ reverse-append (steps_of later) (steps_of history)
      ∙ ap₂ (λ (a b : List StepOut). a ++ b) before.of_steps behind.of_steps;
  configured = all_joined (IsUnder server.config) history later before.configured behind.configured;
}
