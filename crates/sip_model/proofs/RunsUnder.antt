-- Runs under one configuration after the other.
use Rattle.std.proofs.Common.{◌≡◌, ◌∙◌, ◌↔◌, ℕ, List, [], ◌∷◌, ◌++◌, reverse, refl, sym, ap, ap₂, subst, Option}
use Rattle.std.proofs.lemmas.List.{reverse-append, append-nil}
use Rattle.sip_event.specs.declared.event.StepOut.{StepOut}
use Rattle.sip_event.specs.declared.event.Event.{Event}
use Rattle.sip_config_types.specs.declared.config.Config.{Config}
use Rattle.model_steps.specs.state.declared.server.Server.{Server}
use Rattle.model_steps.specs.state.declared.proxy_state.ProxyState.{ProxyState}
use Rattle.model_steps.specs.state.State.{first_state}
use Rattle.sip_model.specs.Run.{Link, under, IsChain, events_of, steps_of, IsPaced, first_moment, IsRun}
use Rattle.sip_model.specs.Periods.{Period, events_in, until_of, IsNoStep, IsRunUnder, IsOneHistory, HasRunUnder}
use Rattle.sip_model.proofs.Chains.{chain_under, chain_back}
use Rattle.sip_model.proofs.Joins.{joined_chain, joined_events, joined_steps, joined_pace, next_is, paced_any}
use Rattle.sip_model.proofs.Passing.{goes_on}

-- no step is a history
one_empty : (server : Server) (first : ProxyState) (until : Option ℕ) (steps : List StepOut) (history : List Link) (last : ProxyState) → IsNoStep first steps history last
    → IsOneHistory server first [] until steps history last
one_empty server first until steps history last h =
    subst (λ (links : List Link). IsOneHistory server first [] until steps links last) (sym h.no_history)
    (record { chain = h.stays; paced = tt; of_events = refl; of_steps = sym h.no_steps })

-- a run under a configuration, and a history behind it, are one
one_behind : (server : Server) (first middle last : ProxyState) (config : Config) (events more : List Event) (until : Option ℕ) (own further : List StepOut)
    (earlier later : List Link)
    → IsRun (under server config) first events (first_moment more until) own earlier middle → IsOneHistory server middle more until further later last
    → IsOneHistory server first (events ++ more) until (own ++ further) (later ++ earlier) last
one_behind server first middle last config events more until own further earlier later before behind = record {
  chain = joined_chain server first middle last earlier later (chain_back server config first earlier middle before.chain) behind.chain;
  paced = joined_pace until earlier later behind.paced
      (subst (λ next. IsPaced next earlier) (sym (next_is later until ∙ ap (λ (es : List Event). first_moment es until) behind.of_events)) before.paced);
  of_events = ap reverse (joined_events earlier later) ∙ reverse-append (events_of later) (events_of earlier)
      ∙ ap₂ (λ (a b : List Event). a ++ b) before.of_events behind.of_events;
  of_steps = ap reverse (joined_steps earlier later) ∙ reverse-append (steps_of later) (steps_of earlier)
      ∙ ap₂ (λ (a b : List StepOut). a ++ b) before.of_steps behind.of_steps;
}

-- a period's run, behind which others come, or nothing
until_next : (server : Server) (first middle : ProxyState) (events : List Event) (periods : List Period) (until : Option ℕ) (own : List StepOut) (earlier : List Link)
    → IsRun server first events (until_of periods until) own earlier middle → IsRun server first events (first_moment (events_in periods) until) own earlier middle
until_next server first middle events [] until own earlier h = h
until_next server first middle events (period ∷ periods) until own earlier h = record {
  chain = h.chain;
  paced = paced_any (first_moment (events_in (period ∷ periods)) until) earlier h.paced;
  of_events = h.of_events;
  of_steps = h.of_steps;
  configured = h.configured;
}

-- a run over periods is one history
pub one_history : (server : Server) (first : ProxyState) (periods : List Period) (until : Option ℕ) (steps : List StepOut) (history : List Link) (last : ProxyState)
    → IsRunUnder server first periods until steps history last → IsOneHistory server first (events_in periods) until steps history last
one_history server first [] until steps history last h = one_empty server first until steps history last h
one_history server first (period ∷ periods) until steps history last h =
    subst (λ (links : List Link). IsOneHistory server first (period.events ++ events_in periods) until steps links last) (sym h.of_history)
    (subst (λ (outs : List StepOut). IsOneHistory server first (period.events ++ events_in periods) until outs (h.later ++ h.earlier) last) (sym h.of_steps)
    (one_behind server first h.middle last period.config period.events (events_in periods) until h.own h.further h.earlier h.later
    (until_next (under server period.config) first h.middle period.events periods until h.own h.earlier h.is_run)
    (one_history server h.middle periods until h.further h.later last h.behind)))

-- ---- one period

-- what is a run under the only period's configuration
one_is : (server : Server) (first middle last : ProxyState) (config : Config) (events : List Event) (until : Option ℕ) (own further steps : List StepOut)
    (earlier later history : List Link)
    → IsRun (under server config) first events until own earlier middle → IsNoStep middle further later last → steps ≡ own ++ further → history ≡ later ++ earlier
    → IsRun (under server config) first events until steps history last
one_is server first middle last config events until own further steps earlier later history h none of_steps of_history =
    subst (λ (state : ProxyState). IsRun (under server config) first events until steps history state) (sym none.stays)
    (subst (λ (links : List Link). IsRun (under server config) first events until steps links middle)
    (sym (of_history ∙ ap (λ (links : List Link). links ++ earlier) none.no_history))
    (subst (λ (outs : List StepOut). IsRun (under server config) first events until outs earlier middle)
    (sym (of_steps ∙ ap (λ (outs : List StepOut). own ++ outs) none.no_steps ∙ append-nil own)) h))

-- one period's run is a run, and a run is one period's
pub one_period : (server : Server) (first : ProxyState) (config : Config) (events : List Event) (until : Option ℕ) (steps : List StepOut) (history : List Link)
    (last : ProxyState)
    → (IsRunUnder server first (record { config = config; events = events } ∷ []) until steps history last ↔ IsRun (under server config) first events until steps history
    last)
one_period server first config events until steps history last = (
  (λ h. one_is server first h.middle last config events until h.own h.further steps h.earlier h.later history h.is_run h.behind h.of_steps h.of_history),
  (λ h. record {
    own = steps;
    further = [];
    earlier = history;
    later = [];
    middle = last;
    is_run = h;
    behind = record { no_steps = refl; no_history = refl; stays = refl };
    of_steps = sym (append-nil steps);
    of_history = refl;
  }),
)

-- ---- there is one

-- a run over periods goes on from where a history led
pub goes_on_under : (server : Server) (first : ℕ) (base : List Link) (start : ProxyState) (periods : List Period) (until : Option ℕ)
    → IsChain server (first_state first) base start → HasRunUnder server start periods until
goes_on_under server first base start [] until before = record {
  steps = [];
  history = [];
  last = start;
  is_run = record { no_steps = refl; no_history = refl; stays = refl };
}
goes_on_under server first base start (period ∷ periods) until before =
    let run = goes_on (under server period.config) first base start (chain_under server period.config (first_state first) base start before) period.events
    (until_of periods until) in
    let behind = goes_on_under server first (run.history ++ base) run.last periods until
    (joined_chain server (first_state first) start run.last base run.history before (chain_back server period.config start run.history run.last run.is_run.chain)) in
    record {
      steps = run.steps ++ behind.steps;
      history = behind.history ++ run.history;
      last = behind.last;
      is_run = record {
        own = run.steps;
        further = behind.steps;
        earlier = run.history;
        later = behind.history;
        middle = run.last;
        is_run = run.is_run;
        behind = behind.is_run;
        of_steps = refl;
        of_history = refl;
      };
    }
