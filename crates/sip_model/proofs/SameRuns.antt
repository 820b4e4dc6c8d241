-- What is a run behind one history is a run behind another one that led to a state that is the same ahead.
use Rattle.std.proofs.Common.{◌≡◌, ◌∙◌, ◌↔◌, ℕ, ◌≤◌, List, [], ◌∷◌, ◌++◌, reverse, refl, sym, ap, subst, Option}
use Rattle.std.specs.List.{AllByRecursion}
use Rattle.sip_config_types.specs.declared.config.Config.{Config}
use Rattle.sip_event.specs.declared.event.Event.{Event}
use Rattle.sip_event.specs.declared.event.StepOut.{StepOut}
use Rattle.model_steps.specs.state.declared.server.Server.{Server}
use Rattle.model_steps.specs.state.declared.proxy_state.ProxyState.{ProxyState}
use Rattle.model_steps.specs.state.State.{first_state}
use Rattle.model_steps.specs.Step.{Act, IsStep}
use Rattle.sip_model.specs.Run.{Link, under, IsChain, event_of, events_of, steps_of, next_moment, IsPaced, IsUnder, IsRun}
use Rattle.sip_model.specs.Periods.{Period, until_of, IsRunUnder}
use Rattle.sip_model.specs.Access.{Access}
use Rattle.sip_model.specs.Bounds.{IsBounded}
use Rattle.sip_model.specs.SameAhead.{SameAhead}
use Rattle.sip_model.specs.GoingOn.{StepsFrom, RunsFrom, RunsUnderFrom, IsOneBehind}

-- ---- the laws that this stands on

-- a step goes on from another state
abbrev pub StepsGoOn : Type 0
StepsGoOn = (server : Server) (left right : ProxyState) (act : Act) (out : StepOut) (new : ProxyState) → SameAhead left right → left.moment ≤ out.at
    → IsStep server left act out new → StepsFrom server right act out new

-- no step of a history goes back behind the moment of the state that it begins in
abbrev pub MomentsRise : Type 0
MomentsRise = (server : Server) (first : ℕ) (link : Link) (history : List Link) (last : ProxyState)
    → IsChain server (first_state first) (link ∷ history) last → link.before.moment ≤ last.moment

-- a step leaves the moment at which it stands
abbrev pub StepsStand : Type 0
StepsStand = (server : Server) (old new : ProxyState) (act : Act) (out : StepOut) → IsStep server old act out new → new.moment ≡ out.at

-- a history of a server is one of it under another configuration
abbrev pub UnderEach : Type 0
UnderEach = (server : Server) (config : Config) (first : ProxyState) (history : List Link) (last : ProxyState)
    → (IsChain server first history last ↔ IsChain (under server config) first history last)

-- ---- a history

-- one behind another
joined : (server : Server) (first middle last : ProxyState) (history later : List Link) → IsChain server first history middle → IsChain server middle later last
    → IsChain server first (later ++ history) last
joined server first middle last history [] before behind = subst (λ (s : ProxyState). IsChain server first history s) (sym behind) before
joined server first middle last history (link ∷ later) before behind = (behind.0, behind.1, joined server first middle link.before history later before behind.2)

-- a history from another state, of the same steps for the same events, each under the same configuration
record ChainFrom (server : Server) (other : ProxyState) (history : List Link) (last : ProxyState) : Type 0 where
  pub behind : List Link
  pub after : ProxyState
  pub chain : IsChain server other behind after
  pub same : SameAhead last after
  pub of_events : events_of behind ≡ events_of history
  pub of_steps : steps_of behind ≡ steps_of history
  pub paced : (next : Option ℕ) → IsPaced next history → IsPaced next behind
  pub configured : (config : Config) → AllByRecursion (IsUnder config) history → AllByRecursion (IsUnder config) behind

module _ (go_on : StepsGoOn) (rise : MomentsRise) (stand : StepsStand) where
  chain_from : (server : Server) (first : ℕ) (past : List Link) (left right : ProxyState) → IsChain server (first_state first) past left → SameAhead left right
      → (history : List Link) (last : ProxyState) → IsChain server left history last → ChainFrom server right history last
  chain_from server first past left right before h [] last chain = record {
    behind = [];
    after = right;
    chain = refl;
    same = subst (λ (s : ProxyState). SameAhead s right) (sym chain) h;
    of_events = refl;
    of_steps = refl;
    paced = λ next paced. paced;
    configured = λ config each. each;
  }
  chain_from server first past left right before h (link ∷ history) last chain =
      let earlier : ChainFrom server right history link.before = chain_from server first past left right before h history link.before chain.2 in
      let whole : IsChain server (first_state first) (link ∷ (history ++ past)) link.after =
      (refl, chain.1, joined server (first_state first) left link.before past history before chain.2) in
      let later : link.before.moment ≤ link.out.at = subst (λ (moment : ℕ). link.before.moment ≤ moment)
      (stand (under server link.config) link.before link.after link.act link.out chain.1)
      (rise server first link (history ++ past) link.after whole) in
      let step : StepsFrom (under server link.config) earlier.after link.act link.out link.after =
      go_on (under server link.config) link.before earlier.after link.act link.out link.after earlier.same later chain.1 in
      record {
        behind = record { config = link.config; before = earlier.after; act = link.act; out = link.out; after = step.after } ∷ earlier.behind;
        after = step.after;
        chain = (refl, step.is_step, earlier.chain);
        same = subst (λ (s : ProxyState). SameAhead s step.after) (sym chain.0) step.same;
        of_events = ap (event_of link.act) earlier.of_events;
        of_steps = ap (λ (steps : List StepOut). link.out ∷ steps) earlier.of_steps;
        paced = λ next paced. (paced.0, earlier.paced (next_moment next link.act) paced.1);
        configured = λ config each. (each.0, earlier.configured config each.1);
      }

  -- ---- a run

  pub runs_from : (server : Server) (first : ℕ) (past : List Link) (left right : ProxyState) (events : List Event) (until : Option ℕ) (steps : List StepOut)
      (history : List Link) (last : ProxyState)
      → IsChain server (first_state first) past left → SameAhead left right → IsRun server left events until steps history last
      → RunsFrom server right events until steps last
  runs_from server first past left right events until steps history last before h run =
      let from : ChainFrom server right history last = chain_from server first past left right before h history last run.chain in
      record {
        history = from.behind;
        after = from.after;
        is_run = record {
          chain = from.chain;
          paced = from.paced until run.paced;
          of_events = ap (λ (es : List Event). reverse es) from.of_events ∙ run.of_events;
          of_steps = ap (λ (outs : List StepOut). reverse outs) from.of_steps ∙ run.of_steps;
          configured = from.configured server.config run.configured;
        };
        same = from.same;
      }

  pub runs_under_from : UnderEach → (server : Server) (first : ℕ) (past : List Link) (left right : ProxyState) (periods : List Period) (until : Option ℕ)
      (steps : List StepOut) (history : List Link) (last : ProxyState)
      → IsChain server (first_state first) past left → SameAhead left right → IsRunUnder server left periods until steps history last
      → RunsUnderFrom server right periods until steps last
  runs_under_from each server first past left right [] until steps history last before h none = record {
    history = [];
    after = right;
    is_run = record { no_steps = none.no_steps; no_history = refl; stays = refl };
    same = subst (λ (s : ProxyState). SameAhead s right) (sym none.stays) h;
  }
  runs_under_from each server first past left right (period ∷ periods) until steps history last before h run =
      let one : RunsFrom (under server period.config) right period.events (until_of periods until) run.own run.middle =
      runs_from (under server period.config) first past left right period.events (until_of periods until) run.own run.earlier run.middle
      ((each server period.config (first_state first) past left).0 before) h run.is_run in
      let rest : RunsUnderFrom server one.after periods until run.further last =
      runs_under_from each server first (run.earlier ++ past) run.middle one.after periods until run.further run.later last
      (joined server (first_state first) left run.middle past run.earlier before
      ((each server period.config left run.earlier run.middle).1 run.is_run.chain)) one.same run.behind in
      record {
        history = rest.history ++ one.history;
        after = rest.after;
        is_run = record {
          own = run.own;
          further = run.further;
          earlier = one.history;
          later = rest.history;
          middle = one.after;
          is_run = one.is_run;
          behind = rest.is_run;
          of_steps = run.of_steps;
          of_history = refl;
        };
        same = rest.same;
      }

-- ---- one history

-- a run over periods is a history
abbrev pub RunsAreChains : Type 0
RunsAreChains = (server : Server) (first : ProxyState) (periods : List Period) (until : Option ℕ) (steps : List StepOut) (history : List Link) (last : ProxyState)
    → IsRunUnder server first periods until steps history last → IsChain server first history last

-- each history is lawful, and bounded
abbrev pub HaveAccess : Type 0
HaveAccess = (server : Server) (first : ℕ) (history : List Link) (last : ProxyState) → IsChain server (first_state first) history last → Access server history

abbrev pub AreBounded : Type 0
AreBounded = (server : Server) (first : ℕ) (history : List Link) (last : ProxyState) → IsChain server (first_state first) history last
    → IsBounded server history

pub one_behind : RunsAreChains → HaveAccess → AreBounded → (server : Server) (first : ℕ) (past : List Link) (start : ProxyState) (periods : List Period)
    (until : Option ℕ) (steps : List StepOut) (last : ProxyState)
    → IsChain server (first_state first) past start → RunsUnderFrom server start periods until steps last
    → IsOneBehind server first past start periods until steps
one_behind are_chains access bounded server first past start periods until steps last before run =
    let chain : IsChain server (first_state first) (run.history ++ past) run.after =
    joined server (first_state first) start run.after past run.history before
    (are_chains server start periods until steps run.history run.after run.is_run) in
    record {
      history = run.history;
      last = run.after;
      is_run = run.is_run;
      chain = chain;
      access = access server first (run.history ++ past) run.after chain;
      bounded = bounded server first (run.history ++ past) run.after chain;
    }
