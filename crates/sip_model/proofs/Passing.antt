-- Time can always pass, and each event has its step: a run never gets stuck.
use Rattle.std.proofs.Common.{◌≡◌, ◌⊎◌, ◌∙◌, inl, inr, ℕ, zero, suc, ◌+◌, ◌-◌, ◌≤◌, ◌<◌, List, [], ◌∷◌, ◌++◌, reverse, max, Option, Some, refl, sym, ap, subst, arith}
use Rattle.std.proofs.Common.{sum_by}
use Rattle.std.proofs.lemmas.List.{reverse-append, reverse-reverse, append_assoc, append-nil}
use Rattle.std.specs.List.{AllByRecursion}
use Rattle.sip_event.specs.declared.event.StepOut.{StepOut}
use Rattle.sip_event.specs.declared.event.Event.{Event}
use Rattle.sip_event.specs.declared.event.Event.TheVariants.{Datagram, Time, Fault}
use Rattle.model_steps.specs.state.declared.server.Server.{Server}
use Rattle.model_steps.specs.state.declared.open_request.OpenRequest.{OpenRequest}
use Rattle.model_steps.specs.state.declared.proxy_state.ProxyState.{ProxyState}
use Rattle.model_steps.specs.state.State.{first_state, deadlines}
use Rattle.model_steps.specs.context_model.Retransmission.{resends}
use Rattle.model_steps.specs.Effect.{Effect, changed, nothing, datagram_effect}
use Rattle.model_steps.specs.Step.{Act, Given, Passing, IsStep, NoneBy, NoneAgainBy, IsDeadline, IsResend, moment_of, arrival_of, resent, fault_effect}
use Rattle.sip_model.specs.Run.{Link, IsUnder, IsChain, events_of, steps_of, event_moment, IsPaced, HasRun}
use Rattle.sip_model.specs.Order.{ByDeadline, deadlines_left}
use Rattle.sip_model.proofs.Places.{contains_from_in, all_in, all_weaker, sum_replaced}
use Rattle.sip_model.proofs.Resending.{IsAgain}
use Rattle.sip_model.proofs.Events.{IsDue, resent_number, change_event}
use Rattle.sip_model.proofs.Settling.{event_number}
use Rattle.sip_model.proofs.Orders.{chain_named}
use Rattle.sip_model.proofs.Deadlines.{IsFrom, each_due, all_due, chain_passes_none}
use Rattle.sip_model.proofs.Again.{all_again, chain_again}
use Rattle.sip_model.proofs.DeadlinesLeft.{passed_left, resent_left}
use Rattle.sip_model.proofs.Joins.{joined_chain}
use Rattle.sip_model.proofs.FirstDue.{IsOverdueAt, IsResentAt, overdue_at, resent_at, moments_by, fewer_due}
use Rattle.sip_model.proofs.Outcomes.{overdue_first, datagram_marked, fault_marked, resent_marked, out_of, does_say}

-- ---- where a run stands

-- A history from one state on, for some events, newest first; behind it time passes up to the moment of the next one, `at`, to the moment `most` in all, and nothing is
-- due before `t`.
record StandsAt (server : Server) (start : ProxyState) (at most : ℕ) (events : List Event) (t : ℕ) (history : List Link) (state : ProxyState) : Type 0 where
  pub chain : IsChain server start history state
  pub paced : IsPaced (Some at) history
  pub configured : AllByRecursion (IsUnder server.config) history
  pub of_events : events_of history ≡ events
  pub up_to : max state.moment at ≡ most
  pub low : state.moment ≤ t
  pub due : AllByRecursion (IsDue t) state.requests
  pub again : AllByRecursion (IsAgain t) state.requests

-- some history by which time has passed
record HasPassed (server : Server) (start : ProxyState) (at most : ℕ) (events : List Event) : Type 0 where
  pub history : List Link
  pub state : ProxyState
  pub chain : IsChain server start history state
  pub paced : IsPaced (Some at) history
  pub configured : AllByRecursion (IsUnder server.config) history
  pub of_events : events_of history ≡ events
  pub up_to : max state.moment at ≡ most
  pub none_due : NoneBy most state.requests
  pub none_again : NoneAgainBy most state.requests

-- a history for some events, newest first, behind which an event may come
record HasTaken (server : Server) (start : ProxyState) (events : List Event) : Type 0 where
  pub history : List Link
  pub state : ProxyState
  pub chain : IsChain server start history state
  pub paced : (next : Option ℕ) → IsPaced next history
  pub configured : AllByRecursion (IsUnder server.config) history
  pub of_events : events_of history ≡ events

-- a step that is taken for something
record HasStep (server : Server) (old : ProxyState) (act : Act) : Type 0 where
  pub out : StepOut
  pub new : ProxyState
  pub is_step : IsStep server old act out new

-- how many deadlines of open requests may still pass
abbrev all_left : List OpenRequest → ℕ
all_left requests = sum_by deadlines_left requests

-- how many moments of theirs, at which something may go again, are at a moment or before it
abbrev all_by : ℕ → List OpenRequest → ℕ
all_by t requests = sum_by (moments_by t) requests

-- ---- numbers

-- a moment between a state's and the greatest one leads up to that, too
between : (a t at most : ℕ) → a ≤ t → t ≤ most → max a at ≡ most → max t at ≡ most
between a t at most low high e = omega (arith, low, high, e)

-- a moment that isn't before the next one is later than this one
later_than : (most t : ℕ) (dues : List ℕ) → most + 1 ≤ t → AllByRecursion (IsFrom t) dues → AllByRecursion (λ due. most < due) dues
later_than most t dues late all = all_weaker (IsFrom t) (λ due. most < due) dues (λ due h. omega (arith, late, h)) all

-- one that is later isn't before
not_before : (most : ℕ) (dues : List ℕ) → AllByRecursion (λ due. most < due) dues → AllByRecursion (λ due. most ≤ due) dues
not_before most dues all = all_weaker (λ due. most < due) (λ due. most ≤ due) dues (λ due h. omega (arith, h)) all

-- ---- the step of an event

-- once all that was due has passed, an event has its step
steps_to : (server : Server) (event : Event) (old : ProxyState) → NoneBy (max old.moment (event_moment event)) old.requests
    → NoneAgainBy (max old.moment (event_moment event)) old.requests → HasStep server old (Given event)
steps_to server (Datagram at word from bytes) old none none_again =
    let effect : Effect = datagram_effect server old (arrival_of old at word from) bytes in
    record {
      out = out_of (moment_of old at) effect;
      new = effect.state;
      is_step = record {
        none_due = none;
        none_again = none_again;
        does = does_say server old (moment_of old at) effect
            (datagram_marked server old (arrival_of old at word from) bytes);
      };
    }
steps_to server (Time at) old none none_again =
    let now : ℕ = moment_of old at in
    let effect : Effect = nothing (record old { moment = now }) in
    let does = does_say server old now effect (record { firsts = tt; agains = tt }) in
    let low : old.moment ≤ now = omega arith in
    let high : now ≤ moment_of old at = omega arith in
    record {
      out = out_of now effect;
      new = effect.state;
      is_step = record {
        none_due = none;
        none_again_due = none_again;
        at_moment = refl;
        quiet = record {
          no_earlier = low;
          no_later = high;
          none_passed = not_before now (deadlines old.requests) none;
          none_again_passed = not_before now (resends old.requests) none_again;
          does = does;
        };
      };
    }
steps_to server (Fault at ticket) old none none_again =
    let now : ℕ = moment_of old at in
    let effect : Effect = fault_effect server now ticket (record old { moment = now }) in
    record {
      out = out_of now effect;
      new = effect.state;
      is_step = record {
        none_passed = not_before now (deadlines old.requests) none;
        none_again = not_before now (resends old.requests) none_again;
        does = does_say server old now effect (fault_marked server now ticket (record old { moment = now }));
      };
    }

module _ (server : Server) (first : ℕ) (base : List Link) (start : ProxyState) (before : IsChain server (first_state first) base start) where
  -- ---- one step behind a history

  -- a history with one more step
  abbrev stepped : Act → ProxyState → StepOut → ProxyState → List Link → List Link
  stepped act old out new history = record { config = server.config; before = old; act = act; out = out; after = new } ∷ history

  -- a step of passing time leads to where nothing is due before its moment
  stands_behind : (at most : ℕ) (events : List Event) (t : ℕ) (history : List Link) (old : ProxyState) (out : StepOut) (new : ProxyState)
      → StandsAt server start at most events t history old → t ≤ most → new.moment ≡ t
      → IsStep server old (Passing at) out new → StandsAt server start at most events t (stepped (Passing at) old out new history) new
  stands_behind at most events t history old out new h high is step =
      let chain : IsChain server start (stepped (Passing at) old out new history) new = (refl, step, h.chain) in
      let whole = joined_chain server (first_state first) start new base (stepped (Passing at) old out new history) before chain in
      record {
        chain = chain;
        paced = (refl, h.paced);
        configured = (refl, h.configured);
        of_events = h.of_events;
        up_to = ap (λ (m : ℕ). max m at) is ∙ between old.moment t at most h.low high h.up_to;
        low = omega (arith, is);
        due = subst (λ (m : ℕ). AllByRecursion (IsDue m) new.requests) is (each_due new.moment new.requests
            (chain_passes_none server first (stepped (Passing at) old out new history ++ base) new whole));
        again = subst (λ (m : ℕ). AllByRecursion (IsAgain m) new.requests) is (chain_again server first (stepped (Passing at) old out new history ++ base) new whole);
      }

  -- ---- a deadline

  -- the state after a deadline
  abbrev after_deadline : (t : ℕ) (state : ProxyState) → IsOverdueAt server t state.requests → Effect
  after_deadline t state found = changed server t state found.change

  -- it passes
  passes : (at most : ℕ) (events : List Event) (t : ℕ) (history : List Link) (state : ProxyState) (h : StandsAt server start at most events t history state) → t ≤ most
      → (found : IsOverdueAt server t state.requests)
      → StandsAt server start at most events t (stepped (Passing at) state (out_of t (after_deadline t state found)) (after_deadline t state found).state history)
      (after_deadline t state found).state
  passes at most events t history state h high found =
      let effect : Effect = after_deadline t state found in
      let step : IsDeadline server state at (out_of t effect) effect.state = record {
        request = found.request;
        change = found.change;
        is_open = contains_from_in state.requests found.request found.is_open;
        passes = found.passes;
        is_due = subst (λ (m : ℕ). t ≤ m) (sym h.up_to) high;
        is_first = all_due t state.requests h.due;
        none_again = all_again t state.requests h.again;
        does = does_say server state t effect (record { firsts = overdue_first server t found.request found.change found.passes; agains = tt });
      } in
      stands_behind at most events t history state (out_of t effect) effect.state h high refl (inr (inl step))

  -- fewer are left then
  passes_fewer : (at most : ℕ) (events : List Event) (t : ℕ) (history : List Link) (state : ProxyState) → StandsAt server start at most events t history state
      → (found : IsOverdueAt server t state.requests)
      → all_left (after_deadline t state found).state.requests + 1 ≤ all_left state.requests
  passes_fewer at most events t history state h found =
      let named = chain_named server first (history ++ base) state (joined_chain server (first_state first) start state base history before h.chain) in
      let event = change_event server t found.request found.change (ByDeadline found.change found.passes) in
      sum_replaced deadlines_left 1 found.change.request found.request state.requests found.is_open (event_number server t found.request found.change event)
      (named.numbers.differ found.request.number)
      (passed_left server t found.request found.change found.passes)

  -- ---- what goes again

  -- the state after something went again
  abbrev after_resend : (t : ℕ) (state : ProxyState) → IsResentAt server t state.requests → Effect
  after_resend t state found = resent t state found.packets found.next

  -- it goes
  goes : (at most : ℕ) (events : List Event) (t : ℕ) (history : List Link) (state : ProxyState) (h : StandsAt server start at most events t history state) → t ≤ most
      → (found : IsResentAt server t state.requests)
      → StandsAt server start at most events t (stepped (Passing at) state (out_of t (after_resend t state found)) (after_resend t state found).state history)
      (after_resend t state found).state
  goes at most events t history state h high found =
      let effect : Effect = after_resend t state found in
      let step : IsResend server state at (out_of t effect) effect.state = record {
        request = found.request;
        packets = found.packets;
        next = found.next;
        is_open = contains_from_in state.requests found.request found.is_open;
        goes = found.goes;
        is_due = subst (λ (m : ℕ). t ≤ m) (sym h.up_to) high;
        is_first = all_due t state.requests h.due;
        none_again = all_again t state.requests h.again;
        does = does_say server state t effect (record { firsts = tt; agains = resent_marked server t found.request found.packets found.next found.goes });
      } in
      stands_behind at most events t history state (out_of t effect) effect.state h high refl (inr (inr step))

  -- fewer are due then
  goes_fewer : (at most : ℕ) (events : List Event) (t : ℕ) (history : List Link) (state : ProxyState) → StandsAt server start at most events t history state
      → (found : IsResentAt server t state.requests)
      → all_by t (after_resend t state found).state.requests + 1 ≤ all_by t state.requests
  goes_fewer at most events t history state h found =
      let named = chain_named server first (history ++ base) state (joined_chain server (first_state first) start state base history before h.chain) in
      sum_replaced (moments_by t) 1 found.next found.request state.requests found.is_open (resent_number server t found.request found.packets found.next found.goes)
      (named.numbers.differ found.request.number)
      (fewer_due server t found.request found.packets found.next found.goes (all_in (IsAgain t) state.requests found.request h.again found.is_open))

  -- no more deadlines are left then
  goes_left : (at most : ℕ) (events : List Event) (t : ℕ) (history : List Link) (state : ProxyState) → StandsAt server start at most events t history state
      → (found : IsResentAt server t state.requests)
      → all_left (after_resend t state found).state.requests ≤ all_left state.requests
  goes_left at most events t history state h found =
      let named = chain_named server first (history ++ base) state (joined_chain server (first_state first) start state base history before h.chain) in
      let total = sum_replaced deadlines_left 0 found.next found.request state.requests found.is_open
      (resent_number server t found.request found.packets found.next found.goes) (named.numbers.differ found.request.number)
      (let one = resent_left server t found.request found.packets found.next found.goes in omega (arith, one)) in
      omega (arith, total)

  -- ---- time passes

  -- it can pass where so many deadlines are left at most
  abbrev CanPass : ℕ → ℕ → List Event → ℕ → Type 0
  CanPass at most events left =
      (t k : ℕ) (history : List Link) (state : ProxyState) → StandsAt server start at most events t history state → most + 1 ≡ t + k → all_left state.requests ≤ left
      → HasPassed server start at most events

  -- it has, once nothing is due by the greatest moment
  passed : (at most : ℕ) (events : List Event) (t : ℕ) (history : List Link) (state : ProxyState) → StandsAt server start at most events t history state → most + 1 ≤ t
      → HasPassed server start at most events
  passed at most events t history state h late = record {
    history = history;
    state = state;
    chain = h.chain;
    paced = h.paced;
    configured = h.configured;
    of_events = h.of_events;
    up_to = h.up_to;
    none_due = later_than most t (deadlines state.requests) late (all_due t state.requests h.due);
    none_again = later_than most t (resends state.requests) late (all_again t state.requests h.again);
  }

  -- at one moment a deadline passes, after which fewer are left; or something goes again, after which fewer are due; or time goes on
  at_moment : (at most : ℕ) (events : List Event) (left t k : ℕ) (history : List Link) (state : ProxyState) → StandsAt server start at most events t history state
      → most + 1 ≡ t + (k + 1) → all_left state.requests ≤ left
      → ((later_history : List Link) (new : ProxyState) → StandsAt server start at most events t later_history new → all_left new.requests + 1 ≤ left
      → HasPassed server start at most events)
      → ((later_history : List Link) (new : ProxyState) → StandsAt server start at most events t later_history new → all_left new.requests ≤ left
      → all_by t new.requests + 1 ≤ all_by t state.requests
      → HasPassed server start at most events)
      → (StandsAt server start at most events (t + 1) history state → HasPassed server start at most events) → HasPassed server start at most events
  at_moment at most events left t k history state h e few fewer again later = by_deadline (overdue_at server t state.requests h.due) where
    high : t ≤ most
    high = omega (arith, e)

    by_resend : AllByRecursion (IsDue (t + 1)) state.requests → IsResentAt server t state.requests ⊎ AllByRecursion (IsAgain (t + 1)) state.requests
        → HasPassed server start at most events
    by_resend due (inl found) =
        let same = goes_left at most events t history state h found in
        again _ _ (goes at most events t history state h high found) (omega (arith, same, few)) (goes_fewer at most events t history state h found)
    by_resend due (inr rest) =
        later (record {
          chain = h.chain;
          paced = h.paced;
          configured = h.configured;
          of_events = h.of_events;
          up_to = h.up_to;
          low = omega (arith, h.low);
          due = due;
          again = rest;
        })

    by_deadline : IsOverdueAt server t state.requests ⊎ AllByRecursion (IsDue (t + 1)) state.requests → HasPassed server start at most events
    by_deadline (inl found) = let less = passes_fewer at most events t history state h found in
        fewer _ _ (passes at most events t history state h high found) (omega (arith, less, few))
    by_deadline (inr due) = by_resend due (resent_at server t state.requests h.again)

  -- one thing after the other at one moment
  by_counts : (at most : ℕ) (events : List Event) (left t k : ℕ) → most + 1 ≡ t + (k + 1)
      → ((later_history : List Link) (new : ProxyState) → StandsAt server start at most events t later_history new → all_left new.requests + 1 ≤ left
      → HasPassed server start at most events)
      → ((later_history : List Link) (new : ProxyState) → StandsAt server start at most events (t + 1) later_history new → all_left new.requests ≤ left
      → HasPassed server start at most events)
      → (count : ℕ) (history : List Link) (state : ProxyState) → StandsAt server start at most events t history state → all_left state.requests ≤ left
      → all_by t state.requests ≤ count → HasPassed server start at most events
  by_counts at most events left t k e fewer later zero history state h few counted =
      at_moment at most events left t k history state h e few fewer (λ later_history new stands same less. absurd (omega (arith, less, counted)))
      (λ stands. later history state stands few)
  by_counts at most events left t k e fewer later (suc count) history state h few counted =
      at_moment at most events left t k history state h e few fewer
      (λ later_history new stands same less. by_counts at most events left t k e fewer later count later_history new stands same (omega (arith, less, counted)))
      (λ stands. later history state stands few)

  -- from moment to moment
  by_moments : (at most : ℕ) (events : List Event) (left : ℕ) → ((t k : ℕ) (history : List Link) (state : ProxyState)
      → StandsAt server start at most events t history state → most + 1 ≡ t + k
      → all_left state.requests + 1 ≤ left → HasPassed server start at most events)
      → (k t : ℕ) (history : List Link) (state : ProxyState) → StandsAt server start at most events t history state → most + 1 ≡ t + k → all_left state.requests ≤ left
      → HasPassed server start at most events
  by_moments at most events left fewer zero t history state h e few = passed at most events t history state h (omega (arith, e))
  by_moments at most events left fewer (suc k) t history state h e few =
      by_counts at most events left t k (omega (arith, e)) (λ later_history new stands less. fewer t (k + 1) later_history new stands (omega (arith, e)) less)
      (λ later_history new stands less. by_moments at most events left fewer k (t + 1) later_history new stands (omega (arith, e)) less) (all_by t state.requests) history
      state h few (omega arith)

  -- from deadline to deadline
  by_deadlines : (at most : ℕ) (events : List Event) (left : ℕ) → CanPass at most events left
  by_deadlines at most events zero t k history state h e few = by_moments at most events 0 (λ later k history state stands same less. absurd (omega (arith, less))) k t
      history state h e few
  by_deadlines at most events (suc left) t k history state h e few =
      by_moments at most events (suc left) (λ later k history state stands same less.
      by_deadlines at most events left later k history state stands same (omega (arith, less))) k t history state h e few

  -- ---- events

  -- behind a history time passes up to the moment of an event
  pass_to : (at : ℕ) (events : List Event) → (h : HasTaken server start events) → HasPassed server start at (max h.state.moment at) events
  pass_to at events h =
      let state : ProxyState = h.state in
      let whole = joined_chain server (first_state first) start state base h.history before h.chain in
      let stands : StandsAt server start at (max state.moment at) events state.moment h.history state = record {
        chain = h.chain;
        paced = h.paced (Some at);
        configured = h.configured;
        of_events = h.of_events;
        up_to = refl;
        low = omega arith;
        due = each_due state.moment state.requests (chain_passes_none server first (h.history ++ base) state whole);
        again = chain_again server first (h.history ++ base) state whole;
      } in
      by_deadlines at (max state.moment at) events (all_left state.requests) state.moment (max state.moment at + 1 - state.moment) h.history state stands (omega arith)
      (omega arith)

  -- then the event has its step
  take_event : (event : Event) (events : List Event) → HasTaken server start events → HasTaken server start (event ∷ events)
  take_event event events h =
      let at : ℕ = event_moment event in
      let passed = pass_to at events h in
      let step = steps_to server event passed.state (subst (λ (m : ℕ). NoneBy m passed.state.requests) (sym passed.up_to) passed.none_due)
      (subst (λ (m : ℕ). NoneAgainBy m passed.state.requests) (sym passed.up_to) passed.none_again) in
      record {
        history = stepped (Given event) passed.state step.out step.new passed.history;
        state = step.new;
        chain = (refl, step.is_step, passed.chain);
        paced = λ next. (tt, passed.paced);
        configured = (refl, passed.configured);
        of_events = ap (λ (es : List Event). event ∷ es) passed.of_events;
      }

  -- one event after the other
  take_all : (more events : List Event) → HasTaken server start events → HasTaken server start (reverse more ++ events)
  take_all [] events h = h
  take_all (event ∷ more) events h =
      let behind : reverse (event ∷ more) ++ events ≡ reverse more ++ (event ∷ events) = ap (λ (es : List Event). es ++ events) (reverse-append (event ∷ []) more)
      ∙ append_assoc (reverse more) (event ∷ []) events in
      subst (HasTaken server start) (sym behind) (take_all more (event ∷ events) (take_event event events h))

  -- so each list of events has a run that goes on from there
  pub goes_on : (events : List Event) (until : Option ℕ) → HasRun server start events until
  goes_on events until =
      let none : HasTaken server start [] = record { history = []; state = start; chain = refl; paced = λ next. tt; configured = tt; of_events = refl } in
      let h = take_all events [] none in
      record {
        steps = reverse (steps_of h.history);
        history = h.history;
        last = h.state;
        is_run = record {
          chain = h.chain;
          paced = h.paced until;
          of_events = ap reverse (h.of_events ∙ append-nil (reverse events)) ∙ reverse-reverse events;
          of_steps = refl;
          configured = h.configured;
        };
      }
