-- A step leads on from a state that steps lead to, and is one for a moment that goes back.
use Rattle.std.proofs.Common.{◌≡◌, ◌∙◌, ◌≤◌, ◌⊎◌, inl, inr, ℕ, ◌↔◌, List, ◌∷◌, Option, Some, None, Result, Ok, Err, IfOk, OnErr, refl, sym, ap, subst}
use Rattle.std.proofs.Math.Nat.{le-max_left, max-eq_right}
use Rattle.sip_config_types.specs.declared.config.Config.{Config}
use Rattle.sip_event.specs.declared.event.StepOut.{StepOut}
use Rattle.sip_uri.specs.declared.addr.Addr.{Addr}
use Rattle.sip_model.specs.steps_model.Effect.{datagram_effect}
use Rattle.sip_model.specs.steps_model.Step.{Act, Does, Passing, IsDeadline, IsDelivery, IsQuiet, IsResend, IsStep, NoneAgainBy, NoneBy, arrival_of, moment_of}
use Rattle.sip_model.specs.Run.{Link, IsChain, under}
use Rattle.sip_verdict.specs.state.State.{first_state}
use Rattle.sip_verdict.specs.state.declared.proxy_state.ProxyState.{ProxyState}
use Rattle.sip_verdict.specs.state.declared.server.Server.{Server}
use Rattle.sip_timers.specs.declared.timer.Timer.{Timer}
use Rattle.sip_engine_request.specs.Timers.{IsFiredFirst, IsOfTimer}
use Rattle.sip_engine.specs.Engine.{IsReached}
use Rattle.sip_engine.specs.declared.error.StepError.{StepError}

-- ---- histories

pub led_on : (server : Server) (old new : ProxyState) (act : Act) (out : StepOut) → IsReached server old → IsStep server old act out new → IsReached server new
led_on server old new act out h step =
    record {
      first = h.first;
      history = (record { config = server.config; before = old; act = act; out = out; after = new }) ∷ h.history;
      chain = (refl, step, h.chain);
    }

-- what is no Some is None
pub none_left : {A : Type 0} (o : Option A) → ((x : A) → o ≡ Some x → ⊥) → o ≡ None
none_left None none = refl
none_left (Some x) none = absurd (none x refl)

-- A server that has a state is the same server under another configuration of the same frame: steps lead to that state, too.
pub reached_under : ((server : Server) (config : Config) (first : ProxyState) (history : List Link) (last : ProxyState)
    → (IsChain server first history last ↔ IsChain (under server config) first history last))
    → (server other : Server) (config : Config) (state : ProxyState) → record config { own = server.config.own; realm = server.config.realm } ≡ config
    → other ≡ record { config = config; word = server.word }
    → IsReached server state → IsReached other state
reached_under law server other config state same is h =
    subst (λ (s : Server). IsReached s state) (ap (λ (k : Config). record { config = k; word = server.word }) same ∙ sym is)
    (record { first = h.first; history = h.history; chain = (law server config (first_state h.first) h.history state).0 h.chain })

pub stayed : (server : Server) (old new : ProxyState) → IsReached server old → new ≡ old → IsReached server new
stayed server old new h same = subst (λ (s : ProxyState). IsReached server s) (sym same) h

-- ---- moments

pub moment_again : (state : ProxyState) (at : ℕ) → moment_of state (moment_of state at) ≡ moment_of state at
moment_again state at = max-eq_right (le-max_left state.moment at)

quiet_for : (server : Server) (old new : ProxyState) (at : ℕ) (out : StepOut) → IsQuiet server old (moment_of old at) out new → IsQuiet server old at out new
quiet_for server old new at out quiet =
    record {
      no_earlier = quiet.no_earlier;
      no_later = subst (λ (n : ℕ). out.at ≤ n) (moment_again old at) quiet.no_later;
      none_passed = quiet.none_passed;
      none_again_passed = quiet.none_again_passed;
      does = quiet.does;
    }

-- so is a deadline that passes
abbrev deadline_for : (server : Server) (old new : ProxyState) (at : ℕ) (out : StepOut) → IsDeadline server old (moment_of old at) out new
    → IsDeadline server old at out new
deadline_for server old new at out due = record {
  request = due.request;
  change = due.change;
  is_open = due.is_open;
  passes = due.passes;
  is_due = subst (λ (n : ℕ). out.at ≤ n) (moment_again old at) due.is_due;
  is_first = due.is_first;
  none_again = due.none_again;
  does = due.does;
}

-- and something that goes again
abbrev resend_for : (server : Server) (old new : ProxyState) (at : ℕ) (out : StepOut) → IsResend server old (moment_of old at) out new → IsResend server old at out new
resend_for server old new at out goes = record {
  request = goes.request;
  packets = goes.packets;
  next = goes.next;
  is_open = goes.is_open;
  goes = goes.goes;
  is_due = subst (λ (n : ℕ). out.at ≤ n) (moment_again old at) goes.is_due;
  is_first = goes.is_first;
  none_again = goes.none_again;
  does = goes.does;
}

-- a step of time up to a moment that counts as the last one is one up to the moment that was given
pub passes_for : (server : Server) (old new : ProxyState) (at : ℕ) (out : StepOut) → IsStep server old (Passing (moment_of old at)) out new
    → IsStep server old (Passing at) out new
passes_for server old new at out (inl quiet) = inl (quiet_for server old new at out quiet)
passes_for server old new at out (inr (inl due)) = inr (inl (deadline_for server old new at out due))
passes_for server old new at out (inr (inr goes)) = inr (inr (resend_for server old new at out goes))

-- so is one of what is due
pub happens_for : (server : Server) (old new : ProxyState) (at : ℕ) (out : StepOut) → IsDeadline server old (moment_of old at) out new
    ⊎ IsResend server old (moment_of old at) out new
    → IsDeadline server old at out new ⊎ IsResend server old at out new
happens_for server old new at out (inl due) = inl (deadline_for server old new at out due)
happens_for server old new at out (inr goes) = inr (resend_for server old new at out goes)

-- and of the same timer
fired_for : (server : Server) (old new : ProxyState) (at : ℕ) (out : StepOut) (timers later : List Timer) (timer : Timer) → timers ≡ timer ∷ later → out.at ≡ timer.due
    → (happens : IsDeadline server old (moment_of old at) out new ⊎ IsResend server old (moment_of old at) out new) → IsOfTimer timer happens
    → IsFiredFirst server timers old at out new
fired_for server old new at out timers later timer stands due (inl d) its = record {
  timer = timer;
  later = later;
  stands = stands;
  at_due = due;
  happens = inl (deadline_for server old new at out d);
  is_its = its;
}
fired_for server old new at out timers later timer stands due (inr g) its = record {
  timer = timer;
  later = later;
  stands = stands;
  at_due = due;
  happens = inr (resend_for server old new at out g);
  is_its = its;
}

pub first_for : (server : Server) (old new : ProxyState) (at : ℕ) (out : StepOut) (timers : List Timer) → IsFiredFirst server timers old (moment_of old at) out new
    → IsFiredFirst server timers old at out new
first_for server old new at out timers h = fired_for server old new at out timers h.later h.timer h.stands h.at_due h.happens h.is_its

pub delivered : (server : Server) (old new : ProxyState) (at word : ℕ) (from : Addr) (bytes : List ℕ) (out : StepOut)
    → NoneBy (moment_of old at) old.requests → NoneAgainBy (moment_of old at) old.requests
    → Does server old (moment_of old at) (datagram_effect server old (arrival_of old at word from) bytes) out new → IsDelivery server old at word from bytes out new
delivered server old new at word from bytes out due again does = record { none_due = due; none_again = again; does = does }

-- ---- what a call gives

module _ (server : Server) (old new : ProxyState) where
  pub led_by : (act : Act) (result : Result StepOut StepError) → IsReached server old → IfOk result (λ out. IsStep server old act out new) → OnErr result (new ≡ old)
      → IsReached server new
  led_by act (Ok out) h step same = led_on server old new act out h step
  led_by act (Err e) h step same = stayed server old new h same
