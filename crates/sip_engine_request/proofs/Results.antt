-- What a step gives that may be refused.
use Rattle.std.proofs.Common.{◌≡◌, ◌∙◌, ℕ, ◌≤◌, ◌⊎◌, inr, List, slice_get, Result, Some, Ok, Err, IfOk, sym, subst, arith}
use Rattle.std.specs.declared.alloc.AllocError.{AllocError}
use Rattle.sip_event.specs.declared.event.StepOut.{StepOut}
use Rattle.sip_event.specs.declared.packet.Packet.{Packet}
use Rattle.sip_proxy.specs.declared.drafting.EventDraft.{EventDraft}
use Rattle.sip_proxy.specs.fork.Due.{GoesAgainBefore, IsFirst, IsOfFirst}
use Rattle.sip_proxy.specs.fork.declared.first_due.FirstDue.{FirstDue}
use Rattle.sip_hops.specs.declared.host_address.HostAddress.{HostAddress}
use Rattle.sip_dialog_updates.specs.declared.dialog_update.DialogUpdate.{DialogUpdate}
use Rattle.sip_proxy.specs.steps_model.Effect.{replaced}
use Rattle.sip_proxy.specs.steps_model.Step.{IsDeadline, IsQuiet, IsResend, moment_of}
use Rattle.sip_dialog_updates.specs.state.declared.open_request.OpenRequest.{OpenRequest}
use Rattle.sip_dialog_updates.specs.state.declared.proxy_state.ProxyState.{ProxyState}
use Rattle.sip_dialog_updates.specs.state.declared.server.Server.{Server}
use Rattle.sip_timers.specs.declared.timer.Timer.{Timer}
use Rattle.sip_engine_request.specs.TimeSteps.{IsFired, Leaves}
use Rattle.sip_engine_request.specs.Timers.{IsFiredFirst}
use Rattle.sip_engine_request.proofs.Lists.{at_place, contained}
use Rattle.sip_engine_request.proofs.Steps.{IsDone, fired_done}

-- a step at a moment is no earlier than what that moment is no earlier than
pub no_earlier_than : (moment due : ℕ) (result : Result StepOut AllocError) → moment ≤ due → IfOk result (λ out. out.at ≡ due) → IfOk result (λ out. moment ≤ out.at)
no_earlier_than moment due (Ok out) le at = subst (λ (n : ℕ). moment ≤ n) (sym at) le
no_earlier_than moment due (Err e) le at = tt

module _ (now : ℕ) (packets : List Packet) (requests : List OpenRequest) (updates : List DialogUpdate) (old new : ProxyState) where
  -- a step that leaves this, if it is taken
  abbrev pub IfLeft : Result StepOut AllocError → Type 0
  IfLeft result = IfOk result (λ out. Leaves now packets requests updates old out new)

  pub left_at : (result : Result StepOut AllocError) → IfLeft result → IfOk result (λ out. out.at ≡ now)
  left_at (Ok out) l = l.at_moment
  left_at (Err e) l = tt

  pub left_at_moment : (result : Result StepOut AllocError) → IfLeft result → IfOk result (λ out. out.at ≡ new.moment)
  left_at_moment (Ok out) l = l.at_moment ∙ sym l.becomes.moment_is
  left_at_moment (Err e) l = tt

  pub left_moment : (result : Result StepOut AllocError) → IfLeft result → IfOk result (λ out. new.moment ≡ now)
  left_moment (Ok out) l = l.becomes.moment_is
  left_moment (Err e) l = tt

  pub left_next : (result : Result StepOut AllocError) → IfLeft result → IfOk result (λ out. new.next ≡ old.next)
  left_next (Ok out) l = l.becomes.next_is
  left_next (Err e) l = tt

module _ (server : Server) (old new : ProxyState) (timers : List Timer) where
  -- what was done of what is due first is what its timer is set for
  fires_first : (at : ℕ) (out : StepOut) (first : FirstDue) → IsOfFirst timers old.requests first → out.at ≡ first.due → (r : OpenRequest)
      → slice_get old.requests first.place ≡ Some r
      → IsDone server old at out new r first.what → IsFiredFirst server timers old at out new
  fires_first at out first of stands r there done = record {
    timer = of.timer;
    later = of.later;
    stands = of.stands;
    at_due = stands ∙ of.due;
    happens = done.0;
    is_its = done.1 of.timer (of.request r there) (of.part r there) (subst (λ (n : ℕ). GoesAgainBefore r n first.what) (sym stands) (of.again r there));
  }

  pub first_done : (rows : List HostAddress) (first : FirstDue) (draft : EventDraft) (result : Result StepOut AllocError) → rows ≡ server.config.addresses
      → IsFirst old.requests first
      → IsOfFirst timers old.requests first → ((r : OpenRequest) → slice_get old.requests first.place ≡ Some r → IsFired rows server first.due first.what r draft)
      → IfLeft first.due draft.drafted.packets (replaced draft.change old.requests) draft.drafted.updates old new result
      → IfOk result (λ out. (now : ℕ) → first.due ≤ now → IsFiredFirst server timers old now out new)
  first_done rows first draft (Ok out) known f of fired l = λ now le.
      let found : (r : OpenRequest) × (slice_get old.requests first.place ≡ Some r) = at_place old.requests first.place f.within in
      let by : first.due ≤ moment_of old now = omega (arith, le) in
      fires_first now out first of l.at_moment found.0 found.1
      (fired_done server now old out new rows known first.what found.0 draft first.due (fired found.0 found.1) l (contained old.requests first.place found.0 found.1) by
      f.none_before f.none_again)
  first_done rows first draft (Err e) known f of fired l = tt

  -- what is due by a moment is a step up to it
  pub first_step : (due now : ℕ) (result : Result StepOut AllocError) → due ≤ now → IfOk result (λ out. (at : ℕ) → due ≤ at → IsFiredFirst server timers old at out new)
      → IfOk result (λ out. IsQuiet server old now out new ⊎ (IsDeadline server old now out new ⊎ IsResend server old now out new))
  first_step due now (Ok out) le done = inr (done now le).happens
  first_step due now (Err e) le done = tt

  -- and is done
  pub first_happens : (due now : ℕ) (result : Result StepOut AllocError) → due ≤ now →
      IfOk result (λ out. (at : ℕ) → due ≤ at → IsFiredFirst server timers old at out new)
      → IfOk result (λ out. IsDeadline server old now out new ⊎ IsResend server old now out new)
  first_happens due now (Ok out) le done = (done now le).happens
  first_happens due now (Err e) le done = tt

  pub first_in_order : (due now : ℕ) (result : Result StepOut AllocError) → due ≤ now
      → IfOk result (λ out. (at : ℕ) → due ≤ at → IsFiredFirst server timers old at out new)
      → IfOk result (λ out. IsFiredFirst server timers old now out new)
  first_in_order due now (Ok out) le done = done now le
  first_in_order due now (Err e) le done = tt
