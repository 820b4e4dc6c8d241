-- The first timer fires, and the others keep their places: the same said of timers without their keys.
use Rattle.std.proofs.Common.{◌≡◌, ℕ, ◌⊎◌, inl, inr, ◌==◌, Bool, true, false, cond, List, Result, Ok, Err, IfOk, OnOk, sym, ap, arith}
use Rattle.std.proofs.lemmas.Bool.Decides.{nat_tests}
use Rattle.sip_event.specs.declared.event.StepOut.{StepOut}
use Rattle.sip_event.specs.declared.packet.Packet.{Packet}
use Rattle.sip_timers.specs.declared.timer.Owner.{Owner}
use Rattle.sip_timers.specs.declared.timer.Owner.TheVariants as Of
use Rattle.sip_timers.specs.declared.timer.Timer.{Timer}
use Rattle.sip_model.specs.context_model.Branches.{Change}
use Rattle.sip_model.specs.context_model.Retransmission.{IsResent, OfAnswer, OfRequest}
use Rattle.sip_model.specs.state.declared.open_request.OpenRequest.{OpenRequest}
use Rattle.sip_model.specs.state.declared.proxy_state.ProxyState.{ProxyState}
use Rattle.sip_model.specs.state.declared.server.Server.{Server}
use Rattle.sip_model.specs.steps_model.Step.{IsDeadline, IsOverdue, IsResend, OfSide, OfBranch}
use Rattle.sip_engine_request.specs.fork.Due.{is_part}
use Rattle.sip_engine_request.specs.fork.request.Queued.{entries}
use Rattle.sip_engine_request.specs.fork.Firing.{KeepsOrder}
use Rattle.sip_engine_request.specs.fork.request.transactions_model.Queue.{entries_of, entry_of, queue_after}
use Rattle.sip_engine_request.specs.Timers as Fired
use Rattle.sip_engine.specs.declared.error.StepError.{StepError}
use Rattle.sip_model.specs.TimerOrder as Order

equal : (n m : ℕ) → (n == m) ≡ true → n ≡ m
equal n m e = grind (arith, nat_tests)

-- an owner is that of a branch, or of its CANCEL
by_kind : (owner : Owner) (t : Bool) (n : ℕ) → is_part owner t n ≡ true → owner ≡ cond t (Of.Cancel n) (Of.Branch n)
by_kind Of.Server t n e = absurd (cc)
by_kind (Of.Branch m) true n e = absurd (cc)
by_kind (Of.Branch m) false n e = ap (λ (k : ℕ). Of.Branch k) (sym (equal n m e))
by_kind (Of.Cancel m) true n e = ap (λ (k : ℕ). Of.Cancel k) (sym (equal n m e))
by_kind (Of.Cancel m) false n e = absurd (cc)

overdue_of : (server : Server) (due : ℕ) (r : OpenRequest) (change : Change) (owner : Owner) (passes : IsOverdue server due r change) → Fired.IsOverdueOf owner passes
    → Order.IsOverdueOf owner passes
overdue_of server due r change owner (OfSide is) of = of
overdue_of server due r change owner (OfBranch b there is) of = (by_kind owner b.is_cancel b.number of.0, of.1)

resent_of : (server : Server) (due : ℕ) (r next : OpenRequest) (packets : List Packet) (owner : Owner) (goes : IsResent server due r packets next)
    → Fired.IsResentOf owner goes → Order.IsResentOf owner goes
resent_of server due r next packets owner (OfAnswer is) of = of
resent_of server due r next packets owner (OfRequest b there is) of = by_kind owner b.is_cancel b.number of

module _ (server : Server) (old new : ProxyState) (at : ℕ) (out : StepOut) where
  of_entry : (timer : Timer) (happens : IsDeadline server old at out new ⊎ IsResend server old at out new) → Fired.IsOfTimer timer happens
      → Order.IsOfEntry (entry_of timer) happens
  of_entry timer (inl passed) its = (its.0, overdue_of server out.at passed.request passed.change timer.name.owner passed.passes its.1)
  of_entry timer (inr gone) its = (its.0, resent_of server out.at gone.request gone.next gone.packets timer.name.owner gone.goes its.1)

  first_of : (timers : List Timer) → Fired.IsFiredFirst server timers old at out new → Order.IsFirstOf server (entries timers) old at out new
  first_of timers h = record {
    entry = entry_of h.timer;
    later = entries h.later;
    stands = ap (λ (ts : List Timer). entries ts) h.stands;
    at_due = h.at_due;
    happens = h.happens;
    is_its = of_entry h.timer h.happens h.is_its;
  }

pub first_if : (server : Server) (old new : ProxyState) (at : ℕ) (timers : List Timer) (result : Result StepOut StepError)
    → IfOk result (λ out. Fired.IsFiredFirst server timers old at out new)
    → IfOk result (λ out. Order.IsFirstOf server (entries timers) old at out new)
first_if server old new at timers (Ok out) h = first_of server old new at out timers h
first_if server old new at timers (Err e) h = tt

-- what keeps its place, and what comes behind, as an equation
pub queued_if : (old new : List Timer) (requests : List OpenRequest) (result : Result StepOut StepError) → OnOk result (KeepsOrder old new requests)
    → OnOk result (entries new ≡ queue_after (entries old) (entries_of requests))
queued_if old new requests (Ok out) h = h.queue
queued_if old new requests (Err e) h = tt
