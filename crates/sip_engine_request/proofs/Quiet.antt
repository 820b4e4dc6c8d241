-- The end of a transaction with which nothing is sent.
use Rattle.std.proofs.Common.{◌≡◌, ◌∙◌, ℕ, ◌≤◌, List, [], Bool, true, false, cond, Option, Some, None, Ok, slice_get, refl, sym, ap, subst, arith}
use Rattle.std.specs.Prelude.{◌&&◌}
use Rattle.sip_proxy.specs.Expiring.{expiring}
use Rattle.sip_proxy.specs.declared.drafting.EventDraft.{EventDraft}
use Rattle.sip_proxy.specs.fork.Ending.{IsDeadlineOf, ended, left_invite}
use Rattle.sip_proxy.specs.fork.Keeping.{IsKeptAs, IsOf}
use Rattle.sip_proxy.specs.fork.context.Inputs.{Outcome, changing}
use Rattle.sip_proxy.specs.fork.Quiet.{alone}
use Rattle.sip_proxy.specs.fork.declared.first_due.Due.{Due}
use Rattle.sip_proxy.specs.fork.transaction_table.declared.transaction.Transaction.{Transaction}
use Rattle.sip_proxy.specs.forwarding.Forwarding.{IsDraft}
use Rattle.sip_hops.specs.declared.host_address.HostAddress.{HostAddress}
use Rattle.sip_proxy.specs.context.declared.input.Input.{Input}
use Rattle.sip_dialog.specs.declared.dialog.Dialog.{Dialog}
use Rattle.sip_dialog_updates.specs.DialogUpdates.{after_updates, beginnings}
use Rattle.sip_dialog.specs.Dialogs.{after_invite}
use Rattle.sip_proxy.specs.steps_model.Effect.{dialogs_after, replaced}
use Rattle.sip_dialog_updates.specs.state.State.{has_left, is_invite}
use Rattle.sip_dialog_updates.specs.state.declared.open_request.OpenRequest.{OpenRequest}
use Rattle.sip_dialog_updates.specs.state.declared.server.Server.{Server}
use Rattle.sip_dialog_updates.specs.state.declared.proxy_state.ProxyState.{ProxyState}
use Rattle.sip_event.specs.declared.event.StepOut.{StepOut}
use Rattle.sip_proxy.specs.fork.Due.{IsFirst, IsOfFirst}
use Rattle.sip_proxy.specs.fork.declared.first_due.FirstDue.{FirstDue}
use Rattle.sip_timers.specs.declared.timer.Timer.{Timer}
use Rattle.sip_engine_request.specs.TimeSteps.{IsDueAs, IsFired, IsQuietEnd, Leaves}
use Rattle.sip_engine_request.specs.Timers.{IsFiredFirst}
use Rattle.sip_engine_request.proofs.Drafts.{about, read_twice}
use Rattle.sip_engine_request.proofs.Lists.{at_place}
use Rattle.sip_engine_request.proofs.Results.{first_done}

-- ---- a request at its place

pub kept_there : (requests : List OpenRequest) (place moment due : ℕ) (t : Transaction) (x : OpenRequest) (input : Input) → slice_get requests place ≡ Some x
    → IsDueAs x due input → IsDeadlineOf x t input → moment ≤ due
    → ((r : OpenRequest) → slice_get requests place ≡ Some r → (server : Server) (now : ℕ) (input : Input) → moment ≤ now → IsOf r now input → IsDeadlineOf r t input
    → IsKeptAs now r (ended t r))
    → (server : Server) (r : OpenRequest) → slice_get requests place ≡ Some r → IsKeptAs due r (ended t r)
kept_there requests place moment due t x input here is_due is later kept server r at =
    subst (λ (v : OpenRequest). IsKeptAs due v (ended t v)) (read_twice requests place x r here at) (kept x here server due input later (about x due input is_due) is)

-- ---- as a draft

-- a request that becomes this one, and nothing is sent
abbrev pub quiet_draft : OpenRequest → EventDraft
quiet_draft next = record { change = next; drafted = record { packets = []; updates = expiring (left_invite next) } }

taught : (server : Server) (now : ℕ) (next : OpenRequest) (dialogs : List Dialog) → after_updates now (expiring (left_invite next)) dialogs
    ≡ dialogs_after server now (alone next) dialogs
taught server now next dialogs = by_test (is_invite next && has_left next) where
  by_test : (t : Bool) → after_updates now (expiring (cond t (Some next.number) None)) dialogs ≡ cond t (after_invite now next.number dialogs) dialogs
  by_test true = refl
  by_test false = refl

few_taught : (o : Option ℕ) → beginnings (expiring o) ≤ 1
few_taught None = omega arith
few_taught (Some number) = omega arith

quiet_drafted : (rows : List HostAddress) (server : Server) (now : ℕ) (next : OpenRequest) → IsDraft rows server now (changing (alone next) []) (quiet_draft next).drafted
quiet_drafted rows server now next = record {
  sent = record { originals = refl; again = refl };
  updates = λ addresses dialogs. taught server now next dialogs;
  few = few_taught (left_invite next);
}

pub quiet_fired : (rows : List HostAddress) (server : Server) (due : ℕ) (what : Due) (r next : OpenRequest) → IsQuietEnd due what r next → IsKeptAs due r next
    → IsFired rows server due what r (quiet_draft next)
quiet_fired rows server due what r next h kept = record {
  input = h.input;
  is_due = h.is_due;
  is_part = h.is_part;
  is_last = h.is_last;
  drafted = record {
    request = sym (ap (λ (o : Outcome). o.request) (h.outcome server));
    kept = kept;
    drafted = subst (λ (o : Outcome). IsDraft rows server due o (quiet_draft next).drafted) (sym (h.outcome server)) (quiet_drafted rows server due next);
  };
}

-- ---- the step

module _ (server : Server) (old new : ProxyState) (timers : List Timer) (first : FirstDue) (t : Transaction) (out : StepOut) where
  -- what is left where the transaction ended
  abbrev pub LeavesEnded : Type 0
  LeavesEnded = (r : OpenRequest) → slice_get old.requests first.place ≡ Some r → Leaves first.due [] (replaced (ended t r) old.requests)
      (expiring (left_invite (ended t r))) old out new

  pub quiet_done : (rows : List HostAddress) → rows ≡ server.config.addresses → IsFirst old.requests first → IsOfFirst timers old.requests first
      → ((r : OpenRequest) → slice_get old.requests first.place ≡ Some r → IsQuietEnd first.due first.what r (ended t r))
      → ((s : Server) (r : OpenRequest) → slice_get old.requests first.place ≡ Some r → IsKeptAs first.due r (ended t r))
      → LeavesEnded → (now : ℕ) → first.due ≤ now → IsFiredFirst server timers old now out new
  quiet_done rows known f of quiet kept leaves =
      let found : (r : OpenRequest) × (slice_get old.requests first.place ≡ Some r) = at_place old.requests first.place f.within in
      let draft : EventDraft = quiet_draft (ended t found.0) in
      let fired : IsFired rows server first.due first.what found.0 draft = quiet_fired rows server first.due first.what found.0 (ended t found.0) (quiet found.0 found.1)
      (kept server found.0 found.1) in
      first_done server old new timers rows first draft (Ok out) known f of (λ x there.
      subst (λ (v : OpenRequest). IsFired rows server first.due first.what v draft) (read_twice old.requests first.place found.0 x found.1 there) fired)
      (leaves found.0 found.1)

  pub quiet_at : IsFirst old.requests first → LeavesEnded → out.at ≡ first.due
  quiet_at f leaves = let found = at_place old.requests first.place f.within in (leaves found.0 found.1).at_moment

  pub quiet_at_moment : IsFirst old.requests first → LeavesEnded → out.at ≡ new.moment
  quiet_at_moment f leaves = let found = at_place old.requests first.place f.within in (leaves found.0 found.1).at_moment ∙ sym (leaves found.0 found.1).becomes.moment_is

  pub quiet_next : IsFirst old.requests first → LeavesEnded → new.next ≡ old.next
  quiet_next f leaves = let found = at_place old.requests first.place f.within in (leaves found.0 found.1).becomes.next_is
