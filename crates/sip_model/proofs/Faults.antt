-- A fault that comes once nothing is due leaves nothing due.
use Rattle.std.proofs.Common.{◌≡◌, ℕ, ◌+◌, ◌==◌, Bool, List, [], ◌∷◌, filter_map, find, option_to_list, Option, Some, None, refl, sym, ◌∙◌, subst, arith}
use Rattle.std.specs.List.{AllByRecursion}
use Rattle.sip_event.specs.declared.packet.Ticket.{Ticket}
use Rattle.sip_event.specs.declared.event.StepOut.{StepOut}
use Rattle.model_steps.specs.state.declared.server.Server.{Server}
use Rattle.model_steps.specs.state.declared.branch.Branch.{Branch}
use Rattle.model_steps.specs.state.declared.open_request.OpenRequest.{OpenRequest}
use Rattle.model_steps.specs.state.declared.proxy_state.ProxyState.{ProxyState}
use Rattle.model_steps.specs.state.SameState.{SameState}
use Rattle.model_steps.specs.state.State.{deadlines, first_state, is_invite}
use Rattle.model_steps.specs.context_model.Branches.{send_failed}
use Rattle.model_steps.specs.context_model.Retransmission.{answer_due, resends, resends_of}
use Rattle.model_steps.specs.Effect.{Effect}
use Rattle.model_steps.specs.Step.{IsFault, NoneBy, NoneAgainBy, failed_branch, failed_request, fault_effect, is_failed, moment_of}
use Rattle.sip_model.specs.Run.{Link, IsChain}
use Rattle.sip_model.specs.Order.{IsChangeOf, ByFault}
use Rattle.sip_model.proofs.Places.{IsIn, all_in, all_replaced, contains_from_in, found_in}
use Rattle.sip_model.proofs.Resending.{IsAgain, IsBranchAgain, again_at}
use Rattle.sip_model.proofs.Events.{IsDue, change_event}
use Rattle.sip_model.proofs.Settling.{event_again, event_due}
use Rattle.sip_model.proofs.Deadlines.{IsFrom, all_due, all_later, due_from_list, each_due, first_due, later_all, parts_of_append}
use Rattle.sip_model.proofs.Again.{all_again, chain_again}

-- ---- what goes again, request by request

branches_from_list : (floor low : ℕ) (invite : Bool) (bs : List Branch) → AllByRecursion (IsBranchAgain low invite) bs
    → AllByRecursion (IsFrom floor) (filter_map (again_at invite) bs) → AllByRecursion (IsBranchAgain floor invite) bs
branches_from_list floor low invite [] waits all = tt
branches_from_list floor low invite (b ∷ bs) waits all =
    let parts = first_due floor (again_at invite b) (filter_map (again_at invite) bs) all in
    (record { due_from = parts.0; waits = waits.0.waits }, branches_from_list floor low invite bs waits.1 parts.1)

again_from_all : (floor low : ℕ) (r : OpenRequest) → IsAgain low r → AllByRecursion (IsFrom floor) (resends_of r) → IsAgain floor r
again_from_all floor low r waits all =
    let parts = parts_of_append (IsFrom floor) (option_to_list (answer_due r)) (filter_map (again_at (is_invite r)) r.branches) all in
    record {
      answer_from = due_from_list floor (answer_due r) parts.0;
      answer_waits = waits.answer_waits;
      branches_again = branches_from_list floor low (is_invite r) r.branches waits.branches_again parts.1;
    }

each_again : (floor low : ℕ) (requests : List OpenRequest) → AllByRecursion (IsAgain low) requests → AllByRecursion (IsFrom floor) (resends requests)
    → AllByRecursion (IsAgain floor) requests
each_again floor low [] waits all = tt
each_again floor low (r ∷ rs) waits all =
    let parts = parts_of_append (IsFrom floor) (resends_of r) (resends rs) all in
    (again_from_all floor low r waits.0 parts.0, each_again floor low rs waits.1 parts.1)

-- ---- the fault

module _ (server : Server) (now : ℕ) (ticket : Ticket) (s : ProxyState) (P : OpenRequest → Type 0)
    (keeps : (r : OpenRequest) (b : Branch) → IsIn r s.requests → IsChangeOf server now r (send_failed server now r b) → P r
    → P (send_failed server now r b).request) where
  by_branch : (r : OpenRequest) → IsIn r s.requests → AllByRecursion P s.requests → (o : Option Branch) → find (is_failed ticket.branch) r.branches ≡ o
      → AllByRecursion P (failed_branch server now s r o).state.requests
  by_branch r there all None e = all
  by_branch r there all (Some b) e =
      let found = found_in (is_failed ticket.branch) r.branches b e in
      all_replaced P (send_failed server now r b).request s.requests all
      (λ stays. keeps r b there (ByFault b ticket.branch (contains_from_in r.branches b found.0) found.1) (all_in P s.requests r all there))

  by_request : AllByRecursion P s.requests → (o : Option OpenRequest) → find (λ (r : OpenRequest). r.number == ticket.datagram) s.requests ≡ o
      → AllByRecursion P (failed_request server now ticket s o).state.requests
  by_request all None e = all
  by_request all (Some r) e = by_branch r (found_in (λ (x : OpenRequest). x.number == ticket.datagram) s.requests r e).0 all (find (is_failed ticket.branch) r.branches)
      refl

  -- what holds of each open request, and stays so where a send failed, holds of each behind the fault
  pub after_fault : AllByRecursion P s.requests → AllByRecursion P (fault_effect server now ticket s).state.requests
  after_fault all = by_request all (find (λ (r : OpenRequest). r.number == ticket.datagram) s.requests) refl

module _ (server : Server) (now : ℕ) (ticket : Ticket) (s : ProxyState) where
  at_branch : (r : OpenRequest) (o : Option Branch) → s.moment ≡ now → (failed_branch server now s r o).state.moment ≡ now
  at_branch r None e = e
  at_branch r (Some b) e = refl

  at_request : (o : Option OpenRequest) → s.moment ≡ now → (failed_request server now ticket s o).state.moment ≡ now
  at_request None e = e
  at_request (Some r) e = at_branch r (find (is_failed ticket.branch) r.branches) e

-- nothing is due behind it
pub fault_leaves : (server : Server) (first : ℕ) (history : List Link) (old new : ProxyState) (at : ℕ) (ticket : Ticket) (out : StepOut)
    → IsChain server (first_state first) history old → IsFault server old at ticket out new
    → NoneBy (moment_of old at) old.requests → NoneAgainBy (moment_of old at) old.requests → NoneBy new.moment new.requests × NoneAgainBy new.moment new.requests
fault_leaves server first history old new at ticket out chain fault none none_again =
    let now : ℕ = moment_of old at in
    let s : ProxyState = record old { moment = now } in
    let effect : Effect = fault_effect server now ticket s in
    let leaves : SameState new effect.state = fault.does.leaves in
    let moment : effect.state.moment ≡ now = at_request server now ticket s (find (λ (r : OpenRequest). r.number == ticket.datagram) s.requests) refl in
    let due : AllByRecursion (IsDue (now + 1)) effect.state.requests =
    after_fault server now ticket s (IsDue (now + 1)) (λ r b there is h. event_due server (now + 1) now r (send_failed server now r b)
    (change_event server now r (send_failed server now r b) is) (omega arith) h)
    (each_due (now + 1) old.requests (later_all now (deadlines old.requests) none)) in
    let again : AllByRecursion (IsAgain (now + 1)) effect.state.requests =
    after_fault server now ticket s (IsAgain (now + 1)) (λ r b there is h. event_again server (now + 1) now r (send_failed server now r b)
    (change_event server now r (send_failed server now r b) is) (omega arith) h)
    (each_again (now + 1) old.moment old.requests (chain_again server first history old chain) (later_all now (resends old.requests) none_again)) in
    let is_at : now ≡ new.moment = sym moment ∙ sym leaves.moment in (
      subst (λ (m : ℕ). NoneBy m new.requests) is_at (subst (NoneBy now) (sym leaves.requests)
          (all_later now (deadlines effect.state.requests) (all_due (now + 1) effect.state.requests due))),
      subst (λ (m : ℕ). NoneAgainBy m new.requests) is_at (subst (NoneAgainBy now) (sym leaves.requests)
          (all_later now (resends effect.state.requests) (all_again (now + 1) effect.state.requests again))),
    )
