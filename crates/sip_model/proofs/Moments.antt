-- The moment of a state doesn't go back.
use Rattle.std.proofs.Common.{inl, inr, ℕ, ◌≤◌, sym, subst, arith, List, ◌∷◌}
use Rattle.std.specs.List.{AllByRecursion}
use Rattle.sip_event.specs.declared.packet.Packet.{Packet}
use Rattle.sip_event.specs.declared.event.StepOut.{StepOut}
use Rattle.sip_event.specs.declared.event.Event.TheVariants.{Datagram, Time, Fault}
use Rattle.model_steps.specs.state.declared.server.Server.{Server}
use Rattle.model_steps.specs.state.declared.branch.Branch.{Branch}
use Rattle.model_steps.specs.state.declared.open_request.OpenRequest.{OpenRequest}
use Rattle.model_steps.specs.state.declared.proxy_state.ProxyState.{ProxyState}
use Rattle.model_steps.specs.state.State.{first_state, phase_deadline, is_invite}
use Rattle.model_steps.specs.context_model.Retransmission.{IsResent, OfAnswer, OfRequest}
use Rattle.model_steps.specs.context_model.Branches.{Change}
use Rattle.model_steps.specs.Step.{Act, Given, Passing, IsStep, IsOverdue, OfSide, OfBranch, NoneBefore}
use Rattle.sip_model.specs.Run.{Link, under, IsChain}
use Rattle.sip_model.proofs.Places.{in_from_contains, all_in}
use Rattle.sip_model.proofs.Steps.{stands_at, step_taken}
use Rattle.sip_model.proofs.Resending.{DueFrom, IsBranchAgain, IsAgain}
use Rattle.sip_model.proofs.Events.{IsDue}
use Rattle.sip_model.proofs.Deadlines.{each_due, chain_passes_none}
use Rattle.sip_model.proofs.Again.{chain_again}

-- a deadline that passes is one of the request
passing_due : (server : Server) (floor due : ℕ) (r : OpenRequest) (change : Change) → IsDue floor r → IsOverdue server due r change → floor ≤ due
passing_due server floor due r _ h (OfSide is) = subst (DueFrom floor) is h.side_due
passing_due server floor due r _ h (OfBranch b there is) =
    subst (DueFrom floor) is (all_in (λ (b : Branch). DueFrom floor (phase_deadline b.phase)) r.branches b h.branches_due (in_from_contains r.branches b there))

-- what goes again does so at a moment of the request
going_again : (server : Server) (floor due : ℕ) (r : OpenRequest) (packets : List Packet) (next : OpenRequest) → IsAgain floor r → IsResent server due r packets next
    → floor ≤ due
going_again server floor due r _ _ h (OfAnswer is) = subst (DueFrom floor) is h.answer_from
going_again server floor due r _ _ h (OfRequest b there is) =
    subst (DueFrom floor) is (all_in (IsBranchAgain floor (is_invite r)) r.branches b h.branches_again (in_from_contains r.branches b there)).due_from

-- a step doesn't stand before the moment of a state before which no deadline stands and nothing is to go again
pub stands_later : (server : Server) (old : ProxyState) (act : Act) (out : StepOut) (new : ProxyState) → NoneBefore old.moment old.requests
    → AllByRecursion (IsAgain old.moment) old.requests
    → IsStep server old act out new → old.moment ≤ stands_at old act out
stands_later server old (Given (Datagram at word from bytes)) out new none again h = omega arith
stands_later server old (Given (Time at)) out new none again h = h.quiet.no_earlier
stands_later server old (Given (Fault at ticket)) out new none again h = omega arith
stands_later server old (Passing at) out new none again (inl quiet) = quiet.no_earlier
stands_later server old (Passing at) out new none again (inr (inr goes)) =
    going_again server old.moment out.at goes.request goes.packets goes.next (all_in (IsAgain old.moment) old.requests goes.request again
    (in_from_contains old.requests goes.request goes.is_open)) goes.goes
stands_later server old (Passing at) out new none again (inr (inl due)) =
    passing_due server old.moment out.at due.request due.change
    (all_in (IsDue old.moment) old.requests due.request (each_due old.moment old.requests none) (in_from_contains old.requests due.request due.is_open)) due.passes

-- so its moment doesn't go back
pub moment_rises : (server : Server) (old : ProxyState) (act : Act) (out : StepOut) (new : ProxyState) → NoneBefore old.moment old.requests
    → AllByRecursion (IsAgain old.moment) old.requests
    → IsStep server old act out new → old.moment ≤ new.moment
moment_rises server old act out new none again h = subst (λ (moment : ℕ). old.moment ≤ moment) (sym (step_taken server old act out new h).is_at)
    (stands_later server old act out new none again h)

-- in no step of a history
pub moment_of_chain_rises : (server : Server) (first : ℕ) (link : Link) (history : List Link) (last : ProxyState)
    → IsChain server (first_state first) (link ∷ history) last → link.before.moment ≤ last.moment
moment_of_chain_rises server first link history last h =
    subst (λ (s : ProxyState). link.before.moment ≤ s.moment) (sym h.0)
    (moment_rises (under server link.config) link.before link.act link.out link.after (chain_passes_none server first history link.before h.2)
    (chain_again server first history link.before h.2) h.1)
