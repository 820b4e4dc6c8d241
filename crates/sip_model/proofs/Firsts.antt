-- What is due that happens is the first of all that is due: so it is at one moment from states with the same open requests, and never by a moment by
-- which nothing is due.
use Rattle.std.proofs.Common.{◌≡◌, ◌⊎◌, inl, inr, ℕ, ◌≤◌, ◌<◌, List, Some, Option, sym, subst, arith, option_to_list, filter_map}
use Rattle.std.specs.List.{AllByRecursion}
use Rattle.sip_event.specs.declared.packet.Packet.{Packet}
use Rattle.sip_event.specs.declared.event.StepOut.{StepOut}
use Rattle.model_steps.specs.state.declared.server.Server.{Server}
use Rattle.model_steps.specs.state.declared.branch.Branch.{Branch}
use Rattle.model_steps.specs.state.declared.open_request.OpenRequest.{OpenRequest}
use Rattle.model_steps.specs.state.declared.proxy_state.ProxyState.{ProxyState}
use Rattle.model_steps.specs.state.State.{deadlines, deadlines_of, side_deadline, phase_deadline}
use Rattle.model_steps.specs.context_model.Branches.{Change}
use Rattle.model_steps.specs.context_model.Retransmission.{IsResent, OfAnswer, OfRequest, answer_due, branch_due, resends, resends_of}
use Rattle.model_steps.specs.Step.{IsDeadline, IsResend, IsOverdue, OfSide, OfBranch, NoneBy, NoneBefore, NoneAgainBy, NoneAgainBefore, moment_of}
use Rattle.sip_model.proofs.TiedLists.{made_of, chosen_of}
use Rattle.sip_model.proofs.Places.{in_from_contains}
use Rattle.sip_model.proofs.Went.{all_left, all_right}

-- what holds of a request's deadlines holds of the one that passes
of_overdue : (P : ℕ → Type 0) (server : Server) (due : ℕ) (r : OpenRequest) (change : Change) → IsOverdue server due r change → AllByRecursion P (deadlines_of r) → P due
of_overdue P server due r _ (OfSide is) all =
    let own : AllByRecursion P (option_to_list (side_deadline r.side)) = all_left P (option_to_list (side_deadline r.side))
    (filter_map (λ (b : Branch). phase_deadline b.phase) r.branches) all in
    let one : AllByRecursion P (option_to_list (Some due)) = subst (λ (o : Option ℕ). AllByRecursion P (option_to_list o)) is own in
    one.0
of_overdue P server due r _ (OfBranch b there is) all =
    chosen_of P (λ (x : Branch). phase_deadline x.phase) r.branches b due (in_from_contains r.branches b there) is
    (all_right P (option_to_list (side_deadline r.side)) (filter_map (λ (x : Branch). phase_deadline x.phase) r.branches) all)

-- and what holds of the moments at which something goes again holds of that at which it does
of_resent : (P : ℕ → Type 0) (server : Server) (due : ℕ) (r : OpenRequest) (packets : List Packet) (next : OpenRequest) → IsResent server due r packets next
    → AllByRecursion P (resends_of r) → P due
of_resent P server due r _ _ (OfAnswer is) all =
    let own : AllByRecursion P (option_to_list (answer_due r)) = all_left P (option_to_list (answer_due r)) (filter_map (branch_due r) r.branches) all in
    let one : AllByRecursion P (option_to_list (Some due)) = subst (λ (o : Option ℕ). AllByRecursion P (option_to_list o)) is own in
    one.0
of_resent P server due r _ _ (OfRequest b there is) all =
    chosen_of P (branch_due r) r.branches b due (in_from_contains r.branches b there) is
    (all_right P (option_to_list (answer_due r)) (filter_map (branch_due r) r.branches) all)

-- what holds of all that is due holds of what happens
of_due : (P : ℕ → Type 0) (server : Server) (old : ProxyState) (at : ℕ) (out : StepOut) (new : ProxyState)
    → IsDeadline server old at out new ⊎ IsResend server old at out new
    → AllByRecursion P (deadlines old.requests) → AllByRecursion P (resends old.requests) → P out.at
of_due P server old at out new (inl passed) all again =
    of_overdue P server out.at passed.request passed.change passed.passes (made_of P deadlines_of old.requests passed.request
    (in_from_contains old.requests passed.request passed.is_open) all)
of_due P server old at out new (inr gone) all again =
    of_resent P server out.at gone.request gone.packets gone.next gone.goes (made_of P resends_of old.requests gone.request
    (in_from_contains old.requests gone.request gone.is_open) again)

-- nothing is due before what happens
none_before : (server : Server) (old : ProxyState) (at : ℕ) (out : StepOut) (new : ProxyState) → IsDeadline server old at out new ⊎ IsResend server old at out new
    → NoneBefore out.at old.requests × NoneAgainBefore out.at old.requests
none_before server old at out new (inl passed) = (passed.is_first, passed.none_again)
none_before server old at out new (inr gone) = (gone.is_first, gone.none_again)

-- it happens by the moment that was handed in
pub in_time : (server : Server) (old : ProxyState) (at : ℕ) (out : StepOut) (new : ProxyState) → IsDeadline server old at out new ⊎ IsResend server old at out new
    → out.at ≤ moment_of old at
in_time server old at out new (inl passed) = passed.is_due
in_time server old at out new (inr gone) = gone.is_due

-- no earlier than what happens where the open requests are the same
no_earlier : (server : Server) (old other : ProxyState) (at when : ℕ) (out another : StepOut) (new newer : ProxyState) → old.requests ≡ other.requests
    → IsDeadline server old at out new ⊎ IsResend server old at out new → IsDeadline server other when another newer ⊎ IsResend server other when another newer
    → out.at ≤ another.at
no_earlier server old other at when out another new newer same h k =
    let first = none_before server old at out new h in
    of_due (λ (due : ℕ). out.at ≤ due) server other when another newer k (subst (NoneBefore out.at) same first.0) (subst (NoneAgainBefore out.at) same first.1)

-- so both happen at one moment
pub at_one_moment : (server : Server) (old other : ProxyState) (at when : ℕ) (out another : StepOut) (new newer : ProxyState) → old.requests ≡ other.requests
    → IsDeadline server old at out new ⊎ IsResend server old at out new → IsDeadline server other when another newer ⊎ IsResend server other when another newer
    → out.at ≡ another.at
at_one_moment server old other at when out another new newer same h k =
    let forth = no_earlier server old other at when out another new newer same h k in
    let back = no_earlier server other old when at another out newer new (sym same) k h in
    omega (arith, forth, back)

-- by a moment by which nothing is due nothing happens
pub nothing_happens : (server : Server) (old : ProxyState) (at moment : ℕ) (out : StepOut) (new : ProxyState) → NoneBy moment old.requests
    → NoneAgainBy moment old.requests → moment_of old at ≤ moment
    → IsDeadline server old at out new ⊎ IsResend server old at out new → ⊥
nothing_happens server old at moment out new none none_again le h =
    let late = of_due (λ (due : ℕ). moment < due) server old at out new h none none_again in
    let early = in_time server old at out new h in
    omega (arith, late, early, le)
