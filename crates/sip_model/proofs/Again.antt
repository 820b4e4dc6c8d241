-- No moment at which something goes again is passed over; with the deadlines, what had to fire has fired.
use Rattle.std.proofs.Common.{ℕ, ◌+◌, ◌≤◌, Bool, List, [], ◌∷◌, sym, subst, arith, filter_map, option_to_list}
use Rattle.std.specs.List.{AllByRecursion}
use Rattle.sip_uri.specs.declared.addr.Addr.{Addr}
use Rattle.sip_event.specs.declared.event.StepOut.{StepOut}
use Rattle.sip_event.specs.declared.event.Event.TheVariants.{Datagram, Time, Fault}
use Rattle.model_steps.specs.state.declared.server.Server.{Server}
use Rattle.model_steps.specs.state.declared.branch.Branch.{Branch}
use Rattle.model_steps.specs.state.declared.open_request.OpenRequest.{OpenRequest}
use Rattle.model_steps.specs.state.declared.proxy_state.ProxyState.{ProxyState}
use Rattle.model_steps.specs.state.State.{first_state, is_invite}
use Rattle.model_steps.specs.state.SameState.{SameState}
use Rattle.model_steps.specs.context_model.Branches.{acknowledged}
use Rattle.model_steps.specs.context_model.Retransmission.{answer_due, resends_of, resends}
use Rattle.model_steps.specs.Step.{Act, Given, Passing, IsStep, NoneAgainBy, NoneAgainBefore, moment_of}
use Rattle.sip_model.specs.Run.{Link, under, IsChain}
use Rattle.sip_model.specs.Order.{HasFired, FinalAnswer}
use Rattle.sip_model.proofs.Places.{all_in, all_push, all_replaced}
use Rattle.sip_model.proofs.Moves.{IsMove, Stays, TurnsAway, Opens, Changes, Resends, Acknowledges, kept_by_moves}
use Rattle.sip_model.proofs.Events.{change_event}
use Rattle.sip_model.proofs.Resending.{again_at, IsBranchAgain, IsAgain, resent_again, acknowledged_again}
use Rattle.sip_model.proofs.Settling.{event_again, all_append}
use Rattle.sip_model.proofs.Openings.{opening_again}
use Rattle.sip_model.proofs.Steps.{IsTaken, stands_at, step_taken}
use Rattle.sip_model.proofs.Deadlines.{IsFrom, parts_of_append, due_from_list, list_from_due, first_due, first_with, later_all, all_later, delivery_fired, time_fired}

-- ---- the moments of a list, one by one

-- of those of branches
branches_from_list : (floor : ℕ) (invite : Bool) (bs : List Branch) → AllByRecursion (IsBranchAgain 0 invite) bs
    → AllByRecursion (IsFrom floor) (filter_map (again_at invite) bs) → AllByRecursion (IsBranchAgain floor invite) bs
branches_from_list floor invite [] waits all = tt
branches_from_list floor invite (b ∷ bs) waits all =
    let parts = first_due floor (again_at invite b) (filter_map (again_at invite) bs) all in
    (record { due_from = parts.0; waits = waits.0.waits }, branches_from_list floor invite bs waits.1 parts.1)

-- and back
list_from_branches : (floor : ℕ) (invite : Bool) (bs : List Branch) → AllByRecursion (IsBranchAgain floor invite) bs
    → AllByRecursion (IsFrom floor) (filter_map (again_at invite) bs)
list_from_branches floor invite [] all = tt
list_from_branches floor invite (b ∷ bs) all = first_with floor (again_at invite b) (filter_map (again_at invite) bs) all.0.due_from
    (list_from_branches floor invite bs all.1)

-- of those of a request
again_from_all : (floor : ℕ) (r : OpenRequest) → IsAgain 0 r → AllByRecursion (IsFrom floor) (resends_of r) → IsAgain floor r
again_from_all floor r waits all =
    let parts = parts_of_append (IsFrom floor) (option_to_list (answer_due r)) (filter_map (again_at (is_invite r)) r.branches) all in
    record {
      answer_from = due_from_list floor (answer_due r) parts.0;
      answer_waits = waits.answer_waits;
      branches_again = branches_from_list floor (is_invite r) r.branches waits.branches_again parts.1;
    }

-- and back
all_from_again : (floor : ℕ) (r : OpenRequest) → IsAgain floor r → AllByRecursion (IsFrom floor) (resends_of r)
all_from_again floor r h =
    all_append (IsFrom floor) (option_to_list (answer_due r)) (filter_map (again_at (is_invite r)) r.branches)
    (list_from_due floor (answer_due r) h.answer_from) (list_from_branches floor (is_invite r) r.branches h.branches_again)

-- of those of all requests
each_again : (floor : ℕ) (requests : List OpenRequest) → AllByRecursion (IsAgain 0) requests → AllByRecursion (IsFrom floor) (resends requests)
    → AllByRecursion (IsAgain floor) requests
each_again floor [] waits all = tt
each_again floor (r ∷ rs) waits all =
    let parts = parts_of_append (IsFrom floor) (resends_of r) (resends rs) all in
    (again_from_all floor r waits.0 parts.0, each_again floor rs waits.1 parts.1)

-- and back
pub all_again : (floor : ℕ) (requests : List OpenRequest) → AllByRecursion (IsAgain floor) requests → AllByRecursion (IsFrom floor) (resends requests)
all_again floor [] all = tt
all_again floor (r ∷ rs) all = all_append (IsFrom floor) (resends_of r) (resends rs) (all_from_again floor r all.0) (all_again floor rs all.1)

-- ---- moves

-- after a move nothing goes again before a moment that it stands at, or one after it, that didn't before
move_again : (server : Server) (floor now : ℕ) → floor ≤ now + 1 → (requests : List OpenRequest) (next : ℕ) (after : List OpenRequest) (after_next : ℕ)
    (finals : List FinalAnswer) → IsMove server now requests next after after_next finals
    → AllByRecursion (IsAgain floor) requests → AllByRecursion (IsAgain floor) after
move_again server floor now low requests next after after_next finals (Stays e more up) h = subst (AllByRecursion (IsAgain floor)) (sym e) h
move_again server floor now low requests next after after_next finals (TurnsAway a m r opening number more e) h = subst (AllByRecursion (IsAgain floor)) (sym e) h
move_again server floor now low requests next after after_next finals (Opens a m r opening at number more is_new e) h =
    subst (AllByRecursion (IsAgain floor)) (sym e) (all_push (IsAgain floor) requests r h (opening_again server floor a m r finals opening (omega arith)))
move_again server floor now low requests next after after_next finals (Changes r change there is more e up) h =
    let event = change_event server now r change is in
    subst (AllByRecursion (IsAgain floor)) (sym e) (all_replaced (IsAgain floor) change.request requests h
    (λ stays. event_again server floor now r change event low (all_in (IsAgain floor) requests r h there)))
move_again server floor now low requests next after after_next finals (Resends r packets later there goes more e up) h =
    subst (AllByRecursion (IsAgain floor)) (sym e) (all_replaced (IsAgain floor) later requests h
    (λ stays. resent_again server floor now r packets later goes low (all_in (IsAgain floor) requests r h there)))
move_again server floor now low requests next after after_next finals (Acknowledges r there more e up) h =
    subst (AllByRecursion (IsAgain floor)) (sym e) (all_replaced (IsAgain floor) (acknowledged now r) requests h
    (λ stays. acknowledged_again floor now r (all_in (IsAgain floor) requests r h there)))

-- nor after a step
taken_each : (server : Server) (floor : ℕ) (old : ProxyState) (now : ℕ) (new : ProxyState) (finals : List FinalAnswer) → floor ≤ now + 1
    → IsTaken server old now new finals → AllByRecursion (IsAgain floor) old.requests → AllByRecursion (IsAgain floor) new.requests
taken_each server floor old now new finals low taken all =
    kept_by_moves server now (λ requests next. AllByRecursion (IsAgain floor) requests)
    (λ requests next after after_next finals. move_again server floor now low requests next after after_next finals)
    old.requests old.next new.requests new.next _ taken.moves all

-- by the moments of all
taken_again : (server : Server) (floor : ℕ) (old : ProxyState) (now : ℕ) (new : ProxyState) (finals : List FinalAnswer) → floor ≤ now + 1
    → IsTaken server old now new finals → AllByRecursion (IsAgain 0) old.requests
    → AllByRecursion (IsFrom floor) (resends old.requests) → AllByRecursion (IsFrom floor) (resends new.requests)
taken_again server floor old now new finals low taken waits all = all_again floor new.requests
    (taken_each server floor old now new finals low taken (each_again floor old.requests waits all))

-- ---- histories

-- whatever goes again has a wait
chain_waits : (server : Server) (first : ℕ) (history : List Link) (last : ProxyState) → IsChain server (first_state first) history last
    → AllByRecursion (IsAgain 0) last.requests
chain_waits server first [] last h = subst (λ (s : ProxyState). AllByRecursion (IsAgain 0) s.requests) (sym h) tt
chain_waits server first (link ∷ history) last h =
    let taken = step_taken (under server link.config) link.before link.act link.out link.after h.1 in
    subst (λ (s : ProxyState). AllByRecursion (IsAgain 0) s.requests) (sym h.0)
    (taken_each (under server link.config) 0 link.before (stands_at link.before link.act link.out) link.after _ (omega arith) taken
    (chain_waits server first history link.before h.2))

-- after a step nothing is to go again before its moment
step_again : (server : Server) (old : ProxyState) (act : Act) (out : StepOut) (new : ProxyState) → IsStep server old act out new → AllByRecursion (IsAgain 0) old.requests
    → NoneAgainBefore new.moment new.requests
step_again server old act out new h waits =
    let now = stands_at old act out in
    let taken = step_taken server old act out new h in
    subst (λ (moment : ℕ). NoneAgainBefore moment new.requests) (sym taken.is_at) (taken_again server now old now new _ (omega arith) taken waits taken.none_again)

-- so after each
pub chain_none_again : (server : Server) (first : ℕ) (history : List Link) (last : ProxyState) → IsChain server (first_state first) history last
    → NoneAgainBefore last.moment last.requests
chain_none_again server first [] last h = subst (λ (s : ProxyState). NoneAgainBefore s.moment s.requests) (sym h) tt
chain_none_again server first (link ∷ history) last h =
    subst (λ (s : ProxyState). NoneAgainBefore s.moment s.requests) (sym h.0)
    (step_again (under server link.config) link.before link.act link.out link.after h.1 (chain_waits server first history link.before h.2))

-- the same of each request
pub chain_again : (server : Server) (first : ℕ) (history : List Link) (last : ProxyState) → IsChain server (first_state first) history last
    → AllByRecursion (IsAgain last.moment) last.requests
chain_again server first history last h =
    each_again last.moment last.requests (chain_waits server first history last h) (chain_none_again server first history last h)

-- once a datagram was taken nothing is to go again by then
delivery_again : (server : Server) (old : ProxyState) (at word : ℕ) (from : Addr) (bytes : List ℕ) (out : StepOut) (new : ProxyState)
    → IsStep server old (Given (Datagram at word from bytes)) out new → AllByRecursion (IsAgain 0) old.requests
    → NoneAgainBy new.moment new.requests
delivery_again server old at word from bytes out new h waits =
    let now = moment_of old at in
    let taken = step_taken server old (Given (Datagram at word from bytes)) out new h in
    subst (λ (moment : ℕ). NoneAgainBy moment new.requests) (sym taken.is_at)
    (all_later now (resends new.requests) (taken_again server (now + 1) old now new _ (omega arith) taken waits (later_all now (resends old.requests) h.none_again)))

-- nor once time passed up to a moment
time_again : (server : Server) (old : ProxyState) (at : ℕ) (out : StepOut) (new : ProxyState) → IsStep server old (Given (Time at)) out new
    → NoneAgainBy new.moment new.requests
time_again server old at out new h =
    let same : SameState new (record old { moment = out.at }) = h.quiet.does.leaves in
    subst (λ (moment : ℕ). NoneAgainBy moment new.requests) (sym same.moment)
    (subst (NoneAgainBy out.at) (sym same.requests) (subst (λ (moment : ℕ). NoneAgainBy moment old.requests) (sym h.at_moment) h.none_again_due))

-- what had to fire has fired once a datagram was taken, or time passed up to a moment
step_has_fired : (server : Server) (old : ProxyState) (act : Act) (out : StepOut) (new : ProxyState) → IsStep server old act out new
    → AllByRecursion (IsAgain 0) old.requests → HasFired act new
step_has_fired server old (Given (Datagram at word from bytes)) out new h waits = (
  delivery_fired server old at word from bytes out new h,
  delivery_again server old at word from bytes out new h waits,
)
step_has_fired server old (Given (Time at)) out new h waits = (time_fired server old at out new h, time_again server old at out new h)
step_has_fired server old (Given (Fault at ticket)) out new h waits = tt
step_has_fired server old (Passing at) out new h waits = tt

-- in each step of a history
pub chain_has_fired : (server : Server) (first : ℕ) (history : List Link) (last : ProxyState) → IsChain server (first_state first) history last
    → AllByRecursion (λ (link : Link). HasFired link.act link.after) history
chain_has_fired server first [] last h = tt
chain_has_fired server first (link ∷ history) last h = (
  step_has_fired (under server link.config) link.before link.act link.out link.after h.1 (chain_waits server first history link.before h.2),
  chain_has_fired server first history link.before h.2,
)
