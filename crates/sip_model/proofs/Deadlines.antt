-- No deadline is passed over: what stands after a step isn't before it, and later where all that was due fired.
use Rattle.std.proofs.Common.{ℕ, ◌+◌, ◌≤◌, ◌<◌, Bool, true, false, cond, ◌&&◌, List, [], ◌∷◌, ◌++◌, Option, Some, None, sym, subst, arith, filter_map, option_to_list}
use Rattle.std.specs.List.{AllByRecursion, cons_option}
use Rattle.sip_uri.specs.declared.addr.Addr.{Addr}
use Rattle.sip_event.specs.declared.event.StepOut.{StepOut}
use Rattle.sip_event.specs.declared.event.Event.TheVariants.{Datagram, Time}
use Rattle.model_steps.specs.state.declared.server.Server.{Server}
use Rattle.model_steps.specs.state.declared.open_request.Side.{Side}
use Rattle.model_steps.specs.state.declared.branch.Branch.{Branch}
use Rattle.model_steps.specs.state.declared.open_request.OpenRequest.{OpenRequest}
use Rattle.model_steps.specs.state.declared.proxy_state.ProxyState.{ProxyState}
use Rattle.model_steps.specs.state.declared.open_request.Side.TheVariants.{Answering, Closing, Acknowledged, Closed}
use Rattle.model_steps.specs.state.State.{first_state, deadlines, deadlines_of, side_deadline, phase_deadline, is_invite}
use Rattle.model_steps.specs.state.SameState.{SameState}
use Rattle.model_steps.specs.context_model.Branches.{acknowledged, acknowledged_side, was_refused}
use Rattle.model_steps.specs.Step.{Act, Given, IsStep, NoneBy, NoneBefore, moment_of}
use Rattle.sip_model.specs.Run.{Link, under, IsChain}
use Rattle.sip_model.specs.Order.{FinalAnswer}
use Rattle.sip_model.proofs.Places.{all_in, all_push, all_weaker, all_replaced}
use Rattle.sip_model.proofs.Moves.{Resends, IsMove, Stays, TurnsAway, Opens, Changes, Acknowledges, kept_by_moves}
use Rattle.sip_model.proofs.Resending.{DueFrom}
use Rattle.sip_model.proofs.Events.{resent_due, IsDue, change_event}
use Rattle.sip_model.proofs.Settling.{event_due, all_append}
use Rattle.sip_model.proofs.Openings.{opening_due}
use Rattle.sip_model.proofs.Steps.{IsTaken, stands_at, step_taken}

-- ---- deadlines of a list, one by one

-- a deadline isn't before a moment
abbrev pub IsFrom : ℕ → ℕ → Type 0
IsFrom floor due = floor ≤ due

-- what holds of a whole list holds of its parts
pub parts_of_append : (P : ℕ → Type 0) (xs ys : List ℕ) → AllByRecursion P (xs ++ ys) → AllByRecursion P xs × AllByRecursion P ys
parts_of_append P [] ys all = (tt, all)
parts_of_append P (x ∷ xs) ys all = let rest = parts_of_append P xs ys all.1 in ((all.0, rest.0), rest.1)

-- of a deadline that may not be there
pub due_from_list : (floor : ℕ) (o : Option ℕ) → AllByRecursion (IsFrom floor) (option_to_list o) → DueFrom floor o
due_from_list floor None all = tt
due_from_list floor (Some due) all = all.0

-- and back
pub list_from_due : (floor : ℕ) (o : Option ℕ) → DueFrom floor o → AllByRecursion (IsFrom floor) (option_to_list o)
list_from_due floor None h = tt
list_from_due floor (Some due) h = (h, tt)

-- the first deadline of a list, if there is one, and the others
pub first_due : (floor : ℕ) (o : Option ℕ) (rest : List ℕ) → AllByRecursion (IsFrom floor) (cons_option o rest) → DueFrom floor o × AllByRecursion (IsFrom floor) rest
first_due floor None rest all = (tt, all)
first_due floor (Some due) rest all = (all.0, all.1)

-- and back
pub first_with : (floor : ℕ) (o : Option ℕ) (rest : List ℕ) → DueFrom floor o → AllByRecursion (IsFrom floor) rest → AllByRecursion (IsFrom floor) (cons_option o rest)
first_with floor None rest h all = all
first_with floor (Some due) rest h all = (h, all)

-- of the deadlines of branches
branches_from_list : (floor : ℕ) (bs : List Branch) → AllByRecursion (IsFrom floor) (filter_map (λ (b : Branch). phase_deadline b.phase) bs)
    → AllByRecursion (λ (b : Branch). DueFrom floor (phase_deadline b.phase)) bs
branches_from_list floor [] all = tt
branches_from_list floor (b ∷ bs) all =
    let parts = first_due floor (phase_deadline b.phase) (filter_map (λ (x : Branch). phase_deadline x.phase) bs) all in
    (parts.0, branches_from_list floor bs parts.1)

-- and back
list_from_branches : (floor : ℕ) (bs : List Branch) → AllByRecursion (λ (b : Branch). DueFrom floor (phase_deadline b.phase)) bs
    → AllByRecursion (IsFrom floor) (filter_map (λ (b : Branch). phase_deadline b.phase) bs)
list_from_branches floor [] all = tt
list_from_branches floor (b ∷ bs) all = first_with floor (phase_deadline b.phase) (filter_map (λ (x : Branch). phase_deadline x.phase) bs) all.0
    (list_from_branches floor bs all.1)

-- of the deadlines of a request
due_from_all : (floor : ℕ) (r : OpenRequest) → AllByRecursion (IsFrom floor) (deadlines_of r) → IsDue floor r
due_from_all floor r all =
    let parts = parts_of_append (IsFrom floor) (option_to_list (side_deadline r.side)) (filter_map (λ (b : Branch). phase_deadline b.phase) r.branches) all in
    record { side_due = due_from_list floor (side_deadline r.side) parts.0; branches_due = branches_from_list floor r.branches parts.1 }

-- and back
all_from_due : (floor : ℕ) (r : OpenRequest) → IsDue floor r → AllByRecursion (IsFrom floor) (deadlines_of r)
all_from_due floor r h =
    all_append (IsFrom floor) (option_to_list (side_deadline r.side)) (filter_map (λ (b : Branch). phase_deadline b.phase) r.branches)
    (list_from_due floor (side_deadline r.side) h.side_due) (list_from_branches floor r.branches h.branches_due)

-- of the deadlines of all requests
pub each_due : (floor : ℕ) (requests : List OpenRequest) → AllByRecursion (IsFrom floor) (deadlines requests) → AllByRecursion (IsDue floor) requests
each_due floor [] all = tt
each_due floor (r ∷ rs) all =
    let parts = parts_of_append (IsFrom floor) (deadlines_of r) (deadlines rs) all in
    (due_from_all floor r parts.0, each_due floor rs parts.1)

-- and back
pub all_due : (floor : ℕ) (requests : List OpenRequest) → AllByRecursion (IsDue floor) requests → AllByRecursion (IsFrom floor) (deadlines requests)
all_due floor [] all = tt
all_due floor (r ∷ rs) all = all_append (IsFrom floor) (deadlines_of r) (deadlines rs) (all_from_due floor r all.0) (all_due floor rs all.1)

-- ---- moves

-- an ACK arms nothing that is due before
acknowledged_side_due : (floor now : ℕ) (side : Side) → floor ≤ now + 1 → DueFrom floor (side_deadline side) → DueFrom floor (side_deadline (acknowledged_side now side))
acknowledged_side_due floor now Answering low h = h
acknowledged_side_due floor now (Closing due) low h = omega arith
acknowledged_side_due floor now (Acknowledged due) low h = h
acknowledged_side_due floor now Closed low h = h

-- nor does it in the request
acknowledged_due : (floor now : ℕ) (r : OpenRequest) → floor ≤ now + 1 → IsDue floor r → IsDue floor (acknowledged now r)
acknowledged_due floor now r low h = by_test (is_invite r && was_refused r.answer) where
  by_test : (t : Bool) → IsDue floor (cond t (record r { side = acknowledged_side now r.side }) r)
  by_test true = record { side_due = acknowledged_side_due floor now r.side low h.side_due; branches_due = h.branches_due }
  by_test false = h

-- a move arms nothing before a moment that it stands at, or one after it
move_due : (server : Server) (floor now : ℕ) → floor ≤ now + 1 → (requests : List OpenRequest) (next : ℕ) (after : List OpenRequest) (after_next : ℕ)
    (finals : List FinalAnswer) → IsMove server now requests next after after_next finals
    → AllByRecursion (IsDue floor) requests → AllByRecursion (IsDue floor) after
move_due server floor now low requests next after after_next finals (Stays e more up) h = subst (AllByRecursion (IsDue floor)) (sym e) h
move_due server floor now low requests next after after_next finals (TurnsAway a m r opening number more e) h = subst (AllByRecursion (IsDue floor)) (sym e) h
move_due server floor now low requests next after after_next finals (Opens a m r opening at number more is_new e) h =
    subst (AllByRecursion (IsDue floor)) (sym e) (all_push (IsDue floor) requests r h (opening_due server floor a m r finals opening (omega arith)))
move_due server floor now low requests next after after_next finals (Changes r change there is more e up) h =
    let event = change_event server now r change is in
    subst (AllByRecursion (IsDue floor)) (sym e) (all_replaced (IsDue floor) change.request requests h
    (λ stays. event_due server floor now r change event low (all_in (IsDue floor) requests r h there)))
move_due server floor now low requests next after after_next finals (Resends r packets later there goes more e up) h =
    subst (AllByRecursion (IsDue floor)) (sym e) (all_replaced (IsDue floor) later requests h
    (λ stays. resent_due server floor now r packets later goes (all_in (IsDue floor) requests r h there)))
move_due server floor now low requests next after after_next finals (Acknowledges r there more e up) h =
    subst (AllByRecursion (IsDue floor)) (sym e) (all_replaced (IsDue floor) (acknowledged now r) requests h
    (λ stays. acknowledged_due floor now r low (all_in (IsDue floor) requests r h there)))

-- nor does a step
taken_due : (server : Server) (floor : ℕ) (old : ProxyState) (now : ℕ) (new : ProxyState) (finals : List FinalAnswer) → floor ≤ now + 1
    → IsTaken server old now new finals → AllByRecursion (IsFrom floor) (deadlines old.requests) → AllByRecursion (IsFrom floor) (deadlines new.requests)
taken_due server floor old now new finals low taken all =
    all_due floor new.requests
    (kept_by_moves server now (λ requests next. AllByRecursion (IsDue floor) requests)
    (λ requests next after after_next finals. move_due server floor now low requests next after after_next finals)
    old.requests old.next new.requests new.next _ taken.moves (each_due floor old.requests all))

-- ---- histories

-- after a step no deadline stands before the moment
pub step_passes_none : (server : Server) (old : ProxyState) (act : Act) (out : StepOut) (new : ProxyState) → IsStep server old act out new
    → NoneBefore new.moment new.requests
step_passes_none server old act out new h =
    let now = stands_at old act out in
    let taken = step_taken server old act out new h in
    subst (λ (moment : ℕ). NoneBefore moment new.requests) (sym taken.is_at) (taken_due server now old now new _ (omega arith) taken taken.none_passed)

-- after each step no deadline stands before the moment
pub chain_passes_none : (server : Server) (first : ℕ) (history : List Link) (last : ProxyState) → IsChain server (first_state first) history last
    → NoneBefore last.moment last.requests
chain_passes_none server first [] last h = subst (λ (s : ProxyState). NoneBefore s.moment s.requests) (sym h) tt
chain_passes_none server first (link ∷ history) last h =
    subst (λ (s : ProxyState). NoneBefore s.moment s.requests) (sym h.0) (step_passes_none (under server link.config) link.before link.act link.out link.after h.1)

-- what is later than a moment is from the next one on
pub later_all : (now : ℕ) (dues : List ℕ) → AllByRecursion (λ due. now < due) dues → AllByRecursion (IsFrom (now + 1)) dues
later_all now dues all = all_weaker (λ due. now < due) (IsFrom (now + 1)) dues (λ due h. omega arith) all

-- and back
pub all_later : (now : ℕ) (dues : List ℕ) → AllByRecursion (IsFrom (now + 1)) dues → AllByRecursion (λ due. now < due) dues
all_later now dues all = all_weaker (IsFrom (now + 1)) (λ due. now < due) dues (λ due h. omega arith) all

-- once a datagram was taken no deadline stands by then
pub delivery_fired : (server : Server) (old : ProxyState) (at word : ℕ) (from : Addr) (bytes : List ℕ) (out : StepOut) (new : ProxyState)
    → IsStep server old (Given (Datagram at word from bytes)) out new → NoneBy new.moment new.requests
delivery_fired server old at word from bytes out new h =
    let now = moment_of old at in
    let taken = step_taken server old (Given (Datagram at word from bytes)) out new h in
    subst (λ (moment : ℕ). NoneBy moment new.requests) (sym taken.is_at)
    (all_later now (deadlines new.requests) (taken_due server (now + 1) old now new _ (omega arith) taken (later_all now (deadlines old.requests) h.none_due)))

-- nor once time passed up to a moment
pub time_fired : (server : Server) (old : ProxyState) (at : ℕ) (out : StepOut) (new : ProxyState) → IsStep server old (Given (Time at)) out new
    → NoneBy new.moment new.requests
time_fired server old at out new h =
    let same : SameState new (record old { moment = out.at }) = h.quiet.does.leaves in
    subst (λ (moment : ℕ). NoneBy moment new.requests) (sym same.moment)
    (subst (NoneBy out.at) (sym same.requests) (subst (λ (moment : ℕ). NoneBy moment old.requests) (sym h.at_moment) h.none_due))
