-- Over every history each open request ends in time.
use Rattle.std.proofs.Common.{◌≡◌, ◌∙◌, inl, inr, ℕ, ◌+◌, ◌≤◌, ◌<◌, max, Bool, true, false, not, ◌&&◌, cond, ◌==◌, List, [], ◌∷◌, Contains, Option, Some, IfSome, refl}
use Rattle.std.proofs.Common.{sym, ap, subst, arith}
use Rattle.std.specs.Option.{option_map_or}
use Rattle.std.specs.List.{AllByRecursion}
use Rattle.std.proofs.Math.Nat.{le-max_left, le-max_right}
use Rattle.std.proofs.lemmas.Bool.Decides.{nat_tests}
use Rattle.sip_message_form.specs.declared.message.Start.TheVariants.{Status}
use Rattle.sip_message_form.specs.declared.message.Message.{Message}
use Rattle.sip_event.specs.declared.packet.Packet.{Packet}
use Rattle.sip_event.specs.declared.event.StepOut.{StepOut}
use Rattle.sip_event.specs.declared.event.Event.TheVariants.{Datagram, Time, Fault}
use Rattle.sip_config_types.specs.declared.config.Config.{Config}
use Rattle.model_steps.specs.state.declared.server.Server.{Server}
use Rattle.model_steps.specs.state.declared.branch.Branch.{Branch}
use Rattle.model_steps.specs.state.declared.open_request.OpenRequest.{OpenRequest}
use Rattle.model_steps.specs.state.declared.proxy_state.ProxyState.{ProxyState}
use Rattle.model_steps.specs.state.State.{first_state, is_invite, is_answering, is_provisional, deadlines, deadlines_of, phase_deadline, side_deadline}
use Rattle.model_steps.specs.context_model.Branches.{Change, all_final}
use Rattle.model_steps.specs.context_model.Retransmission.{IsResent, OfAnswer, OfRequest, resends_of, answer_due, branch_due}
use Rattle.model_steps.specs.verdict_model.Verdict.{responding}
use Rattle.model_steps.specs.Step.{Act, Given, Passing, IsStep, IsOverdue, OfSide, OfBranch, NoneBefore, NoneAgainBefore, originals, retransmissions}
use Rattle.sip_model.specs.Run.{Link, under, IsChain}
use Rattle.sip_model.specs.Order.{HasFired, CanEnd}
use Rattle.sip_model.specs.Parts.{HasParts}
use Rattle.sip_model.specs.Endings.{sets_timer_c, is_for_target, is_heard, hears, heard_last, IsBefore, EndsInTime, EndInTime}
use Rattle.sip_model.proofs.EndingLists.{parts_of_append, option_of_all, all_from_in, each_of_flat_map, each_of_filter_map}
use Rattle.sip_model.proofs.EndingTimes.{whole_time, IsFrom, IsInTime, request_later, deadlines_in_time}
use Rattle.sip_model.proofs.EndingChanges.{IsChanging}
use Rattle.sip_model.proofs.EndingParts.{origin_by, origin_of, origin_later, IsEnding, IsRecent, may_change, IsReady, parts_ending}
use Rattle.sip_model.proofs.Lists.{all_contains}

-- ---- what is known of a history from below

-- each step has its parts
abbrev pub HaveParts : Type 0
HaveParts = (server : Server) (old : ProxyState) (act : Act) (out : StepOut) (new : ProxyState) → IsStep server old act out new → HasParts server old act out new

-- in each state of a history holds what is said of it
abbrev pub Always : (Server → ProxyState → Type 0) → Type 0
Always P = (server : Server) (first : ℕ) (history : List Link) (last : ProxyState) → IsChain server (first_state first) history last → P server last

-- once a datagram was taken, or time passed, nothing is due
abbrev pub HaveFired : Type 0
HaveFired = (server : Server) (first : ℕ) (history : List Link) (last : ProxyState) → IsChain server (first_state first) history last
    → AllByRecursion (λ (link : Link). HasFired link.act link.after) history

-- a request that owes its final answer waits for a branch
abbrev pub Waits : OpenRequest → Type 0
Waits r = is_answering r.side ≡ true → all_final r ≡ false

-- ---- deadlines, one by one

-- none of a request's deadlines is before a moment
record IsOpenFrom (floor : ℕ) (r : OpenRequest) : Type 0 where
  side : IsFrom floor (side_deadline r.side)
  branches : AllByRecursion (λ (b : Branch). IsFrom floor (phase_deadline b.phase)) r.branches

-- where none of all deadlines is
each_from : (floor : ℕ) (requests : List OpenRequest) (r : OpenRequest) → NoneBefore floor requests → Contains requests r → IsOpenFrom floor r
each_from floor requests r none there =
    let all = all_contains (λ (x : OpenRequest). AllByRecursion (λ (due : ℕ). floor ≤ due) (deadlines_of x)) requests r
    (each_of_flat_map (λ (due : ℕ). floor ≤ due) deadlines_of requests none) there in
    let parts = parts_of_append (λ (due : ℕ). floor ≤ due) _ _ all in
    record {
      side = option_of_all (λ (due : ℕ). floor ≤ due) (side_deadline r.side) parts.0;
      branches = each_of_filter_map (λ (due : ℕ). floor ≤ due) (λ (b : Branch). phase_deadline b.phase) r.branches parts.1;
    }

-- ---- the moment doesn't go back

-- what is one of some is in time
from_some : (floor due : ℕ) (o : Option ℕ) → o ≡ Some due → IfSome o (λ d. floor ≤ d) → floor ≤ due
from_some floor due o is h = subst (λ (v : Option ℕ). IfSome v (λ d. floor ≤ d)) is h

-- a deadline that passes isn't before a moment before which none stands
overdue_from : (server : Server) (floor due : ℕ) (requests : List OpenRequest) (r : OpenRequest) (change : Change) → NoneBefore floor requests → Contains requests r
    → IsOverdue server due r change → floor ≤ due
overdue_from server floor due requests r _ none there (OfSide is) = from_some floor due (side_deadline r.side) is (each_from floor requests r none there).side
overdue_from server floor due requests r _ none there (OfBranch b in_it is) =
    from_some floor due (phase_deadline b.phase) is (all_contains (λ (x : Branch). IsFrom floor (phase_deadline x.phase)) r.branches b
    (each_from floor requests r none there).branches in_it)

-- nor is what goes again
resent_from : (server : Server) (floor due : ℕ) (requests : List OpenRequest) (r : OpenRequest) (packets : List Packet) (later : OpenRequest)
    → NoneAgainBefore floor requests → Contains requests r
    → IsResent server due r packets later → floor ≤ due
resent_from server floor due requests r _ _ none there goes = by_kind goes where
  all : AllByRecursion (λ (d : ℕ). floor ≤ d) (resends_of r)
  all = all_contains (λ (x : OpenRequest). AllByRecursion (λ (d : ℕ). floor ≤ d) (resends_of x)) requests r
      (each_of_flat_map (λ (d : ℕ). floor ≤ d) resends_of requests none)
      there

  by_kind : {packets : List Packet} {later : OpenRequest} → IsResent server due r packets later → floor ≤ due
  by_kind (OfAnswer is) = from_some floor due (answer_due r) is (option_of_all (λ (d : ℕ). floor ≤ d) (answer_due r) (parts_of_append (λ (d : ℕ). floor ≤ d) _ _ all).0)
  by_kind (OfRequest b in_it is) =
      from_some floor due (branch_due r b) is
      (all_contains (λ (x : Branch). IfSome (branch_due r x) (λ d. floor ≤ d)) r.branches b
      (each_of_filter_map (λ (d : ℕ). floor ≤ d) (branch_due r) r.branches (parts_of_append (λ (d : ℕ). floor ≤ d) _ _ all).1) in_it)

-- so no step stands before the one before it
step_later : (server : Server) (old : ProxyState) (act : Act) (out : StepOut) (new : ProxyState) → NoneBefore old.moment old.requests
    → NoneAgainBefore old.moment old.requests → IsStep server old act out new
    → old.moment ≤ out.at
step_later server old (Given (Datagram at word from bytes)) out new none again step =
    subst (λ (moment : ℕ). old.moment ≤ moment) (sym step.does.at_moment) (le-max_left old.moment at)
step_later server old (Given (Time at)) out new none again step = step.quiet.no_earlier
step_later server old (Given (Fault at ticket)) out new none again step = subst (λ (moment : ℕ). old.moment ≤ moment) (sym step.does.at_moment)
    (le-max_left old.moment at)
step_later server old (Passing at) out new none again (inl quiet) = quiet.no_earlier
step_later server old (Passing at) out new none again (inr (inl due)) = overdue_from server old.moment out.at old.requests due.request due.change none due.is_open
    due.passes
step_later server old (Passing at) out new none again (inr (inr goes)) = resent_from server old.moment out.at old.requests goes.request goes.packets goes.next again
    goes.is_open goes.goes

-- ---- the last response of 101 to 199

-- a number is itself
same_number : (n : ℕ) → (n == n) ≡ true
same_number n = grind (arith, nat_tests)

-- a step that is taken for such a response hears it
hears_it : (server : Server) (requests : List OpenRequest) (r : OpenRequest) (b : Branch) (m : Message) (status : ℕ) (reason : List ℕ)
    → responding server requests m.fields ≡ Some (r, b) → b.is_cancel ≡ false
    → m.start ≡ Status status reason → sets_timer_c (Status status reason) ≡ true → is_heard server requests r.number (m, false) ≡ true
hears_it server requests r b m status reason is_for target start provisional =
    let number : (r.number == r.number) ≡ true = same_number r.number in
    let for_target : is_for_target r.number (responding server requests m.fields) ≡ true = ap (is_for_target r.number) is_for
    ∙ ap (λ (t : Bool). t && not b.is_cancel) number ∙ ap not target in
    ap (λ (t : Bool). t && is_for_target r.number (responding server requests m.fields)) (ap sets_timer_c start ∙ provisional) ∙ for_target

-- a provisional status that isn't 100
both_pass : (s t : Bool) → s ≡ true → t ≡ false → (s && not t) ≡ true
both_pass true false e f = refl
both_pass true true e f = absurd (cc)
both_pass false t e f = absurd (cc)

-- so it came no later than the moment from which the time of its INVITE counts
recent_by : (t h : Bool) (arrived now earlier : ℕ) → t ≡ true → h ≡ true → now ≤ cond t (max arrived (cond h now earlier)) arrived
recent_by true true arrived now earlier e f = le-max_right arrived now
recent_by true false arrived now earlier e f = absurd (cc)
recent_by false h arrived now earlier e f = absurd (cc)

-- of each step
recent_of_step : (server : Server) (link : Link) (history : List Link) → link.out.at ≡ link.after.moment
    → IsRecent server (link ∷ history) link.before link.act link.after.moment
recent_of_step server link history at a bytes m status reason r b said start is_for target provisional invite other =
    let is : is_heard server link.before.requests r.number (m, false) ≡ true = hears_it server link.before.requests r b m status reason is_for target start
    (both_pass (is_provisional status) (status == 100) provisional other) in
    let heard : hears server link.before.requests r.number link.act ≡ true =
    ap (hears server link.before.requests r.number) said.is_act ∙ ap (λ (o : Option (Message × Bool)).
    option_map_or (is_heard server link.before.requests r.number) o false) said.says ∙ is
    in
    subst (λ (moment : ℕ). moment ≤ origin_of server (link ∷ history) r) at
    (recent_by (is_invite r) (hears server link.before.requests r.number link.act) r.arrived_at link.out.at (heard_last server r.number history) invite heard)

-- it isn't later than the moment of the state
heard_by : (t : Bool) (now earlier : ℕ) → earlier ≤ now → cond t now earlier ≤ now
heard_by true now earlier le = omega arith
heard_by false now earlier le = le

-- nor earlier than the one before it
heard_later : (t : Bool) (now earlier : ℕ) → earlier ≤ now → earlier ≤ cond t now earlier
heard_later true now earlier le = le
heard_later false now earlier le = omega arith

-- ---- another configuration

hears_same : (server : Server) (config : Config) (requests : List OpenRequest) (number : ℕ) (act : Act)
    → hears (under server config) requests number act ≡ hears server requests number act
hears_same server config requests number (Given (Datagram at word from bytes)) = refl
hears_same server config requests number (Given (Time at)) = refl
hears_same server config requests number (Given (Fault at ticket)) = refl
hears_same server config requests number (Passing at) = refl

heard_same : (server : Server) (config : Config) (number : ℕ) (history : List Link) → heard_last (under server config) number history ≡ heard_last server number history
heard_same server config number [] = refl
heard_same server config number (link ∷ history) =
    ap (λ (t : Bool). cond t link.out.at (heard_last (under server config) number history)) (hears_same server config link.before.requests number link.act)
    ∙ ap (λ (n : ℕ). cond (hears server link.before.requests number link.act) link.out.at n) (heard_same server config number history)

origin_same : (server : Server) (config : Config) (history : List Link) (r : OpenRequest) → origin_of (under server config) history r ≡ origin_of server history r
origin_same server config history r = ap (λ (n : ℕ). cond (is_invite r) (max r.arrived_at n) r.arrived_at) (heard_same server config r.number history)

ending_back : (server : Server) (config : Config) (history : List Link) (requests : List OpenRequest) → AllByRecursion (IsEnding (under server config) history) requests
    → AllByRecursion (IsEnding server history) requests
ending_back server config history [] all = tt
ending_back server config history (r ∷ rs) all = (
  subst (λ (n : ℕ). IsInTime (is_invite r) n r) (origin_same server config history r) all.0,
  ending_back server config history rs all.1,
)

ready_under : (server : Server) (config : Config) (history : List Link) (now : ℕ) (requests : List OpenRequest) → AllByRecursion (IsReady server history now) requests
    → AllByRecursion (IsReady (under server config) history now) requests
ready_under server config history now [] all = tt
ready_under server config history now (r ∷ rs) all = (
  record { changing = subst (λ (n : ℕ). IsChanging n now r r) (sym (origin_same server config history r)) all.0.changing; side_from = all.0.side_from },
  ready_under server config history now rs all.1,
)

-- ---- histories

module _ (have_parts : HaveParts) (waits : Always (λ server last. AllByRecursion Waits last.requests))
    (can_end : Always (λ server last. AllByRecursion CanEnd last.requests))
    (none_before : Always (λ server last. NoneBefore last.moment last.requests)) (none_again : Always (λ server last. NoneAgainBefore last.moment last.requests))
    (have_fired : HaveFired) where
  -- no such response came later than the moment of the state
  heard_early : (server : Server) (first : ℕ) (history : List Link) (last : ProxyState) (number : ℕ) → IsChain server (first_state first) history last
      → heard_last server number history ≤ last.moment
  heard_early server first [] last number chain = omega arith
  heard_early server first (link ∷ history) last number chain =
      let before : heard_last server number history ≤ link.before.moment = heard_early server first history link.before number chain.2 in
      let later : link.before.moment ≤ link.out.at = step_later (under server link.config) link.before link.act link.out link.after
      (none_before server first history link.before chain.2) (none_again server first history link.before chain.2) chain.1 in
      let by : heard_last server number (link ∷ history) ≤ link.out.at = heard_by (hears server link.before.requests number link.act) link.out.at
      (heard_last server number history) (omega (arith, before, later)) in
      let at : link.out.at ≡ link.after.moment = (have_parts (under server link.config) link.before link.act link.out link.after chain.1).is_at in
      subst (λ (s : ProxyState). heard_last server number (link ∷ history) ≤ s.moment) (sym chain.0)
      (subst (λ (moment : ℕ). heard_last server number (link ∷ history) ≤ moment) at by)

  -- an open request that was in time before a step may change in it
  ready_of_step : (server : Server) (first : ℕ) (link : Link) (history : List Link) → IsStep (under server link.config) link.before link.act link.out link.after
      → IsChain server (first_state first) history link.before
      → AllByRecursion (IsEnding server history) link.before.requests → AllByRecursion (IsReady server (link ∷ history) link.after.moment) link.before.requests
  ready_of_step server first link history step chain before = all_from_in (IsReady server (link ∷ history) link.after.moment) link.before.requests
      (λ r there. ready r there) where
        parts : HasParts (under server link.config) link.before link.act link.out link.after
        parts = have_parts (under server link.config) link.before link.act link.out link.after step

        later : link.before.moment ≤ link.out.at
        later = step_later (under server link.config) link.before link.act link.out link.after (none_before server first history link.before chain)
            (none_again server first history link.before chain) step

        heard : (number : ℕ) → heard_last server number history ≤ heard_last server number (link ∷ history)
        heard number =
            let early : heard_last server number history ≤ link.before.moment = heard_early server first history link.before number chain in
            heard_later (hears server link.before.requests number link.act) link.out.at (heard_last server number history) (omega (arith, early, later))

        ready : (r : OpenRequest) → Contains link.before.requests r → IsReady server (link ∷ history) link.after.moment r
        ready r there =
            let from : IsOpenFrom link.after.moment r = each_from link.after.moment link.before.requests r parts.none_passed there in
            let ending : IsEnding server history r = all_contains (IsEnding server history) link.before.requests r before there in
            let origin : origin_of server history r ≤ origin_of server (link ∷ history) r =
            origin_later (is_invite r) r.arrived_at (heard_last server r.number history) (heard_last server r.number (link ∷ history)) (heard r.number) in
            record {
              changing = may_change (origin_of server (link ∷ history) r) link.after.moment r
                  (request_later (is_invite r) (origin_of server history r) (origin_of server (link ∷ history) r) origin r ending) from.branches
                  (all_contains Waits link.before.requests r (waits server first history link.before chain) there);
              side_from = from.side;
            }

  -- each open request of a history is in time
  chain_ending : (server : Server) (first : ℕ) (history : List Link) (last : ProxyState) → IsChain server (first_state first) history last
      → AllByRecursion (IsEnding server history) last.requests
  chain_ending server first [] last chain = subst (λ (s : ProxyState). AllByRecursion (IsEnding server []) s.requests) (sym chain) tt
  chain_ending server first (link ∷ history) last chain =
      let parts : HasParts (under server link.config) link.before link.act link.out link.after =
      have_parts (under server link.config) link.before link.act link.out link.after chain.1 in
      subst (λ (s : ProxyState). AllByRecursion (IsEnding server (link ∷ history)) s.requests) (sym chain.0)
      (ending_back server link.config (link ∷ history) link.after.requests
      (parts_ending (under server link.config) (link ∷ history) link.before link.act link.after.moment
      (recent_of_step (under server link.config) link history parts.is_at) link.before.requests
      (ready_under server link.config (link ∷ history) link.after.moment link.before.requests
      (ready_of_step server first link history chain.1 chain.2 (chain_ending server first history link.before chain.2))) link.after.requests (originals link.out.packets)
      (retransmissions link.out.packets) parts.parts))

  -- ---- the law

  -- a request whose deadlines are in time, and of which one stands, is open in time
  before_end : (act : Act) (state : ProxyState) (r : OpenRequest) (limit : ℕ) → NoneBefore state.moment state.requests → HasFired act state → Contains state.requests r
      → CanEnd r
      → AllByRecursion (λ (due : ℕ). due ≤ limit) (deadlines_of r) → IsBefore act limit state.moment
  before_end act state r limit none fired there can by = by_act act fired where
    within : can.due ≤ limit
    within = all_contains (λ (due : ℕ). due ≤ limit) (deadlines_of r) can.due by can.has_deadline

    passes : (P : ℕ → Type 0) → AllByRecursion P (deadlines state.requests) → P can.due
    passes P all = all_contains P (deadlines_of r) can.due (all_contains (λ (x : OpenRequest). AllByRecursion P (deadlines_of x)) state.requests r
        (each_of_flat_map P deadlines_of state.requests all) there) can.has_deadline

    not_passed : state.moment ≤ can.due
    not_passed = passes (λ (due : ℕ). state.moment ≤ due) none

    by_act : (a : Act) → HasFired a state → IsBefore a limit state.moment
    by_act (Given (Datagram at word from bytes)) f = let later : state.moment < can.due = passes (λ (due : ℕ). state.moment < due) f.0 in omega (arith, later, within)
    by_act (Given (Time at)) f = let later : state.moment < can.due = passes (λ (due : ℕ). state.moment < due) f.0 in omega (arith, later, within)
    by_act (Given (Fault at ticket)) f = omega (arith, not_passed, within)
    by_act (Passing at) f = omega (arith, not_passed, within)

  -- each step leaves the open requests in time
  link_ends : (server : Server) (first : ℕ) (link : Link) (history : List Link) → IsStep (under server link.config) link.before link.act link.out link.after
      → IsChain server (first_state first) history link.before
      → EndsInTime server history link
  link_ends server first link history step chain =
      record {
        others = all_from_in _ link.after.requests (λ r there is. other r there is);
        invites = all_from_in _ link.after.requests (λ r there is. invite r there is);
      } where
        whole : IsChain server (first_state first) (link ∷ history) link.after
        whole = (refl, step, chain)

        ends : (r : OpenRequest) → Contains link.after.requests r → IsBefore link.act (origin_of server (link ∷ history) r + whole_time (is_invite r)) link.after.moment
        ends r there =
            before_end link.act link.after r (origin_of server (link ∷ history) r + whole_time (is_invite r)) (none_before server first (link ∷ history) link.after whole)
            (have_fired server first (link ∷ history) link.after whole).0 there (all_contains CanEnd link.after.requests r
            (can_end server first (link ∷ history) link.after whole) there)
            (deadlines_in_time (is_invite r) (origin_of server (link ∷ history) r) r (all_contains (IsEnding server (link ∷ history)) link.after.requests r
            (chain_ending server first (link ∷ history) link.after whole) there))

        by_method : (i : Bool) (r : OpenRequest) → is_invite r ≡ i → Contains link.after.requests r
            → IsBefore link.act (origin_by server (link ∷ history) i r.arrived_at r.number + whole_time i) link.after.moment
        by_method i r is there = subst (λ (t : Bool). IsBefore link.act (origin_by server (link ∷ history) t r.arrived_at r.number + whole_time t) link.after.moment) is
            (ends r there)

        other : (r : OpenRequest) → Contains link.after.requests r → is_invite r ≡ false → IsBefore link.act (r.arrived_at + 64000) link.after.moment
        other r there is = by_method false r is there

        invite : (r : OpenRequest) → Contains link.after.requests r → is_invite r ≡ true
            → IsBefore link.act (max r.arrived_at (heard_last server r.number (link ∷ history)) + 254000) link.after.moment
        invite r there is = by_method true r is there

  -- so does each of a history
  pub chain_ends_in_time : (server : Server) (first : ℕ) (history : List Link) (last : ProxyState) → IsChain server (first_state first) history last
      → EndInTime server history
  chain_ends_in_time server first [] last chain = tt
  chain_ends_in_time server first (link ∷ history) last chain = (
    link_ends server first link history chain.1 chain.2,
    chain_ends_in_time server first history link.before chain.2,
  )
