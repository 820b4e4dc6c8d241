-- What a datagram gets is all sent for the first time; so where no request is open, nothing goes beside it.
use Rattle.std.proofs.Common.{◌≡◌, ℕ, Bool, true, false, cond, not, if◌then◌else◌, List, [], ◌∷◌, ◌++◌, drop, flat_map, Option, Some, None, refl, sym, ap, ◌∙◌, subst}
use Rattle.std.proofs.Common.{true≢false}
use Rattle.std.specs.List.{AllByRecursion, list_any}
use Rattle.std.specs.Option.{option_map_or}
use Rattle.sip_message_form.specs.declared.message.Message.{Message}
use Rattle.sip_message_form.specs.Text.{text_of}
use Rattle.sip_uri.specs.declared.addr.Addr.{Addr}
use Rattle.sip_targets.specs.declared.targets.Targets.{Targets}
use Rattle.sip_targets.specs.Targets.{target_list}
use Rattle.sip_event.specs.declared.packet.Packet.{Packet}
use Rattle.sip_event.specs.declared.event.Event.TheVariants.{Datagram, Time, Fault}
use Rattle.sip_model.specs.state.declared.server.Server.{Server}
use Rattle.sip_model.specs.state.declared.branch.Branch.{Branch}
use Rattle.sip_model.specs.state.declared.open_request.OpenRequest.{OpenRequest}
use Rattle.sip_model.specs.state.declared.proxy_state.ProxyState.{ProxyState}
use Rattle.sip_model.specs.state.Arrival.{Arrival}
use Rattle.sip_model.specs.state.State.{is_invite}
use Rattle.sip_model.specs.verdict_model.Verdict.{Bound, Refused, Verdict, Drop, Respond, Copy, AckOn, Cancel, Answer, InDialog, Challenge, Deny, Send, Register}
use Rattle.sip_model.specs.verdict_model.Verdict.{verdict_of}
use Rattle.sip_model.specs.context_model.Opening.{arriving, branches_from, dialog_branch}
use Rattle.sip_model.specs.context_model.Sending.{to_branch, branch_packets, ticket_branch, sent_of}
use Rattle.sip_model.specs.steps_model.Step.{Act, Given, Passing, originals, arrival_of}
use Rattle.sip_model.specs.Run.{Link, under}
use Rattle.sip_model.specs.Access.{has_address, answer_alone, answer_at_once, sent_to_branches, sent_at_once, sent_for, Access}
use Rattle.model_laws.proofs.Refused.{some_is_not_none, sends_alone, IsIdle}
use Rattle.sip_model.proofs.Lists.{all_append, all_every, all_flat_map}

-- a packet is sent for the first time
abbrev pub IsFirst : Packet → Type 0
IsFirst p = p.again ≡ false

-- a message to a branch
to_branch_first : (r : OpenRequest) (b : Branch) (target : ℕ) (m : Message) → AllByRecursion IsFirst (to_branch r b target false m)
to_branch_first r b target m = by_address b.address where
  by_address : (address : Option Addr)
      → AllByRecursion IsFirst (option_map_or (λ to. record { to = to; bytes = text_of m; ticket = record { datagram = r.number; branch = target }; again = false } ∷ [])
      address [])
  by_address None = tt
  by_address (Some to) = (refl, tt)

module _ (server : Server) (a : Arrival) (m : Message) where
  -- what goes at once with a request to its branches
  at_once_first : (branches : List Branch) → AllByRecursion IsFirst (answer_at_once server a m branches)
  at_once_first branches = by_tests (not (list_any has_address branches)) (is_invite (arriving a m)) where
    by_tests : (t u : Bool) → AllByRecursion IsFirst (if t then answer_alone server a m 500 [] else if u then answer_alone server a m 100 [] else [])
    by_tests true u = (refl, tt)
    by_tests false true = (refl, tt)
    by_tests false false = tt

  -- a request that goes to its branches
  to_branches_first : (branches : List Branch) → AllByRecursion IsFirst (sent_to_branches server a m branches)
  to_branches_first branches =
      all_append IsFirst (answer_at_once server a m branches) (flat_map (branch_packets server false (arriving a m)) branches) (at_once_first branches)
      (all_flat_map IsFirst (branch_packets server false (arriving a m)) branches
      (all_every (λ (b : Branch). AllByRecursion IsFirst (branch_packets server false (arriving a m) b))
      (λ b. to_branch_first (arriving a m) b (ticket_branch b) (sent_of server (arriving a m) b)) branches))

  -- by each verdict
  by_verdict : (verdict : Verdict) → AllByRecursion IsFirst (sent_at_once server a m verdict)
  by_verdict Drop = tt
  by_verdict (Respond r b status) = tt
  by_verdict (Copy r) = tt
  by_verdict (AckOn address id) = (refl, tt)
  by_verdict (Cancel None) = (refl, tt)
  by_verdict (Cancel (Some r)) = (refl, tt)
  by_verdict (Answer status extras) = (refl, tt)
  by_verdict (InDialog address id) = to_branches_first (dialog_branch server a.now m address ∷ [])
  by_verdict (Challenge q) = (refl, tt)
  by_verdict (Deny q id) = (refl, tt)
  by_verdict (Send q id Targets.NotFound) = (refl, tt)
  by_verdict (Send q id Targets.Unavailable) = (refl, tt)
  by_verdict (Send q id (Targets.Bindings targets)) = to_branches_first (branches_from a.now 1 (target_list (Targets.Bindings targets)))
  by_verdict (Send q id (Targets.Hop uri address)) = to_branches_first (branches_from a.now 1 (target_list (Targets.Hop uri address)))
  by_verdict (Register q id (Bound rows)) = (refl, tt)
  by_verdict (Register q id (Refused status extras)) = (refl, tt)

-- what a step sends at once
pub sent_first_only : (server : Server) (state : ProxyState) (act : Act) → AllByRecursion IsFirst (sent_for server state act)
sent_first_only server state (Given (Datagram at word from bytes)) = by_found (verdict_of server state (arrival_of state at word from) bytes) where
  by_found : (found : Option (Message × Verdict)) → AllByRecursion IsFirst (option_map_or (λ x. sent_at_once server (arrival_of state at word from) x.0 x.1) found [])
  by_found None = tt
  by_found (Some x) = by_verdict server (arrival_of state at word from) x.0 x.1
sent_first_only server state (Given (Time at)) = tt
sent_first_only server state (Given (Fault at ticket)) = tt
sent_first_only server state (Passing at) = tt

-- packets that are all sent for the first time are all originals
pub firsts_are_originals : (packets : List Packet) → AllByRecursion IsFirst packets → originals packets ≡ packets
firsts_are_originals [] a = refl
firsts_are_originals (p ∷ ps) a = by_test p.again a.0 (firsts_are_originals ps a.1) where
  by_test : (t : Bool) → t ≡ false → originals ps ≡ ps → cond (not t) (p ∷ originals ps) (originals ps) ≡ p ∷ ps
  by_test true e rest = absurd (true≢false e)
  by_test false e rest = ap (λ (l : List Packet). p ∷ l) rest

-- a list isn't longer than itself
pub no_longer : {X : Type 0} (xs : List X) (x : X) → (xs ++ x ∷ []) ≡ xs → ⊥
no_longer [] x e = some_is_not_none x [] e
no_longer {X} (y ∷ xs) x e = no_longer xs x (ap (λ (l : List X). drop 1 l) e)

-- Where no request is open, a step sends for the first time what its datagram gets.
pub none_open : (server : Server) (earlier : List Link) (link : Link) → link.before.requests ≡ [] → Access server (link ∷ earlier)
    → originals link.out.packets ≡ sent_for (under server link.config) link.before link.act
none_open server earlier link none access =
    sends_alone (under server link.config) (link ∷ earlier) link.before link.act link.out.at
    (subst (λ (rs : List OpenRequest). AllByRecursion (IsIdle (under server link.config) (link ∷ earlier) link.before link.act link.out.at) rs) (sym none) tt)
    (originals link.out.packets) access.0.sent

-- so nothing goes beside that
pub nothing_beside : (server : Server) (earlier : List Link) (link : Link) (p : Packet) → p.again ≡ false → link.before.requests ≡ []
    → link.out.packets ≡ sent_for (under server link.config) link.before link.act ++ p ∷ [] → Access server (link ∷ earlier) → ⊥
nothing_beside server earlier link p first none packets access =
    let gets : List Packet = sent_for (under server link.config) link.before link.act in
    let all : originals (gets ++ p ∷ []) ≡ gets ++ p ∷ [] = firsts_are_originals (gets ++ p ∷ [])
    (all_append IsFirst gets (p ∷ []) (sent_first_only (under server link.config) link.before link.act) (first, tt)) in
    no_longer gets p (sym all ∙ ap originals (sym packets) ∙ none_open server earlier link none access)
