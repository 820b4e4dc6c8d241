-- Which packets of an effect are branches' requests.
use Rattle.std.proofs.Common.{◌≡◌, ℕ, ◌+◌, ◌≤◌, List, [], ◌∷◌, cond, Bool, true, false, refl, ◌∙◌, ap, Option, Some, None, arith, map}
use Rattle.std.specs.Prelude.{◌++◌, ◌==◌, not, filter}
use Rattle.std.specs.Option.{option_map_or}
use Rattle.std.specs.List.{flat_map}
use Rattle.std.proofs.lemmas.List.Elements.{filter-append}
use Rattle.sip_message_form.specs.Text.{text_of}
use Rattle.sip_uri.specs.declared.addr.Addr.{Addr}
use Rattle.sip_targets.specs.declared.target.Target.{Target}
use Rattle.sip_audit.specs.declared.record.Record.{Record}
use Rattle.sip_event.specs.declared.packet.Packet.{Packet}
use Rattle.model_steps.specs.state.declared.server.Server.{Server}
use Rattle.model_steps.specs.state.declared.proxy_state.ProxyState.{ProxyState}
use Rattle.model_steps.specs.state.declared.open_request.OpenRequest.{OpenRequest}
use Rattle.model_steps.specs.context_model.Sending.{branch_packets, sent_of}
use Rattle.model_steps.specs.state.declared.open_request.Upward.{Upward}
use Rattle.model_steps.specs.context_model.Branches.{Change, best_upward, is_cancellable, cancel_branch, new_cancels, after_upward, settled}
use Rattle.model_steps.specs.context_model.Opening.{branch_to, branches_from, trying, tried}
use Rattle.model_steps.specs.Effect.{upward_packets, change_packets, forked}

-- whether a packet is a branch's request
abbrev pub is_of_branch : Packet → Bool
is_of_branch p = not (p.ticket.branch == 0)

-- those of some packets
abbrev pub of_branches : List Packet → List Packet
of_branches packets = filter is_of_branch packets

-- ---- answers

-- no answer to the caller is one
none_upward : (r : OpenRequest) (upward : List Upward) → of_branches (upward_packets r upward) ≡ []
none_upward r [] = refl
none_upward r (u ∷ us) = none_upward r us

-- ---- requests

-- a number above 0 isn't 0
is_positive : (n : ℕ) → 1 ≤ n → not (n == 0) ≡ true
is_positive n h = grind arith

-- a packet for a branch of a number above 0 is one
kept_packet : (p : Packet) (packets : List Packet) → is_of_branch p ≡ true → of_branches (p ∷ packets) ≡ p ∷ of_branches packets
kept_packet p packets h = ap (λ b. cond b (p ∷ of_branches packets) (of_branches packets)) h

-- where a branch of a number above 0 has an address, what goes there is kept in front of the others; where it has none there is nothing
kept_at : (datagram number : ℕ) (bytes : List ℕ) (address : Option Addr) (packets : List Packet) → 1 ≤ number
    → of_branches (option_map_or (λ to. record { to = to; bytes = bytes; ticket = record { datagram = datagram; branch = number }; again = false } ∷ []) address []
    ++ packets)
    ≡ option_map_or (λ to. record { to = to; bytes = bytes; ticket = record { datagram = datagram; branch = number }; again = false } ∷ []) address []
    ++ of_branches packets
kept_at datagram number bytes None packets h = refl
kept_at datagram number bytes (Some to) packets h =
    kept_packet (record { to = to; bytes = bytes; ticket = record { datagram = datagram; branch = number }; again = false }) packets (is_positive number h)

-- all requests to targets are some, since their branches are numbered from 1
pub all_kept : (server : Server) (r : OpenRequest) (now number : ℕ) (targets : List Target) → 1 ≤ number
    → of_branches (flat_map (branch_packets server false r) (branches_from now number targets))
    ≡ flat_map (branch_packets server false r) (branches_from now number targets)
all_kept server r now number [] h = refl
all_kept server r now number (t ∷ ts) h =
    kept_at r.number number (text_of (sent_of server r (branch_to now number t))) t.address (flat_map (branch_packets server false r) (branches_from now (number + 1) ts))
    h
    ∙ ap (λ packets. branch_packets server false r (branch_to now number t) ++ packets) (all_kept server r now (number + 1) ts (omega arith))

-- ---- CANCELs

-- no branch that was just made is to be cancelled
pub none_cancellable : (now number : ℕ) (targets : List Target) → filter is_cancellable (branches_from now number targets) ≡ []
none_cancellable now number [] = refl
none_cancellable now number (t ∷ ts) = none_cancellable now (number + 1) ts

-- an answer to the caller leaves the branches
upward_branches : (now : ℕ) (told : Option Upward) (r : OpenRequest) → (after_upward now told r).branches ≡ r.branches
upward_branches now None r = refl
upward_branches now (Some u) r = refl

-- so do several answers
pub tried_branches : (now : ℕ) (upward : List Upward) (r : OpenRequest) → (tried now upward r).branches ≡ r.branches
tried_branches now [] r = refl
tried_branches now (u ∷ us) r = tried_branches now us _

-- without a branch that is to be cancelled there is no new CANCEL
none_cancelled : (now : ℕ) (r : OpenRequest) → filter is_cancellable r.branches ≡ [] → new_cancels now r ≡ []
none_cancelled now r h = ap (λ branches. map (cancel_branch now) branches) h

-- ---- a request that is sent on

-- what follows the sending of it holds no branch's request
settled_sends : (server : Server) (now : ℕ) (r : OpenRequest) → filter is_cancellable r.branches ≡ [] → of_branches (change_packets (settled server now [] None r)) ≡ []
settled_sends server now r h =
    let best : Option Upward = best_upward server r in
    let after : OpenRequest = after_upward now best r in
    let change : Change = settled server now [] None r in
    filter-append is_of_branch (upward_packets change.request change.upward) change.cancels
    ∙ ap (λ packets. packets ++ of_branches change.cancels) (none_upward change.request change.upward)
    ∙ ap (λ branches. of_branches (flat_map (branch_packets server false after) branches))
    (none_cancelled now after (ap (λ branches. filter is_cancellable branches) (upward_branches now best r) ∙ h))

-- of all that is sent, the requests to its branches alone are branches' requests
pub forked_sends : (server : Server) (now : ℕ) (r : OpenRequest) (records : List Record) (state : ProxyState) → filter is_cancellable r.branches ≡ []
    → of_branches (forked server now r records state).originals ≡ of_branches (flat_map (branch_packets server false r) r.branches)
forked_sends server now r records state h =
    let told : OpenRequest = tried now (trying server r) r in
    let change : Change = settled server now [] None told in
    let requests : List Packet = flat_map (branch_packets server false r) r.branches in
    let others : List Packet = upward_packets r (trying server r) ++ change_packets change in
    filter-append is_of_branch others requests
    ∙ ap (λ packets. packets ++ of_branches requests) (
    filter-append is_of_branch (upward_packets r (trying server r)) (change_packets change)
    ∙ ap (λ packets. packets ++ of_branches (change_packets change)) (none_upward r (trying server r))
    ∙ settled_sends server now told (ap (λ branches. filter is_cancellable branches) (tried_branches now (trying server r) r) ∙ h)
    )
