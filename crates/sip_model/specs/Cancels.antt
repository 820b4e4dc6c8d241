-- How often a CANCEL of this server goes out: once for the first time, and again until its final response comes (RFC 3261 9.1, 17.1.2.2).
use Rattle.std.specs.Prelude.{◌≡◌, ◌≤◌, ℕ, nat_eq, ◌+◌, ◌*◌, ◌==◌, ◌&&◌, Bool, true, false, List, [], ◌∷◌, count_by, codes, Contains}
use Rattle.std.specs.List.{starts_with}
use Rattle.std.specs.Str.{bytes_eq}
use Rattle.sip_edit.specs.OwnRequests.{cancel_of}
use Rattle.sip_dialog.specs.Addresses.{is_same_addr}
use Rattle.sip_event.specs.declared.packet.Packet.{Packet}
use Rattle.model_steps.specs.state.declared.server.Server.{Server}
use Rattle.model_steps.specs.state.declared.branch.Branch.{Branch}
use Rattle.model_steps.specs.state.declared.open_request.OpenRequest.{OpenRequest}
use Rattle.model_steps.specs.context_model.Sending.{request_of, to_branch}
use Rattle.model_steps.specs.Step.{originals}
use Rattle.sip_model.specs.Run.{Link}
use Rattle.sip_model.specs.Lives.{sent_first}

-- bytes begin as a CANCEL does: with its method and a space (RFC 3261 7.1)
abbrev pub begins_cancel : List ℕ → Bool
begins_cancel bytes = starts_with nat_eq bytes (codes "CANCEL ")

-- whether another packet says the same: the same bytes to the same address, with the same ticket, for the first time or again
abbrev pub says_same : Packet → Packet → Bool
says_same p q = is_same_addr q.to p.to && bytes_eq q.bytes p.bytes && q.ticket.datagram == p.ticket.datagram && q.ticket.branch == p.ticket.branch

-- how often a history hands out what says the same as a packet, first sendings and copies alike
abbrev pub handed_out : Packet → List Link → ℕ
handed_out p [] = 0
handed_out p (link ∷ history) = count_by (says_same p) link.out.packets + handed_out p history

-- how often of these for the first time
abbrev pub first_sendings : Packet → List Link → ℕ
first_sendings p [] = 0
first_sendings p (link ∷ history) = count_by (says_same p) (originals link.out.packets) + first_sendings p history

-- a packet is a CANCEL of this server: its ticket names no branch, and it begins as a CANCEL; answers and ACKs, whose tickets name
-- none either, begin otherwise
pub record IsOwnCancel (p : Packet) : Type 0 where
  pub no_branch : p.ticket.branch ≡ 0
  pub begins : begins_cancel p.bytes ≡ true

-- A CANCEL of this server goes out at most eleven times for each time it is sent first: at most ten copies follow (RFC 3261 9.1,
-- 17.1.2.2: Timers E and F).
abbrev pub GoOutElevenTimes : List Link → Type 0
GoOutElevenTimes history = (p : Packet) → IsOwnCancel p → handed_out p history ≤ 11 * first_sendings p history

-- ---- once for each branch

-- the name of a branch in a history: the number of the datagram that brought its request, and its own
abbrev pub BranchName : Type 0
BranchName = ℕ × ℕ

-- whether a name is this one
abbrev pub is_named : BranchName → BranchName → Bool
is_named name x = x.0 == name.0 && x.1 == name.1

-- whether a packet is a CANCEL of this server (`IsOwnCancel`)
abbrev pub is_own_cancel : Packet → Bool
is_own_cancel p = p.ticket.branch == 0 && begins_cancel p.bytes

-- A packet that a step of a history sends for the first time is the CANCEL of the branch of a name: of the branch of that number to a
-- target of the request of that number, as they were open before the step.
pub record IsCancelOf (server : Server) (history : List Link) (name : BranchName) (p : Packet) : Type 0 where
  pub link : Link
  pub request : OpenRequest
  pub branch : Branch
  pub is_there : Contains history link
  pub is_sent : Contains (originals link.out.packets) p
  pub is_open : Contains link.before.requests request
  pub is_inside : Contains request.branches branch
  pub is_target : branch.is_cancel ≡ false
  pub is_request : request.number ≡ name.0
  pub is_branch : branch.number ≡ name.1
  pub is_its : Contains (to_branch request branch 0 false (cancel_of (request_of server request branch))) p

-- Of some packets those that are CANCELs of this server are the CANCELs of the branches of these names, in their order.
pub data AreCancelsOf (server : Server) (history : List Link) : List BranchName → List Packet → Type 0 where
  NoMore : AreCancelsOf server history [] []
  Another : (names : List BranchName) (p : Packet) (packets : List Packet) → is_own_cancel p ≡ false
      → AreCancelsOf server history names packets → AreCancelsOf server history names (p ∷ packets)
  OneMore : (name : BranchName) (names : List BranchName) (p : Packet) (packets : List Packet) → IsCancelOf server history name p
      → AreCancelsOf server history names packets → AreCancelsOf server history (name ∷ names) (p ∷ packets)

-- The CANCELs that a history sends for the first time are those of branches, each of another one: no branch is sent a second (RFC
-- 3261 9.1).
pub record HasOneCancelEach (server : Server) (history : List Link) : Type 0 where
  pub names : List BranchName
  pub are_all : AreCancelsOf server history names (sent_first history)
  pub differ : (name : BranchName) → count_by (is_named name) names ≤ 1
