-- The final answers that a history sends to the caller of a request, counted in packets, by their bytes (RFC 3261 7.2, 16.7, 17.2).
use Rattle.std.specs.Prelude.{◌≡◌, ◌≤◌, ◌⊎◌, ℕ, ◌+◌, nat_eq, ◌==◌, ◌&&◌, Bool, true, false, not, if◌then◌else◌, List, [], ◌∷◌, length}
use Rattle.std.specs.Prelude.{filter, find, count_by, codes, Option, None}
use Rattle.std.specs.Option.{option_and_then, option_map_or}
use Rattle.std.specs.List.{starts_with, AllByRecursion}
use Rattle.std.specs.Str.{bytes_eq}
use Rattle.sip_message_form.specs.declared.message.Message.{Message}
use Rattle.sip_message.specs.Reading.{reading_of}
use Rattle.sip_transaction_table.specs.Key.{key_of}
use Rattle.sip_event.specs.declared.packet.Packet.{Packet}
use Rattle.sip_event.specs.declared.event.Event.TheVariants.{Datagram, Time, Fault}
use Rattle.model_steps.specs.state.declared.open_request.OpenRequest.{OpenRequest}
use Rattle.model_steps.specs.state.declared.proxy_state.ProxyState.{ProxyState}
use Rattle.model_steps.specs.state.State.{has_key}
use Rattle.model_steps.specs.Effect.{method_of}
use Rattle.model_steps.specs.verdict_model.Verdict.{message_in}
use Rattle.sip_model.specs.Order.{is_numbered}
use Rattle.model_steps.specs.Step.{Act, Given, Passing, retransmissions}
use Rattle.sip_model.specs.Run.{Link}
use Rattle.sip_model.specs.Lives.{sent_first}
use Rattle.sip_model.specs.Invites.{WasInvite}

-- ---- what bytes begin with

-- Bytes begin as a final answer does: with `SIP/2.0`, a space, and a status whose first digit isn't 1. A request begins with its
-- method (RFC 3261 7.1, 7.2).
abbrev pub begins_final : List ℕ → Bool
begins_final bytes = starts_with nat_eq bytes (codes "SIP/2.0 ") && not (starts_with nat_eq bytes (codes "SIP/2.0 1"))

-- bytes begin as a 2xx does
abbrev pub begins_success : List ℕ → Bool
begins_success bytes = starts_with nat_eq bytes (codes "SIP/2.0 2")

-- ---- final answers

-- Whether a packet is a final answer to the caller of the request that the datagram of a number brought. What goes to a target has a
-- branch of its own on its ticket, and
-- the ACKs and CANCELs of this server, which have none, begin with their methods.
abbrev pub is_final_to : ℕ → Packet → Bool
is_final_to number p = p.ticket.datagram == number && p.ticket.branch == 0 && begins_final p.bytes

-- those that a history sent for the first time, the newest step's first
abbrev pub final_answers : ℕ → List Link → List Packet
final_answers number history = filter (is_final_to number) (sent_first history)

-- ---- the bound

-- a caller was sent at most one final answer, or several 2xx to an INVITE (RFC 3261 16.7 step 5)
abbrev pub IsAnsweredOnce : ℕ → List Link → Type 0
IsAnsweredOnce number history =
    (length (final_answers number history) ≤ 1) ⊎ (WasInvite number history
    × AllByRecursion (λ (p : Packet). begins_success p.bytes ≡ true) (final_answers number history))

-- ---- how often they go again

-- how many final answers to a caller a history hands out again
abbrev pub finals_again : ℕ → List Link → ℕ
finals_again number [] = 0
finals_again number (link ∷ history) = count_by (is_final_to number) (retransmissions link.out.packets) + finals_again number history

-- the open request that a message is a copy of: it has that request's key, and is no ACK (RFC 3261 17.2.3)
abbrev pub copied_by : List OpenRequest → Message → Option OpenRequest
copied_by requests m = if bytes_eq (method_of m.start) (codes "ACK") then None else option_and_then (λ key. find (has_key key) requests) (key_of m)

-- whether a step is taken for a copy of the request of a number
abbrev pub is_copy_at : ℕ → ProxyState → Act → Bool
is_copy_at number state (Given (Datagram at word from bytes)) =
    option_map_or (is_numbered number) (option_and_then (λ said. copied_by state.requests said.0) (message_in (reading_of bytes))) false
is_copy_at number state (Given (Time at)) = false
is_copy_at number state (Given (Fault at ticket)) = false
is_copy_at number state (Passing at) = false

-- how many copies of the request of a number came
abbrev pub copies_came : ℕ → List Link → ℕ
copies_came number [] = 0
copies_came number (link ∷ history) = (if is_copy_at number link.before link.act then 1 else 0) + copies_came number history

-- Final answers went again no more often than copies of their request came, and to an INVITE ten times more: by Timer G (RFC 3261 17.2.1, 17.2.2).
abbrev pub AnswersGoAgain : ℕ → List Link → Type 0
AnswersGoAgain number history =
    (finals_again number history ≤ copies_came number history)
    ⊎ (WasInvite number history × (finals_again number history ≤ 10 + copies_came number history))
