-- The calls of a day, as the steps say that are told of its record.
use Rattle.std.specs.Prelude.{ℕ, ◌&&◌, Bool, false, nat_lt, List, [], ◌∷◌, ◌++◌, map, filter, find, codes, Option, None, Some, option_map, if◌then◌else◌}
use Rattle.std.specs.List.{list_any}
use Rattle.std.specs.Option.{option_and_then}
use Rattle.std.specs.Result.{result_ok}
use Rattle.std.specs.Str.{bytes_eq}
use Rattle.sip_uri.specs.declared.addr.Addr.{Addr}
use Rattle.sip_message_form.specs.declared.message.Start.{Start}
use Rattle.sip_message_form.specs.declared.message.Start.TheVariants.{Request, Status}
use Rattle.sip_message_form.specs.declared.message.Message.{Message}
use Rattle.sip_message.specs.Reading.{reading_of}
use Rattle.sip_header.specs.CoreFields.{core_of}
use Rattle.sip_header.specs.declared.core_fields.CoreFields.{CoreFields}
use Rattle.sip_dialog.specs.declared.dialog.DialogId.{DialogId}
use Rattle.sip_dialog.specs.DialogId.{id_of, is_same_dialog}
use Rattle.sip_audit.specs.declared.record.Record.{Record}
use Rattle.sip_event.specs.declared.packet.Packet.{Packet}
use Rattle.sip_event.specs.declared.event.Event.{Event}
use Rattle.sip_event.specs.declared.event.Event.TheVariants.{Datagram, Time, Fault}
use Rattle.sip_event.specs.declared.event.StepOut.{StepOut}
use Rattle.sip_model.specs.FinalAnswers.{is_final_to}
use Rattle.sip_model.specs.steps_model.Step.{originals}
use Rattle.sip_listener.specs.Heard.{Heard}
use Rattle.sip_days.specs.declared.call.Answer.{Answer}
use Rattle.sip_days.specs.declared.call.Ending.{Ending}
use Rattle.sip_days.specs.declared.call.Call.{Call}

-- ---- what messages say

-- the message that bytes say, if they say a whole one
abbrev pub said : List ℕ → Option Message
said bytes = result_ok (reading_of bytes)

-- the dialog that a message names, if its To has a tag (RFC 3261 12)
abbrev pub dialog_in : Message → Option DialogId
dialog_in m = option_and_then (λ core. id_of core) (result_ok (core_of m))

-- its Call-ID (RFC 3261 8.1.1.4)
abbrev pub call_id_said : Message → Option (List ℕ)
call_id_said m = option_map (λ (core : CoreFields). core.call_id) (result_ok (core_of m))

-- the status of a response
abbrev pub status_in : Start → Option ℕ
status_in (Request method uri version) = None
status_in (Status code reason) = Some code

-- whether a start line is a BYE's
abbrev pub is_bye : Start → Bool
is_bye (Request method uri version) = bytes_eq method (codes "BYE")
is_bye (Status code reason) = false

-- ---- what a step says of a call

-- the answer that bytes say, which were sent at a moment
abbrev pub answer_said : ℕ → Message → Option Answer
answer_said at m = option_map (λ status. record { at = at; status = status; dialog = dialog_in m }) (status_in m.start)

-- The final answer that a step sends for the first time to the caller whose request the datagram of a number brought (RFC 3261 16.7).
abbrev pub answer_at : ℕ → StepOut → Option Answer
answer_at number out =
    option_and_then (λ (p : Packet). option_and_then (answer_said out.at) (said p.bytes)) (find (is_final_to number) (originals out.packets))

-- a packet goes to a target, and not back to who asked
abbrev pub is_to_target : Packet → Bool
is_to_target p = nat_lt 0 p.ticket.branch

-- a step sends something to a target for the first time
abbrev pub goes_on : StepOut → Bool
goes_on out = list_any is_to_target (originals out.packets)

-- the dialog that a BYE names (RFC 3261 15)
abbrev pub bye_said : Message → Option DialogId
bye_said m = if is_bye m.start then dialog_in m else None

-- that which bytes name, where a step sends something on
abbrev pub bye_if : StepOut → List ℕ → Option DialogId
bye_if out bytes = if goes_on out then option_and_then bye_said (said bytes) else None

-- the same of the event of a step
abbrev pub bye_by : StepOut → Option Event → Option DialogId
bye_by out None = None
bye_by out (Some (Datagram at word from bytes)) = bye_if out bytes
bye_by out (Some (Time at)) = None
bye_by out (Some (Fault at ticket)) = None

abbrev pub bye_in : Heard → Option DialogId
bye_in step = bye_by step.out step.event

-- the end that a BYE is to a dialog, if it is one of its own; that is the caller's if its From is the INVITE's
abbrev pub ending_for : DialogId → ℕ → DialogId → Option Ending
ending_for id at other = if is_same_dialog id other then Some (record { at = at; by_caller = bytes_eq id.from_tag other.from_tag }) else None

abbrev pub ending_at : DialogId → Heard → Option Ending
ending_at id step = option_and_then (ending_for id step.out.at) (bye_in step)

-- where the datagram of a step came from
abbrev pub source_in : Option Event → Option Addr
source_in None = None
source_in (Some (Datagram at word from bytes)) = Some from
source_in (Some (Time at)) = None
source_in (Some (Fault at ticket)) = None

-- the Call-ID that it says
abbrev pub call_id_in : Option Event → Option (List ℕ)
call_id_in None = None
call_id_in (Some (Datagram at word from bytes)) = option_and_then call_id_said (said bytes)
call_id_in (Some (Time at)) = None
call_id_in (Some (Fault at ticket)) = None

-- ---- along the steps of a day

-- the first of two, if there is one
abbrev pub first_of : {X : Type 0} → Option X → Option X → Option X
first_of (Some x) other = Some x
first_of None other = other

-- the first final answer to the caller
abbrev pub answer_among : ℕ → List Heard → Option Answer
answer_among number [] = None
answer_among number (step ∷ later) = first_of (answer_at number step.out) (answer_among number later)

-- the steps behind another, if it is the one
abbrev pub behind_if : {X : Type 0} → Option X → List Heard → List Heard → List Heard
behind_if (Some x) later others = later
behind_if None later others = others

-- the steps behind the one that answers
abbrev pub behind_answer : ℕ → List Heard → List Heard
behind_answer number [] = []
behind_answer number (step ∷ later) = behind_if (answer_at number step.out) later (behind_answer number later)

-- the first end of a dialog
abbrev pub ending_among : DialogId → List Heard → Option Ending
ending_among id [] = None
ending_among id (step ∷ later) = first_of (ending_at id step) (ending_among id later)

-- whether a status says that the call was taken (RFC 3261 21.2)
abbrev pub is_taken : ℕ → Bool
is_taken status = nat_lt 199 status && nat_lt status 300

-- how a call ends: where it was taken, by the first BYE of its dialog, behind the answer
abbrev pub ending_with : Bool → Option DialogId → List Heard → Option Ending
ending_with taken dialog later = if taken then option_and_then (λ id. ending_among id later) dialog else None

abbrev pub ending_of : Option Answer → List Heard → Option Ending
ending_of None later = None
ending_of (Some answer) later = ending_with (is_taken answer.status) answer.dialog later

-- ---- calls

-- A call begins with an INVITE of which policy was asked: one that is valid, new and outside a dialog (RFC 3261 16.3, 16.5). That has one
-- record, in its own step.
abbrev pub is_invite : Record → Bool
is_invite r = bytes_eq r.method (codes "INVITE")

-- the call whose record a step makes, as that step and later ones say it; the office's clock is that of the configuration which was in force then
abbrev pub call_of : Heard → List Heard → Record → Call
call_of step later r = record {
  decision = r;
  source = source_in step.event;
  call_id = call_id_in step.event;
  offset = step.config.offset;
  answer = answer_among r.number (step ∷ later);
  ending = ending_of (answer_among r.number (step ∷ later)) (behind_answer r.number (step ∷ later));
}

-- the records of INVITEs that a step makes
abbrev pub invites_in : Heard → List Record
invites_in step = filter is_invite step.out.records

-- the calls of a day, in the order of their INVITEs
abbrev pub calls_of : List Heard → List Call
calls_of [] = []
calls_of (step ∷ later) = map (call_of step later) (invites_in step) ++ calls_of later

-- ---- what the records say

-- the records of INVITEs that the steps of a day make
abbrev pub decisions_of : List Heard → List Record
decisions_of [] = []
decisions_of (step ∷ later) = invites_in step ++ decisions_of later
