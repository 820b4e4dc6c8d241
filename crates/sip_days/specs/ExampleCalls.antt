-- A day with two calls: one is answered, and its caller hangs up; one is busy.
use Rattle.std.specs.Prelude.{ℕ, List, [], ◌∷◌, ◌++◌, codes, Option, None, Some, false, true, Bool}
use Rattle.sip_audit.specs.declared.record.Record.{Record}
use Rattle.sip_audit.specs.declared.record.AuditOperation.TheVariants as AuditOperation
use Rattle.sip_audit.specs.declared.record.AuditOutcome.TheVariants.{Sent}
use Rattle.sip_uri.specs.declared.addr.Addr.{Addr}
use Rattle.sip_event.specs.declared.packet.Packet.{Packet}
use Rattle.sip_event.specs.declared.event.Event.{Event}
use Rattle.sip_event.specs.declared.event.Event.TheVariants.{Datagram}
use Rattle.sip_event.specs.declared.event.StepOut.{StepOut}
use Rattle.sip_config_types.specs.declared.config.Config.{Config}
use Rattle.sip_listener.specs.Heard.{Heard, heard_as}

-- 192.0.2.N, port 5060
abbrev pub phone : ℕ → Addr
phone n = record { ip = 192 ∷ 0 ∷ 2 ∷ n ∷ []; port = 5060 }

-- what is recorded of an INVITE of carol's to ivan that rule 30 lets through to one target
abbrev pub call_let_through : ℕ → ℕ → Record
call_let_through at number = record {
  at = at;
  number = number;
  method = codes "INVITE";
  who = Some (codes "carol");
  target = record { user = codes "ivan"; host = codes "office.example" };
  operation = AuditOperation.Send;
  minute = None;
  outcome = Sent 30 1;
}

-- a datagram from a phone
abbrev pub comes : ℕ → ℕ → List ℕ → Option Event
comes at n bytes = Some (Datagram at 0 (phone n) bytes)

-- a packet to a phone, of a branch of a request
abbrev pub goes : ℕ → ℕ → ℕ → Bool → List ℕ → Packet
goes n number branch again bytes = record { to = phone n; bytes = bytes; ticket = record { datagram = number; branch = branch }; again = again }

abbrev pub step_out : ℕ → List Packet → List Record → StepOut
step_out at packets records = record { at = at; packets = packets; records = records }

-- the fields that name the dialog of a call, from carol or back, and the method of its CSeq
abbrev pub from_carol : List ℕ → List ℕ → List ℕ
from_carol call_id method =
    codes "From: <sip:carol@office.example>;tag=c1\r\nTo: <sip:ivan@office.example>;tag=i1\r\nCall-ID: " ++ call_id ++ codes "\r\nCSeq: 1 " ++ method ++ codes
    "\r\n\r\n"

abbrev pub from_ivan : List ℕ → List ℕ → List ℕ
from_ivan call_id method =
    codes "From: <sip:ivan@office.example>;tag=i1\r\nTo: <sip:carol@office.example>;tag=c1\r\nCall-ID: " ++ call_id ++ codes "\r\nCSeq: 1 " ++ method ++ codes
    "\r\n\r\n"

abbrev pub answer_text : List ℕ → List ℕ → List ℕ
answer_text status call_id = codes "SIP/2.0 " ++ status ++ codes "\r\n" ++ from_carol call_id (codes "INVITE")

abbrev pub bye_text : List ℕ → List ℕ
bye_text fields = codes "BYE sip:ivan@192.0.2.8 SIP/2.0\r\n" ++ fields

-- carol calls ivan, who answers after 8 seconds; a copy of the answer goes out; a BYE of another call comes by; then one of this call
abbrev pub answered_day : Config → List ℕ → List Heard
answered_day config bye =
    heard_as config (comes 1000 2 []) (step_out 1000 (goes 8 7 1 false (codes "INVITE") ∷ []) (call_let_through 1000 7 ∷ []))
    ∷ heard_as config (comes 9000 8 []) (step_out 9000 (goes 2 7 0 false (answer_text (codes "200 OK") (codes "x")) ∷ []) [])
    ∷ heard_as config None (step_out 9500 (goes 2 7 0 true (answer_text (codes "200 OK") (codes "x")) ∷ []) [])
    ∷ heard_as config (comes 20000 8 (bye_text (from_ivan (codes "y") (codes "BYE")))) (step_out 20000 (goes 2 11 1 false (codes "BYE") ∷ []) [])
    ∷ heard_as config (comes 60000 2 bye) (step_out 60000 (goes 8 12 1 false (codes "BYE") ∷ []) [])
    ∷ []

-- the callee is busy
abbrev pub busy_day : Config → List Heard
busy_day config =
    heard_as config (comes 1000 2 []) (step_out 1000 (goes 8 7 1 false (codes "INVITE") ∷ []) (call_let_through 1000 7 ∷ []))
    ∷ heard_as config (comes 3000 8 []) (step_out 3000 (goes 2 7 0 false (answer_text (codes "486 Busy Here") (codes "x")) ∷ []) [])
    ∷ []
