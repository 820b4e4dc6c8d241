-- How steps are printed.
use Rattle.std.specs.Prelude.{ℕ, Bool, true, false, List, ◌++◌, length, decimal, codes}
use Rattle.std.specs.List.{flat_map}
use Rattle.sip_audit.specs.declared.record.Record.{Record}
use Rattle.sip_audit.specs.Lines as Audit
use Rattle.sip_uri.specs.Addresses.{addr_text}
use Rattle.sip_event.specs.declared.packet.Packet.{Packet}
use Rattle.sip_event.specs.declared.event.StepOut.{StepOut}

abbrev pub mark_of : Bool → List ℕ
mark_of true = codes " again"
mark_of false = codes " first"

-- ` D/K first LEN`, or `again`, and LF
abbrev pub tail_text : Packet → List ℕ
tail_text p =
    codes " " ++ decimal p.ticket.datagram ++ codes "/" ++ decimal p.ticket.branch
    ++ mark_of p.again ++ codes " " ++ decimal (length p.bytes) ++ codes "\n"

-- `packet AT IP:PORT D/K first LEN`, or `again`, and LF (this project's profile)
abbrev pub head_text : ℕ → Packet → List ℕ
head_text moment p = codes "packet " ++ decimal moment ++ codes " " ++ addr_text p.to ++ tail_text p

-- the head line, the bytes, and LF
abbrev pub packet_text : ℕ → Packet → List ℕ
packet_text moment p = head_text moment p ++ p.bytes ++ codes "\n"

-- `audit`, a record's line, and LF (this project's profile)
abbrev pub audit_text : Record → List ℕ
audit_text r = codes "audit " ++ Audit.line_of r ++ codes "\n"

-- all packets of a step, in order, then its records
abbrev pub step_text : StepOut → List ℕ
step_text out = flat_map (packet_text out.at) out.packets ++ flat_map audit_text out.records

-- steps, one after the other
abbrev pub printed : List StepOut → List ℕ
printed steps = flat_map step_text steps
