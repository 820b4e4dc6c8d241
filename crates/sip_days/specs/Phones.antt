-- The addresses of record that were registered on a day, as the steps say that are told of its record (RFC 3261 10.3).
use Rattle.std.specs.Prelude.{◌≡◌, ℤ, ◌==◌, Bool, true, false, ◌&&◌, if◌then◌else◌, List, [], ◌∷◌, Option, None, Some}
use Rattle.sip_uri.specs.declared.addr.Addr.{Addr}
use Rattle.sip_uri.specs.declared.aor.Aor.{Aor}
use Rattle.sip_uri.specs.Aor.{is_same_aor}
use Rattle.sip_audit.specs.declared.record.AuditOperation.{AuditOperation}
use Rattle.sip_audit.specs.declared.record.AuditOperation.TheVariants as operations
use Rattle.sip_audit.specs.declared.record.AuditOutcome.{AuditOutcome}
use Rattle.sip_audit.specs.declared.record.AuditOutcome.TheVariants as outcomes
use Rattle.sip_audit.specs.declared.record.Record.{Record}
use Rattle.sip_event.specs.declared.event.Event.{Event}
use Rattle.sip_event.specs.declared.event.Event.TheVariants.{Datagram, Time, Fault}
use Rattle.sip_listener.specs.Heard.{Heard}
use Rattle.sip_days.specs.declared.registered.Registered.{Registered}

-- a REGISTER with a Contact
abbrev pub is_register : AuditOperation → Bool
is_register operations.Register = true
is_register operations.List = false
is_register operations.Send = false

-- a request that was answered with 200
abbrev pub is_done : AuditOutcome → Bool
is_done (outcomes.Challenge status) = false
is_done (outcomes.Deny rule) = false
is_done (outcomes.Sent rule targets) = false
is_done (outcomes.Answer rule status) = status == 200

-- what is recorded of a REGISTER that was let through, and done
abbrev pub is_registered : Record → Bool
is_registered r = is_register r.operation && is_done r.outcome

-- where the datagram of a step came from
abbrev pub source_in : Option Event → Option Addr
source_in None = None
source_in (Some (Datagram at word from bytes)) = Some from
source_in (Some (Time at)) = None
source_in (Some (Fault at ticket)) = None

-- ---- addresses

abbrev pub registered_by : ℤ → Option Event → Record → Registered
registered_by offset event r = record { aor = r.target; at = r.at; source = source_in event; offset = offset }

-- what is known of an address of record
abbrev pub is_of : Aor → Registered → Bool
is_of aor row = is_same_aor row.aor aor

-- an address that is registered again keeps its place; a new one goes last
abbrev pub with_registered : Registered → List Registered → List Registered
with_registered new [] = new ∷ []
with_registered new (row ∷ rows) = if is_of new.aor row then new ∷ rows else row ∷ with_registered new rows

abbrev pub if_registered : ℤ → Option Event → Record → List Registered → List Registered
if_registered offset event r rows = if is_registered r then with_registered (registered_by offset event r) rows else rows

-- addresses, and what is recorded at a step
abbrev pub phones_with : ℤ → Option Event → List Record → List Registered → List Registered
phones_with offset event [] rows = rows
phones_with offset event (r ∷ records) rows = phones_with offset event records (if_registered offset event r rows)

-- a list of addresses hears a step
abbrev pub adds_phones : List Registered → Heard → List Registered → Type 0
adds_phones old step new = new ≡ phones_with step.config.offset step.event step.out.records old

-- those of a day, behind others
abbrev pub phones_behind : List Registered → List Heard → List Registered
phones_behind rows [] = rows
phones_behind rows (step ∷ later) = phones_behind (phones_with step.config.offset step.event step.out.records rows) later

-- the addresses that were registered on a day, each with its last REGISTER, in the order of their first ones
abbrev pub phones_of : List Heard → List Registered
phones_of day = phones_behind [] day
