-- What the page keeps of a record while its steps are told: how many requests each rule denied, and how many addresses of record had a live binding,
-- from five minutes to five minutes.
use Rattle.std.specs.Prelude.{◌≡◌, ℕ, zero, suc, ◌+◌, ◌-◌, ◌*◌, ◌/◌, nat_lt, max, if◌then◌else◌, List, [], ◌∷◌, ◌++◌, fold, decimal, Option, None, Some}
use Rattle.std.specs.Char.{is_ascii_digit}
use Rattle.std.specs.Option.{option_map_or}
use Rattle.sip_message_fields.specs.declared.field.Field.{Field}
use Rattle.sip_message_fields.specs.declared.field_name.FieldName.TheVariants as Name
use Rattle.sip_message_fields.specs.FieldName.{is_same_name}
use Rattle.sip_message_form.specs.declared.message.Message.{Message}
use Rattle.sip_audit.specs.declared.record.Record.{Record}
use Rattle.sip_audit.specs.declared.record.AuditOutcome.{AuditOutcome}
use Rattle.sip_audit.specs.declared.record.AuditOutcome.TheVariants as outcomes
use Rattle.sip_audit.specs.Lines.{target_text}
use Rattle.sip_event.specs.declared.event.StepOut.{StepOut}
use Rattle.sip_event.specs.declared.packet.Packet.{Packet}
use Rattle.sip_listener.specs.Heard.{Heard}
use Rattle.sip_days.specs.Calls.{said}
use Rattle.sip_days.specs.Phones.{is_registered}
use Rattle.sipd_report.specs.Totals.{capped}
use Rattle.sipd_page_sections.specs.declared.entries.Entry.{Entry}
use Rattle.sipd_page_sections.specs.declared.notes.Notes.{Notes}
use Rattle.sipd_page_sections.specs.Entries.{value_of, with_entry}

-- ---- denials

-- one more that a rule denied; 0 is no rule
abbrev pub denied_entry : ℕ → List Entry → Entry
denied_entry rule rows = record { key = decimal rule; value = capped (value_of (decimal rule) rows + 1) }

abbrev pub denied_more : ℕ → List Entry → List Entry
denied_more rule rows = with_entry (denied_entry rule rows) rows

abbrev pub denied_by : AuditOutcome → List Entry → List Entry
denied_by (outcomes.Challenge status) rows = rows
denied_by (outcomes.Deny rule) rows = denied_more rule rows
denied_by (outcomes.Sent rule targets) rows = rows
denied_by (outcomes.Answer rule status) rows = rows

abbrev pub with_denial : List Entry → Record → List Entry
with_denial rows r = denied_by r.outcome rows

-- ---- bindings

-- a number, and one byte more of the text in which it is the last
abbrev pub with_digit : ℕ → ℕ → ℕ
with_digit n b = if is_ascii_digit b then capped (capped (n * 10) + (b - 48)) else 0

-- the seconds with which the value of a Contact ends, as this server writes it: `<URI>;expires=N` (RFC 3261 10.3 step 8)
abbrev pub seconds_said : List ℕ → ℕ
seconds_said value = fold with_digit 0 value

-- the most seconds of some fields
abbrev pub contact_seconds : Field → ℕ
contact_seconds f = if is_same_name f.name Name.Contact then seconds_said f.value else 0

abbrev pub with_contact : ℕ → Field → ℕ
with_contact n f = max (contact_seconds f) n

abbrev pub longest_in : List Field → ℕ
longest_in fields = fold with_contact 0 fields

-- of what bytes say, and of packets
abbrev pub longest_of : List ℕ → ℕ
longest_of bytes = option_map_or (λ (m : Message). longest_in m.fields) (said bytes) 0

abbrev pub with_packet : ℕ → Packet → ℕ
with_packet n p = max (longest_of p.bytes) n

abbrev pub longest : List Packet → ℕ
longest packets = fold with_packet 0 packets

-- Until when an address of record has a live binding, as the 200 to its REGISTER says: it lists all that the address has. Without one it is over.
abbrev pub lease_of : StepOut → Record → Entry
lease_of out r = record { key = target_text r.target; value = capped (out.at + capped (longest out.packets * 1000)) }

abbrev pub with_lease : StepOut → List Entry → Record → List Entry
with_lease out rows r = if is_registered r then with_entry (lease_of out r) rows else rows

-- ---- how many are live

-- five minutes, in milliseconds
abbrev pub step : ℕ
step = 300000

abbrev pub with_live : ℕ → ℕ → Entry → ℕ
with_live at n row = if nat_lt at row.value then capped (n + 1) else n

-- how many addresses have a live binding at a moment
abbrev pub live_at : ℕ → List Entry → ℕ
live_at at rows = fold (with_live at) 0 rows

-- at so many moments, five minutes from one to the next
abbrev pub look_at : List Entry → ℕ → ℕ → ℕ
look_at rows first n = live_at (capped (capped (first + n) * step)) rows

abbrev pub looked : List Entry → ℕ → ℕ → List ℕ
looked rows first zero = []
looked rows first (suc n) = looked rows first n ++ look_at rows first n ∷ []

-- at each that is later than the last step, and not later than this one
abbrev pub looks : List Entry → Option ℕ → ℕ → List ℕ
looks rows None at = []
looks rows (Some last) at = looked rows (last / step + 1) (at / step - last / step)

-- ---- a step

pub record AddsNotes (old : Notes) (out : StepOut) (new : Notes) : Type 0 where
  pub denied : new.denied ≡ fold with_denial old.denied out.records
  pub live : new.live ≡ old.live ++ looks old.leases old.at out.at
  pub leases : new.leases ≡ fold (with_lease out) old.leases out.records
  pub at : new.at ≡ Some out.at

-- it hears a step
abbrev pub hears_notes : Notes → Heard → Notes → Type 0
hears_notes old step new = AddsNotes old step.out new

-- nothing is kept of a record yet
pub record AreFresh (notes : Notes) : Type 0 where
  pub undenied : notes.denied ≡ []
  pub unleased : notes.leases ≡ []
  pub unlooked : notes.live ≡ []
  pub untold : notes.at ≡ None
