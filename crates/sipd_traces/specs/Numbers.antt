-- The call that the number of a datagram means: that of the first line of the log with it.
use Rattle.std.specs.Prelude.{ℕ, ◌==◌, Bool, if◌then◌else◌, List, Option, None, Some}
use Rattle.std.specs.List.{list_any}
use Rattle.sip_audit.specs.declared.record.Record.{Record}
use Rattle.sip_event.specs.declared.event.Event.{Event}
use Rattle.sip_event.specs.declared.event.Event.TheVariants.{Datagram, Time, Fault}
use Rattle.sip_listener.specs.Heard.{Heard}
use Rattle.sipd_capture.specs.Frames.{call_id_in}

abbrev pub has_number : ℕ → Record → Bool
has_number number r = r.number == number

-- the Call-ID of the datagram of a step
abbrev pub call_id_by : Option Event → Option (List ℕ)
call_id_by None = None
call_id_by (Some (Datagram at word from bytes)) = call_id_in bytes
call_id_by (Some (Time at)) = None
call_id_by (Some (Fault at ticket)) = None

-- of one that was decided, with that number
abbrev pub numbered : ℕ → Heard → Option (List ℕ)
numbered number step = if list_any (has_number number) step.out.records then call_id_by step.event else None

-- what is found stays
abbrev pub found_with : ℕ → Heard → Option (List ℕ) → Option (List ℕ)
found_with number step None = numbered number step
found_with number step (Some call_id) = Some call_id
