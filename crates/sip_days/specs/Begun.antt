-- The calls that a step begins, record by record.
use Rattle.std.specs.Prelude.{ℤ, List, [], ◌∷◌, Option, if◌then◌else◌}
use Rattle.sip_audit.specs.declared.record.Record.{Record}
use Rattle.sip_event.specs.declared.event.Event.{Event}
use Rattle.sip_event.specs.declared.event.StepOut.{StepOut}
use Rattle.sip_days.specs.declared.call.Call.{Call}
use Rattle.sip_days.specs.Calls.{is_invite}
use Rattle.sip_days.specs.Hearing.{begun_by}

-- the call that a record begins, if it is an INVITE's
abbrev pub begun_if : ℤ → Option Event → StepOut → Record → List Call
begun_if offset event out r = if is_invite r then begun_by offset event out r ∷ [] else []
