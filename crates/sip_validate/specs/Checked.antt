-- What validation gives of a request: why it isn't served, or what was read of it.
use Rattle.std.specs.Prelude.{◌≡◌, ◌⊎◌, ℕ, Bool, List, [], Option, Some, None, option_map, Result, Ok, Err}
use Rattle.std.specs.Option.{ok_or}
use Rattle.std.specs.Result.{result_ok}
use Rattle.sip_message_form.specs.declared.message.Message.{Message}
use Rattle.sip_route.specs.declared.own.Own.{Own}
use Rattle.sip_header.specs.declared.core_fields.CoreFields.{CoreFields}
use Rattle.sip_header.specs.CoreFields.{core_of}
use Rattle.sip_route.specs.Way.{way_of, request_uri_of}
use Rattle.sip_validate.specs.declared.checked.Checked.{Checked}
use Rattle.sip_validate.specs.declared.refused.Refused.{Refused}
use Rattle.sip_validate.specs.Refusal.{refusal_of}

-- what is read of a request with these core fields
abbrev pub checked_with : Own → Message → CoreFields → Checked
checked_with own m core = record { core = core; way = way_of own m; uri = request_uri_of own m }

-- what is read of a request whose core fields can be read
abbrev pub checked_of : Own → Message → Option Checked
checked_of own m = option_map (checked_with own m) (result_ok (core_of m))

-- the refusal, if there is one; else what was read, without which a request is a bad one
abbrev pub validation_by : Option Checked → Option (ℕ × List ℕ) → Result Checked Refused
validation_by checked (Some refusal) = Err (Refused.Status refusal.0 refusal.1)
validation_by checked None = ok_or checked (Refused.Status 400 [])

-- What validation gives: the status of the first row of the table that applies, with the value of Unsupported; else what was read (RFC 3261 16.3).
abbrev pub validation_of : Own → Message → Bool → Result Checked Refused
validation_of own m short = validation_by (checked_of own m) (refusal_of own m short)

-- What validation returned is what the definition says, unless memory ran out.
abbrev pub Validates : Result Checked Refused → Result Checked Refused → Type 0
Validates (Ok checked) validation = validation ≡ Ok checked
Validates (Err e) validation = (e ≡ Refused.NoMemory) ⊎ (validation ≡ Err e)
