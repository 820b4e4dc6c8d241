-- For how long a binding is asked (RFC 3261 10.2.1.1, 10.3 step 7, 20.10, 20.19).
use Rattle.std.specs.Prelude.{ℕ, Bool, false, ◌&&◌, ◌==◌, nat_lt, min}
use Rattle.sip_header.specs.declared.expires.Expires.{Expires}
use Rattle.sip_header.specs.declared.expires.Expires.TheVariants.{Absent, Malformed, Seconds}

-- a contact's own `expires`, else the request's (RFC 3261 10.3 step 7)
abbrev pub own_or : Expires → Expires → Expires
own_or Absent expires = expires
own_or Malformed expires = Malformed
own_or (Seconds seconds) expires = Seconds seconds

-- the seconds that are granted: an hour where none are said or what says them is malformed (RFC 3261 10.3 step 7, 20.19), and at
-- most a day (this project's profile)
abbrev pub granted : Expires → ℕ
granted Absent = 3600
granted Malformed = 3600
granted (Seconds seconds) = min seconds 86400

-- less than a minute, and no removal (RFC 3261 10.3 step 7; the minute is this project's profile)
abbrev pub is_brief : ℕ → Bool
is_brief seconds = nat_lt 0 seconds && nat_lt seconds 60

-- whether 0 seconds are said
abbrev pub is_zero : Expires → Bool
is_zero Absent = false
is_zero Malformed = false
is_zero (Seconds seconds) = seconds == 0
