-- What is chosen by a time, or by whom something is for.
use Rattle.std.specs.Prelude.{ℕ, Bool, true, ◌&&◌, ◌||◌, nat_le, nat_lt, List, Option, None, Some}
use Rattle.std.specs.List.{flat_map}
use Rattle.std.specs.Str.{bytes_eq}
use Rattle.sip_uri.specs.declared.aor.Aor.{Aor}
use Rattle.sip_audit.specs.Lines.{target_text, user_byte_text}

-- ---- when, in seconds since 1970 began, on the office's clock

abbrev pub is_since : Option ℕ → ℕ → Bool
is_since None second = true
is_since (Some since) second = nat_le since second

abbrev pub is_before : Option ℕ → ℕ → Bool
is_before None second = true
is_before (Some until) second = nat_lt second until

-- from the one second on, and before the other, as far as they are given
abbrev pub is_within : Option ℕ → Option ℕ → ℕ → Bool
is_within since until second = is_since since second && is_before until second

-- ---- for whom

-- the user of an address of record, as an audit line has it
abbrev pub user_text : Aor → List ℕ
user_text aor = flat_map user_byte_text aor.user

-- a text says an address of record, or its user alone
abbrev pub says_aor : List ℕ → Aor → Bool
says_aor text aor = bytes_eq text (target_text aor) || bytes_eq text (user_text aor)

abbrev pub is_of_target : Option (List ℕ) → Aor → Bool
is_of_target None aor = true
is_of_target (Some text) aor = says_aor text aor
