-- What one source may send: so many datagrams a second, and so many at once. A source has one number, which says up to when its
-- allowance is used. It is counted so that a millisecond is as much as datagrams a second are allowed, and a datagram 1,000.
use Rattle.std.specs.Prelude.{ℕ, ◌+◌, ◌-◌, ◌*◌, Bool, nat_le}
use Rattle.sip_guard.specs.declared.limit.Limit.{Limit}

-- a moment, in milliseconds, as such a number
abbrev pub moment_of : Limit → ℕ → ℕ
moment_of limit now = limit.per_second * now

-- how far a source's number is past a moment
abbrev pub owed : Limit → ℕ → ℕ → ℕ
owed limit used now = used - moment_of limit now

-- whether a datagram at a moment is within the allowance of a source with this number
abbrev pub admits : Limit → ℕ → ℕ → Bool
admits limit used now = nat_le (owed limit used now + 1000) (1000 * limit.burst)

-- the number of a source behind a datagram that was handed on
abbrev pub behind : Limit → ℕ → ℕ → ℕ
behind limit used now = moment_of limit now + owed limit used now + 1000
