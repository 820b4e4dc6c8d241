-- Which limits there are.
use Rattle.std.specs.Prelude.{ℕ, ◌*◌, nat_le, ◌&&◌, Option, Some, None, if◌then◌else◌}
use Rattle.sip_guard.specs.declared.limit.Limit.{Limit}

-- so many datagrams a second, and twice as many at once, where that is neither none nor more than a million
abbrev pub limit_of : ℕ → Option Limit
limit_of per_second =
    if nat_le 1 per_second && nat_le per_second 1000000
    then Some (record { per_second = per_second; burst = 2 * per_second })
    else None
