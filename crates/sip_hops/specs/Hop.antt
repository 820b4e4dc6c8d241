-- Hops that rules send to (this project's profile).
use Rattle.std.specs.Prelude.{ℕ, List, slice_get, Option, option_map}
use Rattle.sip_uri.specs.declared.addr.Addr.{Addr}
use Rattle.sip_hops.specs.declared.hop.Hop.{Hop}

-- the address of the hop at a place of the list, counted from 0
abbrev pub hop_of : List Hop → ℕ → Option Addr
hop_of hops place = option_map (λ hop. hop.address) (slice_get hops place)
