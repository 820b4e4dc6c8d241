-- The hops that are heard always.
use Rattle.std.specs.Prelude.{ℕ, List, map}
use Rattle.sip_config_types.specs.declared.config.Config.{Config}

-- the IP addresses of a configuration's hops, in their order
abbrev pub hop_addresses : Config → List (List ℕ)
hop_addresses config = map (λ hop. hop.address.ip) config.hops
