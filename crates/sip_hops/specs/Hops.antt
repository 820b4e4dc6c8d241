-- The tables that give addresses.
use Rattle.std.specs.Prelude.{List}
use Rattle.sip_hops.specs.declared.host_address.HostAddress.{HostAddress}
use Rattle.sip_hops.specs.declared.hop.Hop.{Hop}

-- The address table, and the hops, each in the order of the configuration.
pub record HopTables : Type 0 where
  pub addresses : List HostAddress
  pub hops : List Hop
