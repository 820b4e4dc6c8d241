-- The address table: the tables `[[host_address]]`.
use Rattle.std.specs.Prelude.{ℕ, not, List, [], length, codes, Option, None, Some, Result, Ok}
use Rattle.std.specs.List.{list_any}
use Rattle.toml.specs.Data.{Data, Members, get_member}
use Rattle.sip_hops.specs.declared.host_address.HostAddress.{HostAddress}
use Rattle.sip_hops.specs.HostAddress.{is_row_for}
use Rattle.sip_config_values.specs.declared.error.ConfigError.{ConfigError}
use Rattle.sip_config_values.specs.declared.key.ConfigKey.TheVariants as keys
use Rattle.sip_config_values.specs.declared.table_kind.TableKind.TheVariants as kinds
use Rattle.sip_config_values.specs.declared.refusal.Refusal.{Refusal}
use Rattle.sip_config_values.specs.declared.refusal.Refusal.TheVariants.{Twice}
use Rattle.sip_config_values.specs.declared.grammar.Grammar.TheVariants.{Host}
use Rattle.sip_config_values.specs.Refusals.{◌>>=◌, place, placed, confirmed}
use Rattle.sip_config_values.specs.Values.{needed, text_as, address_of, port_of}
use Rattle.sip_config_values.specs.Rows.{list_at, rows_after}

-- a port, 5060 where none is there (RFC 3261 19.1.2)
abbrev pub port_in : Option Data → Result ℕ ConfigError
port_in None = Ok 5060
port_in (Some value) = port_of value

-- a row of the address table, for a host, compared without case, and a port that none before it is for
abbrev pub new_row : List HostAddress → Members → Result HostAddress Refusal
new_row before members = do
  named ← placed kinds.HostAddress (length before) keys.Host (needed (codes "host") members)
  addressed ← placed kinds.HostAddress (length before) keys.Address (needed (codes "address") members)
  host ← placed kinds.HostAddress (length before) keys.Host (text_as Host named)
  port ← placed kinds.HostAddress (length before) keys.Port (port_in (get_member (codes "port") members))
  _ ← confirmed (not (list_any (is_row_for host port) before)) (Twice (place kinds.HostAddress (length before) keys.Host))
  address ← placed kinds.HostAddress (length before) keys.Address (address_of addressed)
  Ok (record { host = host; port = port; address = address })

abbrev pub host_addresses_at : Members → Result (List HostAddress) Refusal
host_addresses_at members = list_at keys.HostAddresses members >>= rows_after keys.HostAddresses new_row []
