-- The keys that stand before all tables.
use Rattle.std.specs.Prelude.{ℕ, ℤ, pos, negsuc, ◌==◌, nat_le, nat_lt, if◌then◌else◌, List, codes, Option, None, Some, Result, Ok}
use Rattle.toml.specs.Data.{Data, Members, get_member}
use Rattle.sip_uri.specs.declared.addr.Addr.{Addr}
use Rattle.sip_config_values.specs.declared.error.ConfigError.{ConfigError}
use Rattle.sip_config_values.specs.declared.key.ConfigKey.TheVariants.{Version, Offset, Host, Port, Address, Domains}
use Rattle.sip_config_values.specs.declared.key.ConfigKey.TheVariants as keys
use Rattle.sip_config_values.specs.declared.table_kind.TableKind.TheVariants.{Whole}
use Rattle.sip_config_values.specs.declared.refusal.Refusal.{Refusal}
use Rattle.sip_config_values.specs.declared.grammar.Grammar.TheVariants.{Realm, OwnHost, HostName}
use Rattle.sip_config.specs.declared.head.TopLevelKeys.{TopLevelKeys}
use Rattle.sip_config_values.specs.Refusals.{◌>>=◌, kept_if, placed}
use Rattle.sip_config_values.specs.Values.{needed, number_of, number_between, port_of, address_of, text_at, some_items_at}
use Rattle.sip_config_values.specs.Rows.{texts_of}

abbrev pub version_at : Members → Result ℕ ConfigError
version_at members = needed (codes "version") members >>= number_between 1 2

-- minutes ahead of UTC, -720 to 840
abbrev pub offset_within : ℤ → Result ℤ ConfigError
offset_within (pos n) = kept_if (nat_le n 840) (pos n)
offset_within (negsuc n) = kept_if (nat_lt n 720) (negsuc n)

abbrev pub offset_in : Option Data → Result ℤ ConfigError
offset_in None = Ok (pos 0)
offset_in (Some value) = number_of value >>= offset_within

-- the offset, which version 1 doesn't know
abbrev pub offset_at : ℕ → Members → Result ℤ ConfigError
offset_at version members = if version == 1 then Ok (pos 0) else offset_in (get_member (codes "offset") members)

abbrev pub domains_at : Members → Result (List (List ℕ)) ConfigError
domains_at members = some_items_at (codes "domains") members >>= texts_of HostName

abbrev pub port_at : Members → Result ℕ ConfigError
port_at members = needed (codes "port") members >>= port_of

abbrev pub address_at : Members → Result Addr ConfigError
address_at members = needed (codes "address") members >>= address_of

-- the keys before all tables, in this order
abbrev pub head_of : Members → Result TopLevelKeys Refusal
head_of members = do
  version ← placed Whole 0 Version (version_at members)
  offset ← placed Whole 0 Offset (offset_at version members)
  realm ← placed Whole 0 keys.Realm (text_at (codes "realm") Realm members)
  host ← placed Whole 0 Host (text_at (codes "host") OwnHost members)
  port ← placed Whole 0 Port (port_at members)
  address ← placed Whole 0 Address (address_at members)
  domains ← placed Whole 0 Domains (domains_at members)
  Ok (record { version = version; offset = offset; realm = realm; host = host; port = port; address = address; domains = domains })
