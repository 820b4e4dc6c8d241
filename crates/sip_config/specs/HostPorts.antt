-- The hosts and ports that rows of the address table are for.
use Rattle.std.specs.Prelude.{ℕ, Bool, ◌&&◌, ◌==◌, not, List, [], ◌∷◌, ◌++◌, length, codes, Result, Ok}
use Rattle.std.specs.List.{list_any}
use Rattle.std.specs.Str.{bytes_eq}
use Rattle.toml.specs.Data.{Items, no_items, item, Members, get_member}
use Rattle.sip_text.specs.Words.{without_case}
use Rattle.sip_hops.specs.declared.host_address.HostAddress.{HostAddress}
use Rattle.sip_config_values.specs.declared.key.ConfigKey.TheVariants as keys
use Rattle.sip_config_values.specs.declared.table_kind.TableKind.TheVariants as kinds
use Rattle.sip_config_values.specs.declared.refusal.Refusal.{Refusal}
use Rattle.sip_config_values.specs.declared.refusal.Refusal.TheVariants.{Twice}
use Rattle.sip_config_values.specs.declared.grammar.Grammar.TheVariants.{Host}
use Rattle.sip_config_values.specs.Refusals.{◌>>=◌, place, placed, confirmed}
use Rattle.sip_config_values.specs.Values.{needed, text_as, address_of}
use Rattle.sip_config_values.specs.Rows.{table_in}
use Rattle.sip_config.specs.HostAddresses.{port_in}

-- the host that a row is for, its letters small ones, and the port
abbrev pub place_of : HostAddress → List ℕ × ℕ
place_of row = (without_case row.host, row.port)

-- whether a place is that of a host, compared without case, and a port
abbrev pub is_place : List ℕ → ℕ → List ℕ × ℕ → Bool
is_place host port place = bytes_eq (without_case host) place.0 && port == place.1

-- a row for a host and a port whose place is none of some
abbrev pub row_besides : ℕ → List (List ℕ × ℕ) → Members → Result HostAddress Refusal
row_besides before places members = do
  named ← placed kinds.HostAddress before keys.Host (needed (codes "host") members)
  addressed ← placed kinds.HostAddress before keys.Address (needed (codes "address") members)
  host ← placed kinds.HostAddress before keys.Host (text_as Host named)
  port ← placed kinds.HostAddress before keys.Port (port_in (get_member (codes "port") members))
  _ ← confirmed (not (list_any (is_place host port) places)) (Twice (place kinds.HostAddress before keys.Host))
  address ← placed kinds.HostAddress before keys.Address (address_of addressed)
  Ok (record { host = host; port = port; address = address })

-- rows, each besides the places of those before
abbrev pub rows_besides : List (List ℕ × ℕ) → List HostAddress → Items → Result (List HostAddress) Refusal
rows_besides places rows no_items = Ok rows
rows_besides places rows (item first items) = table_in keys.HostAddresses first >>= row_besides (length rows) places >>= λ row.
    rows_besides (places ++ place_of row ∷ []) (rows ++ row ∷ []) items
