-- Hops: the tables `[[hop]]`.
use Rattle.std.specs.Prelude.{not, List, [], length, codes, Result, Ok}
use Rattle.std.specs.List.{list_any}
use Rattle.toml.specs.Data.{Members}
use Rattle.sip_hops.specs.declared.hop.Hop.{Hop}
use Rattle.sip_config_values.specs.declared.key.ConfigKey.TheVariants as keys
use Rattle.sip_config_values.specs.declared.table_kind.TableKind.TheVariants as kinds
use Rattle.sip_config_values.specs.declared.refusal.Refusal.{Refusal}
use Rattle.sip_config_values.specs.declared.refusal.Refusal.TheVariants.{Twice}
use Rattle.sip_config_values.specs.declared.grammar.Grammar.TheVariants.{Name}
use Rattle.sip_config_values.specs.Refusals.{◌>>=◌, place, placed, confirmed}
use Rattle.sip_config_values.specs.Values.{needed, text_as, address_of}
use Rattle.sip_config_values.specs.Rows.{list_at, rows_after}
use Rattle.sip_config_values.specs.Words.{is_hop}

-- a hop, whose name none before it has
abbrev pub new_hop : List Hop → Members → Result Hop Refusal
new_hop before members = do
  named ← placed kinds.Hop (length before) keys.Name (needed (codes "name") members)
  addressed ← placed kinds.Hop (length before) keys.Address (needed (codes "address") members)
  name ← placed kinds.Hop (length before) keys.Name (text_as Name named)
  _ ← confirmed (not (list_any (is_hop name) before)) (Twice (place kinds.Hop (length before) keys.Name))
  address ← placed kinds.Hop (length before) keys.Address (address_of addressed)
  Ok (record { name = name; address = address })

abbrev pub hops_at : Members → Result (List Hop) Refusal
hops_at members = list_at keys.Hops members >>= rows_after keys.Hops new_hop []
