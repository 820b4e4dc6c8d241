-- The keys that a file may have.
use Rattle.std.specs.Prelude.{ℕ, Bool, ◌&&◌, ◌||◌, ◌==◌, not, is_some, if◌then◌else◌, List, [], ◌∷◌, codes, Option, None, Some, Result}
use Rattle.std.specs.List.{list_any}
use Rattle.std.specs.Str.{bytes_eq}
use Rattle.toml.specs.Data.{Members, no_members, member}
use Rattle.sip_config_values.specs.declared.error.ConfigError.TheVariants.{BadValue}
use Rattle.sip_config_values.specs.declared.key.ConfigKey.{ConfigKey}
use Rattle.sip_config_values.specs.declared.key.ConfigKey.TheVariants.{Users, Hops, HostAddresses, Rules, Unknown}
use Rattle.sip_config_values.specs.declared.table_kind.TableKind.{TableKind}
use Rattle.sip_config_values.specs.declared.table_kind.TableKind.TheVariants.{Whole, User, Hop, HostAddress, Rule}
use Rattle.sip_config_values.specs.declared.refusal.Refusal.{Refusal}
use Rattle.sip_config_values.specs.declared.refusal.Refusal.TheVariants.{At}
use Rattle.sip_config_values.specs.Refusals.{◌>>=◌, place, confirmed}
use Rattle.sip_config_values.specs.Rows.{list_at, all_pass}

-- whether a key is one of those before all tables; `offset` is of version 2
abbrev pub is_head_key : ℕ → List ℕ → Bool
is_head_key version key =
    list_any (bytes_eq key) (codes "version" ∷ codes "realm" ∷ codes "host" ∷ codes "port" ∷ codes "address" ∷ codes "domains" ∷ [])
    || (bytes_eq key (codes "offset") && version == 2)

-- whether a key is that of a list of tables
abbrev pub is_list_key : List ℕ → Bool
is_list_key key = list_any (bytes_eq key) (codes "user" ∷ codes "hop" ∷ codes "host_address" ∷ codes "rule" ∷ [])

abbrev pub is_user_key : List ℕ → Bool
is_user_key key = list_any (bytes_eq key) (codes "name" ∷ codes "a1" ∷ codes "a1_sha256" ∷ codes "groups" ∷ [])

abbrev pub is_hop_key : List ℕ → Bool
is_hop_key key = list_any (bytes_eq key) (codes "name" ∷ codes "address" ∷ [])

abbrev pub is_host_address_key : List ℕ → Bool
is_host_address_key key = list_any (bytes_eq key) (codes "host" ∷ codes "port" ∷ codes "address" ∷ [])

-- whether a key is of a rule; `from` and `until` are of version 2
abbrev pub is_rule_key : ℕ → List ℕ → Bool
is_rule_key version key =
    list_any (bytes_eq key) (codes "id" ∷ codes "who" ∷ codes "op" ∷ codes "target" ∷ codes "verdict" ∷ [])
    || (version == 2 && list_any (bytes_eq key) (codes "from" ∷ codes "until" ∷ []))

-- whether a table of a kind may have a key
abbrev pub may_have : ℕ → TableKind → List ℕ → Bool
may_have version Whole key = is_head_key version key || is_list_key key
may_have version User key = is_user_key key
may_have version Hop key = is_hop_key key
may_have version HostAddress key = is_host_address_key key
may_have version Rule key = is_rule_key version key

-- the first key of a table that its kind doesn't have
abbrev pub unknown_key : ℕ → TableKind → Members → Option (List ℕ)
unknown_key version kind no_members = None
unknown_key version kind (member key value members) = if may_have version kind key then unknown_key version kind members else Some key

-- a table has no such key
abbrev pub known : ℕ → TableKind → ℕ → Members → Result (Unit {0}) Refusal
known version kind before members = confirmed (not (is_some (unknown_key version kind members))) (At BadValue (place kind before Unknown))

-- nor has a table of a list
abbrev pub list_known : ℕ → TableKind → ConfigKey → Members → Result (Unit {0}) Refusal
list_known version kind list members = list_at list members >>= all_pass list (known version kind) 0

-- no table of a file has one
abbrev pub all_known : ℕ → Members → Result (Unit {0}) Refusal
all_known version members = do
  _ ← known version Whole 0 members
  _ ← list_known version User Users members
  _ ← list_known version Hop Hops members
  _ ← list_known version HostAddress HostAddresses members
  list_known version Rule Rules members
