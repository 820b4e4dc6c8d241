-- How long lists may be (this project's profile).
use Rattle.std.specs.Prelude.{ℕ, ◌+◌, Bool, false, not, nat_lt, if◌then◌else◌, List, codes, Option, None, Some, Result}
use Rattle.toml.specs.Data.{Data, Items, no_items, item, Members, get_member, as_table, as_array}
use Rattle.sip_config_values.specs.declared.error.ConfigError.TheVariants.{TooMany}
use Rattle.sip_config_values.specs.declared.key.ConfigKey.{ConfigKey}
use Rattle.sip_config_values.specs.declared.key.ConfigKey.TheVariants.{Domains, Users, Groups, Hops, HostAddresses, Rules}
use Rattle.sip_config_values.specs.declared.table_kind.TableKind.TheVariants.{Whole, User}
use Rattle.sip_config_values.specs.declared.refusal.Refusal.{Refusal}
use Rattle.sip_config_values.specs.declared.refusal.Refusal.TheVariants.{At}
use Rattle.sip_config_values.specs.KeyNames.{name_of}
use Rattle.sip_config_values.specs.Refusals.{◌>>=◌, place, confirmed, none_found}

-- how many items a list has
abbrev pub count_items : Items → ℕ
count_items no_items = 0
count_items (item first items) = 1 + count_items items

abbrev pub is_longer : ℕ → Option Items → Bool
is_longer most None = false
is_longer most (Some items) = nat_lt most (count_items items)

-- whether what a key holds is a list of more items
abbrev pub is_over : ℕ → Option Data → Bool
is_over most None = false
is_over most (Some value) = is_longer most (as_array value)

abbrev pub is_over_at : List ℕ → ℕ → Members → Bool
is_over_at key most members = is_over most (get_member key members)

-- whether a user is in more than 16 groups
abbrev pub has_many_groups : Option Members → Bool
has_many_groups None = false
has_many_groups (Some members) = is_over_at (codes "groups") 16 members

-- how many stand before the first user who is in more, where the first has so many before
abbrev pub many_groups_after : ℕ → Items → Option ℕ
many_groups_after before no_items = None
many_groups_after before (item first items) = if has_many_groups (as_table first) then Some before else many_groups_after (before + 1) items

abbrev pub many_groups_of : Option Items → Option ℕ
many_groups_of None = None
many_groups_of (Some items) = many_groups_after 0 items

abbrev pub many_groups_in : Option Data → Option ℕ
many_groups_in None = None
many_groups_in (Some value) = many_groups_of (as_array value)

-- a list that stands before all tables, or of tables, isn't longer
abbrev pub few_at : ConfigKey → ℕ → Members → Result (Unit {0}) Refusal
few_at list most members = confirmed (not (is_over_at (name_of list) most members)) (At TooMany (place Whole 0 list))

-- no list is too long: domains, users, the groups of a user, hops, rows of the address table, rules
abbrev pub all_few : Members → Result (Unit {0}) Refusal
all_few members = do
  _ ← few_at Domains 16 members
  _ ← few_at Users 4096 members
  _ ← none_found TooMany User Groups (many_groups_in (get_member (codes "user") members))
  _ ← few_at Hops 256 members
  _ ← few_at HostAddresses 1024 members
  few_at Rules 1024 members
