-- Users: the tables `[[user]]`.
use Rattle.std.specs.Prelude.{ℕ, not, List, [], ◌∷◌, ◌++◌, length, codes, Option, None, Some, Result, Ok}
use Rattle.std.specs.List.{list_any}
use Rattle.std.specs.Str.{bytes_eq}
use Rattle.toml.specs.Data.{Data, Items, Members, get_member}
use Rattle.sip_policy.specs.declared.user.User.{User}
use Rattle.sip_policy.specs.Users.{have_own_names}
use Rattle.sip_config_values.specs.declared.error.ConfigError.{ConfigError}
use Rattle.sip_config_values.specs.declared.error.ConfigError.TheVariants.{BadValue}
use Rattle.sip_config_values.specs.declared.key.ConfigKey.TheVariants as keys
use Rattle.sip_config_values.specs.declared.table_kind.TableKind.TheVariants as kinds
use Rattle.sip_config_values.specs.declared.refusal.Refusal.{Refusal}
use Rattle.sip_config_values.specs.declared.refusal.Refusal.TheVariants.{At, Twice}
use Rattle.sip_config_values.specs.declared.grammar.Grammar.TheVariants.{Name}
use Rattle.sip_config.specs.declared.users.UserLine.{UserLine}
use Rattle.sip_config.specs.declared.users.UserLine.TheVariants.{A1, A1Sha256, Groups}
use Rattle.sip_config_values.specs.Refusals.{◌>>=◌, place, placed, passed, confirmed}
use Rattle.sip_config_values.specs.Values.{needed, list_of, digest_of, text_at, if_there, some_items_at}
use Rattle.sip_config_values.specs.Rows.{rows_after, all_pass, texts_of}

-- a user's name, which none before it has
abbrev pub new_name : List (List ℕ) → Members → Result (List ℕ) Refusal
new_name before members = do
  name ← placed kinds.User (length before) keys.Name (text_at (codes "name") Name members)
  _ ← confirmed (not (list_any (bytes_eq name) before)) (Twice (place kinds.User (length before) keys.Name))
  Ok name

-- names, and a user's behind them
abbrev pub name_behind : List (List ℕ) → Members → Result (List (List ℕ)) Refusal
name_behind before members = new_name before members >>= λ name. Ok (before ++ name ∷ [])

-- H(A1) by MD5 (RFC 2617 3.2.2.2)
abbrev pub a1_at : Members → Result (List ℕ) ConfigError
a1_at members = needed (codes "a1") members >>= digest_of 32

-- H(A1) by SHA-256, if it is there (RFC 7616 3.4.2)
abbrev pub a1_sha256_at : Members → Result (Option (List ℕ)) ConfigError
a1_sha256_at members = if_there (digest_of 64) (get_member (codes "a1_sha256") members)

-- the groups that a user is in, none where they aren't there
abbrev pub groups_in : Option Data → Result (List (List ℕ)) ConfigError
groups_in None = Ok []
groups_in (Some value) = list_of value >>= texts_of Name

abbrev pub groups_at : Members → Result (List (List ℕ)) ConfigError
groups_at members = groups_in (get_member (codes "groups") members)

-- the lines behind that of the names
abbrev pub user_line : UserLine → ℕ → Members → Result (Unit {0}) Refusal
user_line A1 before members = passed kinds.User before keys.A1 (a1_at members)
user_line A1Sha256 before members = passed kinds.User before keys.A1Sha256 (a1_sha256_at members)
user_line Groups before members = passed kinds.User before keys.Groups (groups_at members)

abbrev pub user_at : List User → Members → Result User Refusal
user_at before members = do
  a1 ← placed kinds.User (length before) keys.A1 (a1_at members)
  a1_sha256 ← placed kinds.User (length before) keys.A1Sha256 (a1_sha256_at members)
  name ← placed kinds.User (length before) keys.Name (text_at (codes "name") Name members)
  groups ← placed kinds.User (length before) keys.Groups (groups_at members)
  Ok (record { name = name; a1 = a1; a1_sha256 = a1_sha256; groups = groups })

-- the users of a list: each line of all of them in turn, then each of them
abbrev pub users_of : Items → Result (List User) Refusal
users_of items = do
  names ← rows_after keys.Users new_name [] items
  _ ← all_pass keys.Users (user_line A1) 0 items
  _ ← all_pass keys.Users (user_line A1Sha256) 0 items
  _ ← all_pass keys.Users (user_line Groups) 0 items
  users ← rows_after keys.Users user_at [] items
  _ ← confirmed (have_own_names users) (At BadValue (place kinds.Whole 0 keys.Users))
  Ok users

abbrev pub users_at : Members → Result (List User) Refusal
users_at members = placed kinds.Whole 0 keys.Users (some_items_at (codes "user") members) >>= users_of
