-- What `user` prints: the table of a user, whose password is the first line of the input.
use Rattle.std.specs.Prelude.{◌≡◌, ℕ, Bool, true, false, List, [], Option, Some, None, option_map, unwrap_or, string_bytes, Result, Ok}
use Rattle.std.specs.Io.KnownBytes.{Appends}
use Rattle.sip_config_types.specs.declared.config.Config.{Config}
use Rattle.sipd_arguments.specs.declared.call.UserCall.{UserCall}
use Rattle.sipd_ask.specs.Password.{ReadsPassword}
use Rattle.sipd_ask.specs.User.{added_user, user_table}
use Rattle.sipd_ask.specs.declared.error.QuestionError.{QuestionError}
use Rattle.sipd_ask.specs.declared.user.UserDigests.{UserDigests}
use Rattle.sipd_ask.specs.declared.user.UserDigests.TheVariants.{Md5, Both}
use Rattle.sipd_tools.specs.Against.{IsStated}

-- the realm that is said; an empty one, if none is, which is refused
abbrev pub realm_of : UserCall → List ℕ
realm_of call = unwrap_or (option_map string_bytes call.realm) []

abbrev pub digests_of : Bool → UserDigests
digests_of true = Both
digests_of false = Md5

-- the table by the words of a call
abbrev pub table_of : UserCall → List ℕ → Result (List ℕ) QuestionError
table_of call password = user_table (string_bytes call.name) (realm_of call) password (digests_of call.sha256)

-- the table of a user more of a configuration
abbrev pub table_in : Config → UserCall → List ℕ → Result (List ℕ) QuestionError
table_in config call password = added_user config (string_bytes call.name) (option_map string_bytes call.realm) password

-- a user's table was printed
pub record MakesUserAlone (call : UserCall) (input old new : Option (List ℕ)) : Type 0 where
  pub password : List ℕ
  pub table : List ℕ
  pub read : ReadsPassword input password
  pub made : table_of call password ≡ Ok table
  pub printed : Appends old new table

-- that of a user more of a stated configuration was
pub record AddsUser (call : UserCall) (input old new : Option (List ℕ)) : Type 0 where
  pub config : Config
  pub password : List ℕ
  pub table : List ℕ
  pub stated : IsStated config
  pub read : ReadsPassword input password
  pub made : table_in config call password ≡ Ok table
  pub printed : Appends old new table

-- the one, where no file is named, or the other
abbrev pub MakesUserOf : {A : Type 0} → Option A → UserCall → Option (List ℕ) → Option (List ℕ) → Option (List ℕ) → Type 0
MakesUserOf None call input old new = MakesUserAlone call input old new
MakesUserOf (Some path) call input old new = AddsUser call input old new

abbrev pub MakesUser : UserCall → Option (List ℕ) → Option (List ℕ) → Option (List ℕ) → Type 0
MakesUser call input old new = MakesUserOf call.config call input old new
