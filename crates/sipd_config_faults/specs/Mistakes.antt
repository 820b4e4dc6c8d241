-- What is told of a configuration that is refused (this project's profile).
use Rattle.std.specs.Prelude.{◌≡◌, ℕ, ◌+◌, ◌-◌, ◌^◌, min, List, [], ◌++◌, codes, decimal, Option, Some, None, Result, Ok, Err}
use Rattle.toml.specs.Data.{Members}
use Rattle.toml.specs.Parse.{parse_document}
use Rattle.sip_config_types.specs.declared.config.Config.{Config}
use Rattle.sip_config_values.specs.declared.error.ConfigError.{ConfigError}
use Rattle.sip_config_values.specs.declared.error.ConfigError.TheVariants.{BadToml, MissingKey, BadValue, DuplicateRule, UnknownHop, UnknownGroup, TooMany}
use Rattle.sip_config_values.specs.declared.key.ConfigKey.{ConfigKey}
use Rattle.sip_config_values.specs.declared.key.ConfigKey.TheVariants as keys
use Rattle.sip_config_values.specs.declared.table_kind.TableKind.{TableKind}
use Rattle.sip_config_values.specs.declared.table_kind.TableKind.TheVariants as kinds
use Rattle.sip_config_values.specs.declared.refusal.KeyPlace.{KeyPlace}
use Rattle.sip_config_values.specs.declared.refusal.Refusal.{Refusal}
use Rattle.sip_config_values.specs.declared.refusal.Refusal.TheVariants.{NoMemory, At, Twice}
use Rattle.sip_config_values.specs.KeyNames.{name_of}
use Rattle.sip_config_values.specs.Refusals.{error_of}
use Rattle.sip_config.specs.Configuration.{placed_by}
use Rattle.sipd_config_faults.specs.declared.telling.Reading.{Reading}
use Rattle.sipd_config_faults.specs.declared.telling.Reading.TheVariants.{Stated, Refused}

-- ---- the place

-- a line by its number, if it was found
abbrev pub line_text : Option ℕ → List ℕ
line_text None = []
line_text (Some number) = codes "line " ++ decimal number ++ codes ": "

-- the list that the tables of a kind stand in
abbrev pub list_of : TableKind → ConfigKey
list_of kinds.Whole = keys.Unknown
list_of kinds.User = keys.Users
list_of kinds.Hop = keys.Hops
list_of kinds.HostAddress = keys.HostAddresses
list_of kinds.Rule = keys.Rules

-- a table of a list by its number, from 1
abbrev pub table_name : TableKind → ℕ → List ℕ
table_name kind before = codes "[[" ++ name_of (list_of kind) ++ codes "]] number " ++ decimal (min (before + 1) (2 ^ 64 - 1))

-- the table of a place, nothing before all tables
abbrev pub table_text : TableKind → ℕ → List ℕ
table_text kinds.Whole before = []
table_text kind before = table_name kind before ++ codes ": "

abbrev pub place_of : Refusal → Option KeyPlace
place_of NoMemory = None
place_of (At error place) = Some place
place_of (Twice place) = Some place

-- ---- what is wrong

-- the word in front of a key with a bad value, or of one that isn't known
abbrev pub bad_word : ConfigKey → List ℕ
bad_word keys.Unknown = codes "not known: "
bad_word key = codes "bad value of "

-- the word in front of a key that is refused with an error
abbrev pub word_of : ConfigError → ConfigKey → List ℕ
word_of MissingKey key = codes "missing: "
word_of TooMany key = codes "too many of "
word_of BadValue key = bad_word key
word_of error key = codes "bad value of "

-- why it is, where that is always the same
abbrev pub reason_of : ConfigError → List ℕ
reason_of DuplicateRule = codes "; one before has the same"
reason_of UnknownHop = codes "; no [[hop]] has this name"
reason_of UnknownGroup = codes "; no [[user]] is in this group"
reason_of error = []

abbrev pub word : Refusal → List ℕ
word NoMemory = []
word (At error place) = word_of error place.key
word (Twice place) = codes "bad value of "

abbrev pub reason : Refusal → List ℕ
reason NoMemory = []
reason (At error place) = reason_of error
reason (Twice place) = codes "; one before has the same"

-- what is wrong with a key
abbrev pub told : Refusal → List ℕ → List ℕ
told refusal key = word refusal ++ key ++ reason refusal

-- a key is called so; of one that isn't known the table has the name
abbrev pub IsCalled : ConfigKey → List ℕ → Type 0
IsCalled key text = (key ≡ keys.Unknown → ⊥) → text ≡ name_of key

-- A line tells a refusal: in front stand the line and the table of its place, then what is wrong with the key, and then what would do.
pub record TellsRefusal (refusal : Refusal) (place : KeyPlace) (line : List ℕ) : Type 0 where
  pub number : Option ℕ
  pub key : List ℕ
  pub cure : List ℕ
  pub called : IsCalled place.key key
  pub tells : line ≡ line_text number ++ table_text place.kind place.before ++ told refusal key ++ cure

-- a line tells where a text isn't TOML
pub record TellsToml (line : List ℕ) : Type 0 where
  pub number : ℕ
  pub message : List ℕ
  pub tells : line ≡ line_text (Some number) ++ codes "not TOML: " ++ message

-- ---- what is read

-- a refusal is told, with its error
pub record IsTold (refusal : Refusal) (error : ConfigError) (line : List ℕ) : Type 0 where
  pub place : KeyPlace
  pub at : place_of refusal ≡ Some place
  pub error_is : error ≡ error_of refusal
  pub tells : TellsRefusal refusal place line

abbrev pub IsToldAs : Refusal → Reading → Type 0
IsToldAs refusal (Stated config) = ⊥
IsToldAs refusal (Refused error line) = IsTold refusal error line

-- what a reading of keys gave: the configuration, or its refusal told
abbrev pub IsReading : Result Config Refusal → Reading → Type 0
IsReading (Ok config) (Stated read) = read ≡ config
IsReading (Ok config) (Refused error line) = ⊥
IsReading (Err refusal) reading = IsToldAs refusal reading

abbrev pub IsReadingBy : Members → Reading → Type 0
IsReadingBy members reading = IsReading (placed_by members) reading

-- of a text that isn't TOML that is told
abbrev pub IsNoToml : Reading → Type 0
IsNoToml (Stated config) = ⊥
IsNoToml (Refused error line) = (error ≡ BadToml) × TellsToml line

-- What is read of a text: the configuration that it states, or why it is refused, told: that it isn't TOML, or at which place, the first
-- in reading order, and as what.
abbrev pub IsReadingOfKeys : Option Members → Reading → Type 0
IsReadingOfKeys None reading = IsNoToml reading
IsReadingOfKeys (Some members) reading = IsReadingBy members reading

abbrev pub IsReadingOf : List ℕ → Reading → Type 0
IsReadingOf text reading = IsReadingOfKeys (parse_document text) reading
