-- What a reading gives, and the first thing that it is refused for.
use Rattle.std.specs.Prelude.{◌≡◌, ℕ, Bool, true, false, Option, None, Some, Result, Ok, Err}
use Rattle.sip_config_values.specs.declared.error.ConfigError.{ConfigError}
use Rattle.sip_config_values.specs.declared.error.ConfigError.TheVariants.{NoMemory, BadValue}
use Rattle.sip_config_values.specs.declared.key.ConfigKey.{ConfigKey}
use Rattle.sip_config_values.specs.declared.table_kind.TableKind.{TableKind}
use Rattle.sip_config_values.specs.declared.refusal.KeyPlace.{KeyPlace}
use Rattle.sip_config_values.specs.declared.refusal.Refusal.{Refusal}
use Rattle.sip_config_values.specs.declared.refusal.Refusal.TheVariants as refusals

-- a call answered what is wanted, seen by view, or memory ran out
abbrev pub Reads : {X Y : Type 0} → (X → Y) → Result X ConfigError → Result Y ConfigError → Type 0
Reads view (Ok value) wanted = wanted ≡ Ok (view value)
Reads view (Err NoMemory) wanted = Unit {0}
Reads view (Err refusal) wanted = wanted ≡ Err refusal

-- the same of a call whose refusals have places
abbrev pub ReadsAt : {X Y : Type 0} → (X → Y) → Result X Refusal → Result Y Refusal → Type 0
ReadsAt view (Ok value) wanted = wanted ≡ Ok (view value)
ReadsAt view (Err refusals.NoMemory) wanted = Unit {0}
ReadsAt view (Err refusal) wanted = wanted ≡ Err refusal

-- the same of a call that takes no memory: its refusal is the one that is wanted
abbrev pub Tells : {X Y E : Type 0} → (X → Y) → Result X E → Result Y E → Type 0
Tells view (Ok value) wanted = wanted ≡ Ok (view value)
Tells view (Err refusal) wanted = wanted ≡ Err refusal

infixl 10 ◌>>=◌
-- the value, and then what comes of it; or the refusal
abbrev pub ◌>>=◌ : {A B E : Type 0} → Result A E → (A → Result B E) → Result B E
Ok value >>= next = next value
Err refusal >>= next = Err refusal

-- ---- without a place

-- a value that has to be of its kind
abbrev pub valid : {A : Type 0} → Option A → Result A ConfigError
valid None = Err BadValue
valid (Some value) = Ok value

-- a value that has to pass a test
abbrev pub kept_if : {A : Type 0} → Bool → A → Result A ConfigError
kept_if true value = Ok value
kept_if false value = Err BadValue

-- ---- with the place: the key of a table of a kind, before which so many of the kind stand

abbrev pub place : TableKind → ℕ → ConfigKey → KeyPlace
place kind before key = record { kind = kind; before = before; key = key }

-- want of memory has no place
abbrev pub refused_at : KeyPlace → ConfigError → Refusal
refused_at at NoMemory = refusals.NoMemory
refused_at at error = refusals.At error at

-- what a key is read as, refused at its place
abbrev pub placed : {A : Type 0} → TableKind → ℕ → ConfigKey → Result A ConfigError → Result A Refusal
placed kind before key (Ok value) = Ok value
placed kind before key (Err error) = Err (refused_at (place kind before key) error)

-- whether a key is read, and not as what
abbrev pub passed : {A : Type 0} → TableKind → ℕ → ConfigKey → Result A ConfigError → Result (Unit {0}) Refusal
passed kind before key (Ok value) = Ok tt
passed kind before key (Err error) = Err (refused_at (place kind before key) error)

-- what has to hold, and how it is refused where it doesn't
abbrev pub confirmed : Bool → Refusal → Result (Unit {0}) Refusal
confirmed true refusal = Ok tt
confirmed false refusal = Err refusal

-- refused is a key of the table that was found, if one was
abbrev pub none_found : ConfigError → TableKind → ConfigKey → Option ℕ → Result (Unit {0}) Refusal
none_found error kind key None = Ok tt
none_found error kind key (Some before) = Err (refusals.At error (place kind before key))

-- ---- the error alone

abbrev pub error_of : Refusal → ConfigError
error_of refusals.NoMemory = NoMemory
error_of (refusals.At error at) = error
error_of (refusals.Twice at) = BadValue

abbrev pub error_alone : {A : Type 0} → Result A Refusal → Result A ConfigError
error_alone (Ok value) = Ok value
error_alone (Err refusal) = Err (error_of refusal)
