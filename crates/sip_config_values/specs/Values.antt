-- What the keys of a table hold.
use Rattle.std.specs.Prelude.{ℕ, ℤ, Bool, true, false, pos, negsuc, ◌&&◌, nat_le, List, Option, None, Some, Result, Ok, Err}
use Rattle.toml.specs.Data.{Data, Items, no_items, item, Members, get_member, as_str, as_integer, as_table, as_array}
use Rattle.sip_uri.specs.declared.addr.Addr.{Addr}
use Rattle.sip_uri.specs.Addresses.{addr_of}
use Rattle.sip_config_values.specs.declared.error.ConfigError.{ConfigError}
use Rattle.sip_config_values.specs.declared.error.ConfigError.TheVariants.{MissingKey, BadValue}
use Rattle.sip_config_values.specs.declared.grammar.Grammar.{Grammar}
use Rattle.sip_config_values.specs.Refusals.{◌>>=◌, valid, kept_if}
use Rattle.sip_config_values.specs.Grammar.{accepts, is_digest}

-- what a key has to hold that has to be there
abbrev pub required : Option Data → Result Data ConfigError
required None = Err MissingKey
required (Some value) = Ok value

abbrev pub needed : List ℕ → Members → Result Data ConfigError
needed key members = required (get_member key members)

-- ---- a value of its kind

abbrev pub text_of : Data → Result (List ℕ) ConfigError
text_of value = valid (as_str value)

abbrev pub number_of : Data → Result ℤ ConfigError
number_of value = valid (as_integer value)

abbrev pub list_of : Data → Result Items ConfigError
list_of value = valid (as_array value)

abbrev pub table_of : Data → Result Members ConfigError
table_of value = valid (as_table value)

-- a text of a grammar
abbrev pub text_as : Grammar → Data → Result (List ℕ) ConfigError
text_as grammar value = text_of value >>= λ text. kept_if (accepts grammar text) text

-- so many hexadecimal digits in lower case
abbrev pub digest_of : ℕ → Data → Result (List ℕ) ConfigError
digest_of count value = text_of value >>= λ text. kept_if (is_digest count text) text

-- an address with its port, `IP:PORT`
abbrev pub address_of : Data → Result Addr ConfigError
address_of value = text_of value >>= λ text. valid (addr_of text)

-- a natural number between two, both included
abbrev pub between : ℕ → ℕ → ℤ → Result ℕ ConfigError
between low most (pos n) = kept_if (nat_le low n && nat_le n most) n
between low most (negsuc n) = Err BadValue

abbrev pub number_between : ℕ → ℕ → Data → Result ℕ ConfigError
number_between low most value = number_of value >>= between low most

abbrev pub port_of : Data → Result ℕ ConfigError
port_of value = number_between 1 65535 value

-- ---- the value of a key

abbrev pub text_at : List ℕ → Grammar → Members → Result (List ℕ) ConfigError
text_at key grammar members = needed key members >>= text_as grammar

-- what a key holds that needn't be there
abbrev pub if_there : {A : Type 0} → (Data → Result A ConfigError) → Option Data → Result (Option A) ConfigError
if_there read None = Ok None
if_there read (Some value) = read value >>= λ x. Ok (Some x)

-- the items of a list, none where it isn't there
abbrev pub items_in : Option Data → Result Items ConfigError
items_in None = Ok no_items
items_in (Some value) = list_of value

abbrev pub items_at : List ℕ → Members → Result Items ConfigError
items_at key members = items_in (get_member key members)

-- whether a list has an item
abbrev pub has_items : Items → Bool
has_items no_items = false
has_items (item first items) = true

-- a list that has to be there, of one item or more
abbrev pub some_items_at : List ℕ → Members → Result Items ConfigError
some_items_at key members = needed key members >>= list_of >>= λ items. kept_if (has_items items) items
