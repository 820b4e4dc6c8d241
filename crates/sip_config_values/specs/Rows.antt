-- Lists, member by member in the order of the file.
use Rattle.std.specs.Prelude.{ℕ, ◌+◌, List, [], ◌∷◌, ◌++◌, Result, Ok}
use Rattle.toml.specs.Data.{Data, Items, no_items, item, Members}
use Rattle.sip_config_values.specs.declared.error.ConfigError.{ConfigError}
use Rattle.sip_config_values.specs.declared.grammar.Grammar.{Grammar}
use Rattle.sip_config_values.specs.declared.key.ConfigKey.{ConfigKey}
use Rattle.sip_config_values.specs.declared.table_kind.TableKind.TheVariants.{Whole}
use Rattle.sip_config_values.specs.declared.refusal.Refusal.{Refusal}
use Rattle.sip_config_values.specs.KeyNames.{name_of}
use Rattle.sip_config_values.specs.Refusals.{◌>>=◌, placed}
use Rattle.sip_config_values.specs.Values.{table_of, items_at, text_as}

-- the items of a list of tables, none where it isn't there
abbrev pub list_at : ConfigKey → Members → Result Items Refusal
list_at list members = placed Whole 0 list (items_at (name_of list) members)

-- the table that an item of such a list is; where it is none, the list is refused
abbrev pub table_in : ConfigKey → Data → Result Members Refusal
table_in list value = placed Whole 0 list (table_of value)

-- rows, each read from its table by those before it, and the first refusal
abbrev pub rows_after : {A : Type 0} → ConfigKey → (List A → Members → Result A Refusal) → List A → Items → Result (List A) Refusal
rows_after list read before no_items = Ok before
rows_after list read before (item first items) = table_in list first >>= read before >>= λ row. rows_after list read (before ++ row ∷ []) items

-- whether each table passes one line of the table of keys, and the first refusal
abbrev pub all_pass : ConfigKey → (ℕ → Members → Result (Unit {0}) Refusal) → ℕ → Items → Result (Unit {0}) Refusal
all_pass list line before no_items = Ok tt
all_pass list line before (item first items) = table_in list first >>= line before >>= λ _. all_pass list line (before + 1) items

-- texts of a grammar behind those that were read, and the first refusal
abbrev pub texts_after : Grammar → List (List ℕ) → Items → Result (List (List ℕ)) ConfigError
texts_after grammar before no_items = Ok before
texts_after grammar before (item first items) = text_as grammar first >>= λ text. texts_after grammar (before ++ text ∷ []) items

abbrev pub texts_of : Grammar → Items → Result (List (List ℕ)) ConfigError
texts_of grammar items = texts_after grammar [] items
