-- Numbers behind keys.
use Rattle.std.specs.Prelude.{ℕ, Bool, if◌then◌else◌, List, [], ◌∷◌}
use Rattle.std.specs.Str.{bytes_eq}
use Rattle.sipd_page_sections.specs.declared.entries.Entry.{Entry}

-- whether an entry has a key
abbrev pub is_of : List ℕ → Entry → Bool
is_of key row = bytes_eq row.key key

-- the number of a key; 0 where it has none
abbrev pub value_of : List ℕ → List Entry → ℕ
value_of key [] = 0
value_of key (row ∷ rows) = if is_of key row then row.value else value_of key rows

-- a key keeps its place; a new one goes last
abbrev pub with_entry : Entry → List Entry → List Entry
with_entry new [] = new ∷ []
with_entry new (row ∷ rows) = if is_of new.key row then new ∷ rows else row ∷ with_entry new rows
