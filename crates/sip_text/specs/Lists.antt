-- Lists of items between commas (RFC 3261 7.3.1), in one pass from the left. What the items are is
-- said by the grammar in ListText, and `items_are_between_commas` is the proof that it is the same.
use Rattle.std.specs.Prelude.{ℕ, ◌-◌, Bool, true, false, ◌||◌, ◌==◌, if◌then◌else◌, List, [], ◌∷◌, ◌++◌, length, reverse, take, drop}
use Rattle.std.specs.Prelude.{take_while, Option, Some, None, option_map}
use Rattle.std.specs.Option.{option_and_then}
use Rattle.std.specs.Str.{byte}
use Rattle.sip_text.specs.declared.lists.ListState.{ListState}
use Rattle.sip_text.specs.declared.lists.ListState.TheVariants.{Outside, Quoted, Escaped, Bracketed}

-- a space or a tab (RFC 3261 25.1, WSP)
abbrev pub is_blank : ℕ → Bool
is_blank b = b == byte " " || b == byte "\t"

-- without the spaces and tabs at both ends
abbrev pub trimmed : List ℕ → List ℕ
trimmed bytes =
    let before = length (take_while is_blank bytes) in
    let behind = length (take_while is_blank (reverse bytes)) in
    drop before (take (length bytes - behind) bytes)

-- without the spaces and tabs at the front
abbrev pub front_trimmed : List ℕ → List ℕ
front_trimmed bytes = drop (length (take_while is_blank bytes)) bytes

-- without the spaces and tabs at the end
abbrev pub end_trimmed : List ℕ → List ℕ
end_trimmed bytes = take (length bytes - length (take_while is_blank (reverse bytes))) bytes

-- where the byte after this one stands: a `\` in quoted text takes the next byte along, and a bracket
-- runs to the next `>` (RFC 3261 25.1)
abbrev pub place_after : ListState → ℕ → ListState
place_after Outside b = if b == byte "\"" then Quoted else if b == byte "<" then Bracketed else Outside
place_after Quoted b = if b == byte "\"" then Outside else if b == byte "\\" then Escaped else Quoted
place_after Escaped b = Quoted
place_after Bracketed b = if b == byte ">" then Outside else Bracketed

-- a comma outside quoted text and angle brackets
abbrev pub is_cut : ListState → ℕ → Bool
is_cut Outside b = b == byte ","
is_cut place b = false

-- these bytes before the first item
abbrev pub onto : List ℕ → List (List ℕ) → List (List ℕ)
onto front [] = []
onto front (item ∷ items) = (front ++ item) ∷ items

-- what stands between the cuts, if each quote and each bracket is closed
abbrev pub between_cuts : ListState → List ℕ → Option (List (List ℕ))
between_cuts Outside [] = Some ([] ∷ [])
between_cuts place [] = None
between_cuts place (b ∷ bs) =
    if is_cut place b then option_map (λ items. [] ∷ items) (between_cuts Outside bs)
    else option_map (λ items. onto (b ∷ []) items) (between_cuts (place_after place b) bs)

-- whether there is no byte
abbrev pub is_nil : List ℕ → Bool
is_nil [] = true
is_nil (b ∷ bs) = false

-- the items trimmed, if none is empty
abbrev pub all_trimmed : List (List ℕ) → Option (List (List ℕ))
all_trimmed [] = Some []
all_trimmed (item ∷ items) = if is_nil (trimmed item) then None else option_map (λ others. trimmed item ∷ others) (all_trimmed items)

-- the items of a list; none where a quote or a bracket is open or an item is empty
abbrev pub cut : List ℕ → Option (List (List ℕ))
cut text = option_and_then all_trimmed (between_cuts Outside text)
