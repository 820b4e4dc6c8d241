-- Texts in HTML, none of which is markup.
use Rattle.std.specs.Prelude.{ℕ, Bool, true, ◌&&◌, ◌||◌, ◌==◌, nat_eq, if◌then◌else◌, List, [], ◌∷◌, codes}
use Rattle.std.specs.List.{flat_map, list_any, starts_with}
use Rattle.std.specs.Str.{byte}

-- a byte of a text: what could be markup is written by its name or number
abbrev pub escaped_byte : ℕ → List ℕ
escaped_byte b =
    if b == byte "&" then codes "&amp;"
    else (if b == byte "<" then codes "&lt;"
    else (if b == byte ">" then codes "&gt;"
    else (if b == byte "\"" then codes "&quot;"
    else (if b == byte "'" then codes "&#39;" else b ∷ []))))

abbrev pub escaped : List ℕ → List ℕ
escaped text = flat_map escaped_byte text

-- whether a byte begins or ends a tag or an attribute
abbrev pub is_markup : ℕ → Bool
is_markup b = b == byte "<" || (b == byte ">" || (b == byte "\"" || b == byte "'"))

-- whether one of the five names or numbers stands in front
abbrev pub begins_reference : List ℕ → Bool
begins_reference text =
    list_any (starts_with nat_eq text) (codes "amp;" ∷ codes "lt;" ∷ codes "gt;" ∷ codes "quot;" ∷ codes "#39;" ∷ [])

-- whether such a one stands behind each `&`
abbrev pub are_references : List ℕ → Bool
are_references [] = true
are_references (b ∷ bs) = (if b == byte "&" then begins_reference bs else true) && are_references bs
