-- What programs get: a line of CSV (RFC 4180), or an object of JSON (RFC 8259); and a row of a table of HTML.
use Rattle.std.specs.Prelude.{ℕ, Bool, false, ◌==◌, ◌/◌, ◌%◌, ◌||◌, nat_lt, if◌then◌else◌, List, [], ◌∷◌, ◌++◌, codes, decimal}
use Rattle.std.specs.List.{flat_map}
use Rattle.std.specs.Str.{byte, is_utf8}
use Rattle.sip_audit.specs.Lines.{upper_digit}
use Rattle.sipd_report.specs.Cells.{field_text}
use Rattle.sipd_report.specs.Html.{escaped}
use Rattle.sipd_calls.specs.declared.notation.Notation.{Notation}
use Rattle.sipd_calls.specs.declared.notation.Notation.TheVariants.{Csv, Json, Html}
use Rattle.sipd_calls.specs.declared.notation.Value.{Value}
use Rattle.sipd_calls.specs.declared.notation.Value.TheVariants as values

-- what a member says: words, a number, or nothing
pub data Said : Type 0 where
  Words : List ℕ → Said
  Number : ℕ → Said
  Nothing : Said

abbrev pub seen : Value → Said
seen (values.Words text) = Words text.now
seen (values.Number n) = Number n
seen values.Nothing = Nothing

-- ---- JSON

-- a quote or a backslash
abbrev pub is_marked : ℕ → Bool
is_marked b = b == 34 || b == 92

-- a byte that isn't printable ASCII
abbrev pub is_hidden : ℕ → Bool
is_hidden b = nat_lt b 32 || nat_lt 126 b

-- a byte of a text: a quote or a backslash behind a backslash, and any other that isn't printable ASCII as \u00HH (RFC 8259 7)
abbrev pub text_byte : ℕ → List ℕ
text_byte b =
    if is_marked b then 92 ∷ b ∷ []
    else if is_hidden b then 92 ∷ byte "u" ∷ byte "0" ∷ byte "0" ∷ upper_digit (b / 16) ∷ upper_digit (b % 16) ∷ []
    else b ∷ []

-- a text between quotes
abbrev pub json_text : List ℕ → List ℕ
json_text text = (34 ∷ []) ++ flat_map text_byte text ++ (34 ∷ [])

abbrev pub json_value : Said → List ℕ
json_value (Words text) = json_text text
json_value (Number n) = decimal n
json_value Nothing = codes "null"

-- ---- CSV

-- a byte of a text that isn't UTF-8: one that isn't ASCII as \xHH
abbrev pub spelled_byte : ℕ → List ℕ
spelled_byte b = if nat_lt 127 b then 92 ∷ byte "x" ∷ upper_digit (b / 16) ∷ upper_digit (b % 16) ∷ [] else b ∷ []

-- such a text, and any other as it is
abbrev pub plain_text : List ℕ → List ℕ
plain_text text = if is_utf8 text then text else flat_map spelled_byte text

-- a byte by which a spreadsheet takes what follows for a formula: one of = + - @, a tab, or CR
abbrev pub begins_formula : ℕ → Bool
begins_formula b = b == byte "=" || b == byte "+" || b == byte "-" || b == byte "@" || b == 9 || b == 13

abbrev pub is_formula : List ℕ → Bool
is_formula [] = false
is_formula (b ∷ bs) = begins_formula b

-- what a cell says of words: where they would be taken for a formula, behind a single quote
abbrev pub cell_said : List ℕ → List ℕ
cell_said text = (if is_formula text then byte "'" ∷ [] else []) ++ plain_text text

abbrev pub csv_value : Said → List ℕ
csv_value (Words text) = field_text (cell_said text)
csv_value (Number n) = decimal n
csv_value Nothing = []

-- ---- HTML

-- a cell of a text, and one of a number
abbrev pub html_text : List ℕ → List ℕ
html_text text = codes "<td>" ++ escaped text ++ codes "</td>"

abbrev pub html_number : ℕ → List ℕ
html_number n = codes "<td class=\"n\">" ++ decimal n ++ codes "</td>"

abbrev pub html_value : Said → List ℕ
html_value (Words text) = html_text text
html_value (Number n) = html_number n
html_value Nothing = codes "<td></td>"

-- ---- members

-- a member: in JSON with its name
abbrev pub member_text : Notation → List ℕ → Said → List ℕ
member_text Csv name value = csv_value value
member_text Json name value = json_text name ++ (58 ∷ []) ++ json_value value
member_text Html name value = html_value value

-- the first one
abbrev pub first_text : Notation → List ℕ → Said → List ℕ
first_text Csv name value = member_text Csv name value
first_text Json name value = (123 ∷ []) ++ member_text Json name value
first_text Html name value = codes "<tr>" ++ member_text Html name value

-- what stands between two
abbrev pub comma : Notation → List ℕ
comma Csv = codes ","
comma Json = codes ","
comma Html = []

-- one that follows others
abbrev pub further_text : Notation → List ℕ → Said → List ℕ
further_text notation name value = comma notation ++ member_text notation name value

-- the end
abbrev pub end_text : Notation → List ℕ
end_text Csv = 13 ∷ 10 ∷ []
end_text Json = 125 ∷ 10 ∷ []
end_text Html = codes "</tr>\n"
