-- A line of the diagram. The server's own line is the second one: the first place is left of it, all others are right of it.
use Rattle.std.specs.Prelude.{ℕ, zero, suc, ◌-◌, ◌/◌, ◌%◌, ◌==◌, Bool, not, ◌&&◌, nat_le, nat_lt, if◌then◌else◌, List, [], ◌∷◌, ◌++◌, length, map, take, replicate}
use Rattle.std.specs.Prelude.{codes, decimal, Option, None, Some}
use Rattle.sipd_report.specs.Cells.{padded}
use Rattle.sipd_ladder.specs.Saying.{plain}
use Rattle.sipd_ladder.specs.declared.drawing.Arrow.{Arrow}

-- a text so many times
abbrev pub times : ℕ → List ℕ → List ℕ
times zero text = []
times (suc n) text = times n text ++ text

-- ---- signs

-- a dash, a line, a line that is crossed, and the ends of arrows, each as UTF-8: U+2500, U+2502, U+253C, U+25B6, U+25C0
abbrev pub dash : List ℕ
dash = 226 ∷ 148 ∷ 128 ∷ []

abbrev pub bar : List ℕ
bar = 226 ∷ 148 ∷ 130 ∷ []

abbrev pub crossing : List ℕ
crossing = 226 ∷ 148 ∷ 188 ∷ []

abbrev pub to_right : List ℕ
to_right = 226 ∷ 150 ∷ 182 ∷ []

abbrev pub to_left : List ℕ
to_left = 226 ∷ 151 ∷ 128 ∷ []

abbrev pub dashes : ℕ → List ℕ
dashes n = times n dash

-- a gap of 29 columns that nothing crosses, and the line behind it
abbrev pub empty_gap : List ℕ
empty_gap = replicate 29 32 ++ bar

-- ---- an arrow

-- the first of the gaps between lines that an arrow of a place crosses; the last has the place's number
abbrev pub first_gap : ℕ → ℕ
first_gap place = if place == 0 then 0 else 1

abbrev pub is_crossed : Arrow → ℕ → Bool
is_crossed arrow gap = nat_le (first_gap arrow.place) gap && nat_le gap arrow.place

abbrev pub left_end : Arrow → ℕ → List ℕ
left_end arrow gap = if not arrow.rightward && gap == first_gap arrow.place then to_left else dash

abbrev pub right_end : Arrow → ℕ → List ℕ
right_end arrow gap = if arrow.rightward && gap == arrow.place then to_right else dash

-- a word of at most 23 bytes in the middle of 27 columns
abbrev pub labeled : List ℕ → List ℕ
labeled word = dashes ((25 - length word) / 2) ++ codes " " ++ word ++ codes " " ++ dashes (25 - length word - (25 - length word) / 2)

abbrev pub body : Arrow → List ℕ → ℕ → List ℕ
body arrow word gap = if gap == arrow.place then labeled word else dashes 27

-- what stands in a gap of 29 columns
abbrev pub gap_text : Arrow → List ℕ → ℕ → List ℕ
gap_text arrow word gap =
    if is_crossed arrow gap then left_end arrow gap ++ body arrow word gap ++ right_end arrow gap else replicate 29 32

-- the line in front of a gap, crossed or not
abbrev pub line_text : Arrow → ℕ → List ℕ
line_text arrow gap =
    if nat_lt (first_gap arrow.place) gap && nat_le gap arrow.place then crossing else bar

abbrev pub cell : Arrow → List ℕ → ℕ → List ℕ
cell arrow word gap = line_text arrow gap ++ gap_text arrow word gap

-- so many gaps, with the lines in front of them
abbrev pub cells_to : Arrow → List ℕ → ℕ → List ℕ
cells_to arrow word zero = []
cells_to arrow word (suc n) = cells_to arrow word n ++ cell arrow word n

-- ---- times

abbrev pub three_digits : ℕ → List ℕ
three_digits n = decimal (n / 100) ++ decimal (n / 10 % 10) ++ decimal (n % 10)

-- seconds and milliseconds, as 12.034
abbrev pub seconds_text : ℕ → List ℕ
seconds_text milliseconds = decimal (milliseconds / 1000) ++ codes "." ++ three_digits (milliseconds % 1000)

-- in eight columns
abbrev pub time_cell : ℕ → List ℕ
time_cell milliseconds = replicate (8 - length (seconds_text milliseconds)) 32 ++ seconds_text milliseconds

-- ---- rows

-- a row with an arrow, of so many places
abbrev pub arrow_row : ℕ → ℕ → Arrow → List ℕ → List ℕ
arrow_row milliseconds places arrow word = time_cell milliseconds ++ codes "    " ++ cells_to arrow word places ++ bar ++ codes "\n"

-- who was proven, right in 29 columns
abbrev pub proven_text : List ℕ → List ℕ
proven_text name = codes "proven: " ++ map plain (take 19 name)

abbrev pub left_note : Option (List ℕ) → List ℕ
left_note None = replicate 29 32
left_note (Some name) = replicate (27 - length (proven_text name)) 32 ++ proven_text name ++ codes "  "

-- a text right of the server's line; in a gap of 29 columns, where others follow
abbrev pub right_note : ℕ → List ℕ → List ℕ
right_note others text = if others == 0 then codes " " ++ text else codes " " ++ padded 28 text ++ bar ++ times (others - 1) empty_gap

-- a row of that, of so many places
abbrev pub note_row : ℕ → Option (List ℕ) → List ℕ → List ℕ
note_row places who text = replicate 12 32 ++ bar ++ left_note who ++ bar ++ right_note (places - 1) text ++ codes "\n"
