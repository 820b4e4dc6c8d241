-- What a drawing is put together from. The server's line is the second one: the first place is left of it, all others are right of it.
use Rattle.std.specs.Prelude.{ℕ, ◌+◌, ◌-◌, ◌*◌, ◌==◌, Bool, ◌&&◌, nat_lt, if◌then◌else◌, List, ◌++◌, map, codes, decimal}
use Rattle.sipd_ladder.specs.Drawing.{seconds_text}
use Rattle.sipd_ladder.specs.Saying.{plain}
use Rattle.sipd_ladder.specs.declared.drawing.Arrow.{Arrow}
use Rattle.sipd_report.specs.Html.{escaped}

-- ---- texts

-- What a text says as a drawing has it: printable ASCII, any other byte as a question mark, and none of it markup. A name, a Call-ID or a reason
-- may have any byte, and XML takes few that aren't printable (XML 1.0, 2.2).
abbrev pub shown : List ℕ → List ℕ
shown text = escaped (map plain text)

abbrev pub is_printable : ℕ → Bool
is_printable b = nat_lt 31 b && nat_lt b 127

-- a text at a place, behind the words that say how high, and of which kind
abbrev pub text_at : ℕ → List ℕ → List ℕ → List ℕ
text_at at words text = codes "<text x=\"" ++ decimal at ++ words ++ shown text ++ codes "</text>"

-- ---- where things stand

-- the line of a place; the server's is at 360
abbrev pub line_of : ℕ → ℕ
line_of place = if place == 0 then 130 else 360 + 230 * place

-- a row
abbrev pub row_at : ℕ → ℕ
row_at row = 100 + 26 * row

-- the word of an arrow: in the middle between the place's line and the one left of it, or, of the first place, the server's
abbrev pub middle_of : ℕ → ℕ
middle_of place = 245 + 230 * place

-- ---- a row's parts

-- where a row of a kind begins
abbrev pub begin : List ℕ → ℕ → List ℕ
begin kind row = codes "<g class=\"" ++ kind ++ codes "\" transform=\"translate(0 " ++ decimal (row_at row) ++ codes ")\">"

-- the time since the first message
abbrev pub time_text : ℕ → List ℕ
time_text milliseconds = codes "<text x=\"8\" y=\"4\" class=\"time\">" ++ seconds_text milliseconds ++ codes " s</text>"

-- a line from one place to another, with what is drawn at its end
abbrev pub path : ℕ → ℕ → List ℕ → List ℕ
path from to head = codes "<path d=\"M" ++ decimal from ++ codes " 0H" ++ decimal to ++ head

-- the lines at both ends of an arrow: the place's and the server's
abbrev pub left_line : ℕ → ℕ
left_line place = if place == 0 then 130 else 360

abbrev pub right_line : ℕ → ℕ
right_line place = 360 + 230 * place

-- its head ends in front of the line to which it goes
abbrev pub arrow_line : Arrow → List ℕ
arrow_line arrow =
    if arrow.rightward then path (left_line arrow.place) (right_line arrow.place - 2) (codes "m-8 -4l8 4l-8 4z\"/>")
    else path (right_line arrow.place) (left_line arrow.place + 2) (codes "m8 -4l-8 4l8 4z\"/>")

abbrev pub arrow_text : Arrow → List ℕ → List ℕ
arrow_text arrow word = arrow_line arrow ++ text_at (middle_of arrow.place) (codes "\" y=\"-5\">") word
