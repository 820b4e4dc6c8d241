-- A log, and what of it comes out of records again.
use Rattle.std.specs.Prelude.{ℕ, suc, ◌+◌, Bool, ◌==◌, ◌&&◌, nat_eq, if◌then◌else◌, List, [], ◌∷◌, ◌++◌, length, codes, decimal, slice_get, unwrap_or}
use Rattle.std.specs.List.{starts_with}
use Rattle.std.specs.Str.{bytes_eq}
use Rattle.sipd_report.specs.Totals.{capped}
use Rattle.sipd_matrix_forms.specs.Html.{text_block}

-- ---- its lines

-- a line that the server writes on standard error, which a log may hold, too
abbrev pub is_own : List ℕ → Bool
is_own line = starts_with nat_eq line (codes "sipd: ")

-- lines, and one more, unless it is such a one
abbrev pub with_line : List (List ℕ) → List ℕ → List (List ℕ)
with_line lines line = if is_own line then lines else lines ++ line ∷ []

-- the last line may have no LF
abbrev pub with_last : List (List ℕ) → List ℕ → List (List ℕ)
with_last lines line = if length line == 0 then lines else with_line lines line

-- lines, and the one that isn't ended yet, behind one byte more
abbrev pub lines_with : ℕ → List (List ℕ) → List ℕ → List (List ℕ)
lines_with b lines line = if b == 10 then with_line lines line else lines

abbrev pub line_with : ℕ → List ℕ → List ℕ
line_with b line = if b == 10 then [] else line ++ b ∷ []

-- and behind more bytes
abbrev pub lines_behind : List (List ℕ) → List ℕ → List ℕ → List (List ℕ)
lines_behind lines line [] = with_last lines line
lines_behind lines line (b ∷ bs) = lines_behind (lines_with b lines line) (line_with b line) bs

-- the lines of a log, but for those that the server writes on standard error
abbrev pub log_lines : List ℕ → List (List ℕ)
log_lines log = lines_behind [] [] log

-- ---- held against the lines of records

-- how many lines in front are the same, byte for byte
abbrev pub same_front : List (List ℕ) → List (List ℕ) → ℕ
same_front [] lines = 0
same_front (x ∷ xs) [] = 0
same_front (x ∷ xs) (y ∷ ys) = if bytes_eq x y then suc (same_front xs ys) else 0

-- a line of a place
abbrev pub line_at : ℕ → List (List ℕ) → List ℕ
line_at place lines = unwrap_or (slice_get lines place) (codes "(no line)")

-- all lines are the same
abbrev pub same_text : ℕ → List ℕ
same_text count =
    codes "<p class=\"allow\">The log comes out of the records again, byte for byte. Lines: " ++ decimal count ++ codes "</p>\n"

-- this one is the first that isn't
abbrev pub number_text : ℕ → List ℕ
number_text number =
    codes "<p class=\"deny\">The log does not come out of the records again. The first line that differs: " ++ decimal number ++ codes "</p>\n"

-- a line behind what it is of
abbrev pub line_text : List ℕ → List ℕ → List ℕ
line_text name line = name ++ text_block line

abbrev pub other_text : ℕ → List ℕ → List ℕ → List ℕ
other_text number logged own =
    number_text number ++ line_text (codes "<p>In the log:</p>\n") logged ++ line_text (codes "<p>By the records:</p>\n") own

abbrev pub verdict_at : ℕ → List (List ℕ) → List (List ℕ) → List ℕ
verdict_at same log lines =
    if (same == length log) && (same == length lines) then same_text same
    else other_text (capped (same + 1)) (line_at same log) (line_at same lines)

-- whether a log comes out of the lines again, and where it doesn't
abbrev pub verdict_text : List (List ℕ) → List (List ℕ) → List ℕ
verdict_text log lines = verdict_at (same_front log lines) log lines
