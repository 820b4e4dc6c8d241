-- The lines of a datagram, and the folds that make several lines one (RFC 3261 7, 7.3.1).
use Rattle.std.specs.Prelude.{◌≡◌, ◌≢◌, ℕ, Bool, true, false, ◌&&◌, ◌==◌, if◌then◌else◌, List, [], ◌∷◌, ◌++◌, replicate, codes, Option}
use Rattle.std.specs.Prelude.{Some, None, option_map}
use Rattle.std.specs.List.{flat_map, AllByRecursion}
use Rattle.std.specs.Str.{byte}
use Rattle.sip_text.specs.Lists.{is_blank, front_trimmed, end_trimmed, onto}
use Rattle.sip_text.specs.Splits.{in_front}

-- CR and LF, which end a line (RFC 3261 7)
abbrev pub is_crlf : ℕ → ℕ → Bool
is_crlf b c = b == 13 && c == 10

-- ---- what a datagram is made of

-- no CRLF stands in it
abbrev pub IsOneLine : List ℕ → Type 0
IsOneLine [] = Unit {0}
IsOneLine (b ∷ []) = Unit {0}
IsOneLine (b ∷ c ∷ rest) = (is_crlf b c ≡ false) × IsOneLine (c ∷ rest)

-- one line that isn't empty
abbrev pub IsLine : List ℕ → Type 0
IsLine line = IsOneLine line × (line ≢ [])

-- lines, each with its CRLF
abbrev pub as_lines : List (List ℕ) → List ℕ
as_lines lines = flat_map (λ line. line ++ codes "\r\n") lines

-- A datagram is any number of empty lines (RFC 3261 7.5), a first line, further lines, an empty line and the rest (7).
pub record IsCut (bytes first : List ℕ) (lines : List (List ℕ)) (rest : List ℕ) : Type 0 where
  pub blanks : ℕ
  pub whole : bytes ≡ as_lines (replicate blanks []) ++ (first ++ 13 ∷ 10 ∷ (as_lines lines ++ 13 ∷ 10 ∷ rest))
  pub is_line : IsLine first
  pub are_lines : AllByRecursion IsLine lines

-- ---- how it is taken apart

-- what follows the empty lines at the front (RFC 3261 7.5)
abbrev pub after_blanks : List ℕ → List ℕ
after_blanks [] = []
after_blanks (b ∷ []) = b ∷ []
after_blanks (b ∷ c ∷ rest) = if is_crlf b c then after_blanks rest else b ∷ c ∷ rest

-- the first line, and what follows its CRLF (RFC 3261 7)
abbrev pub line_at : List ℕ → Option (List ℕ × List ℕ)
line_at [] = None
line_at (b ∷ []) = None
line_at (b ∷ c ∷ rest) = if is_crlf b c then Some ([], rest) else in_front (b ∷ []) (line_at (c ∷ rest))

-- The lines up to an empty one, and what follows it (RFC 3261 7). Of a line that has begun, the rest comes first.
abbrev pub lines_at : Bool → List ℕ → Option (List (List ℕ) × List ℕ)
lines_at has_begun [] = None
lines_at has_begun (b ∷ []) = None
lines_at has_begun (b ∷ c ∷ rest) =
    if is_crlf b c then
    (if has_begun then option_map (λ x. ([] ∷ x.0, x.1)) (lines_at false rest) else Some ([], rest))
    else option_map (λ x. (onto (b ∷ []) x.0, x.1)) (lines_at true (c ∷ rest))

-- ---- folds

-- A line that begins with a space or a tab goes on with the line before it (RFC 3261 7.3.1).
abbrev pub is_fold : List ℕ → Bool
is_fold [] = false
is_fold (b ∷ bs) = is_blank b

-- A line and a fold of it: the blanks around the line's end count as one space (RFC 3261 7.3.1, LWS in 25.1).
abbrev pub joined : List ℕ → List ℕ → List ℕ
joined line fold = end_trimmed line ++ byte " " ∷ front_trimmed fold

-- a line and the lines behind it, each with its folds
abbrev pub unfolded_on : List ℕ → List (List ℕ) → List (List ℕ)
unfolded_on line [] = line ∷ []
unfolded_on line (next ∷ lines) = if is_fold next then unfolded_on (joined line next) lines else line ∷ unfolded_on next lines

-- lines, each with its folds (RFC 3261 7.3.1)
abbrev pub unfolded : List (List ℕ) → List (List ℕ)
unfolded [] = []
unfolded (line ∷ lines) = unfolded_on line lines

-- the lines of a head, each with its folds, and what follows the empty line
abbrev pub head_at : List ℕ → Option (List (List ℕ) × List ℕ)
head_at bytes = option_map (λ x. (unfolded x.0, x.1)) (lines_at false bytes)

-- ---- which lines have folds

-- whether a line has a fold, and each of the lines behind it, once they are unfolded
abbrev pub folds_on : Bool → List (List ℕ) → List Bool
folds_on has_fold [] = has_fold ∷ []
folds_on has_fold (next ∷ lines) = if is_fold next then folds_on true lines else has_fold ∷ folds_on false lines

-- whether each line has a fold, once lines are unfolded (RFC 3261 7.3.1)
abbrev pub folds_of : List (List ℕ) → List Bool
folds_of [] = []
folds_of (line ∷ lines) = folds_on false lines
