-- How many addresses of record had a live binding over the time, as a picture (SVG 1.1): a step line.
use Rattle.std.specs.Prelude.{ℕ, ◌+◌, ◌-◌, ◌*◌, ◌/◌, ◌==◌, max, if◌then◌else◌, ℤ, List, [], ◌∷◌, ◌++◌, length, fold, codes, decimal}
use Rattle.sipd_report.specs.Totals.{capped}
use Rattle.sipd_calls.specs.Moments.{start_text}
use Rattle.sipd_page_sections.specs.Notes.{step}

-- the most addresses; one, if there was none
abbrev pub with_most : ℕ → ℕ → ℕ
with_most n value = max value n

abbrev pub most_of : List ℕ → ℕ
most_of live = fold with_most 1 live

-- how far a moment is to the right, of so many, and how far a number is up, of so many
abbrev pub right : ℕ → ℕ → ℕ
right place count = capped (capped (place * 900) / count + 40)

abbrev pub up : ℕ → ℕ → ℕ
up value most = 180 - capped (value * 160) / most

-- the line goes to a moment, and up or down
abbrev pub point : ℕ → ℕ → ℕ → ℕ → List ℕ
point place count most value = codes "H" ++ decimal (right place count) ++ codes "V" ++ decimal (up value most)

abbrev pub points : ℕ → ℕ → ℕ → List ℕ → List ℕ
points place count most [] = []
points place count most (value ∷ values) = point place count most value ++ points (place + 1) count most values

-- the moment of the look so many looks before the last
abbrev pub looked_at : ℕ → ℕ → ℕ
looked_at at before = capped ((at / step - before) * step)

-- what stands before the line: the axes
abbrev pub picture_begin : List ℕ
picture_begin =
    codes "<svg xmlns=\"http://www.w3.org/2000/svg\" viewBox=\"0 0 980 215\" width=\"980\" height=\"215\">\n"
    ++ codes "<path class=\"axis\" d=\"M40 20H940M40 180H940\"/>\n"

abbrev pub line_by : ℕ → List ℕ → List ℕ
line_by most live = codes "<path class=\"live\" d=\"M40 180" ++ points 0 (length live) most live ++ codes "H940\"/>\n"

-- the most and none beside the axes
abbrev pub scale_text : ℕ → List ℕ
scale_text most =
    codes "<text x=\"34\" y=\"24\" class=\"end\">" ++ decimal most ++ codes "</text>\n<text x=\"34\" y=\"184\" class=\"end\">0</text>\n"

-- the first and the last moment under them
abbrev pub first_text : ℤ → ℕ → List ℕ
first_text offset at = codes "<text x=\"40\" y=\"204\">" ++ start_text offset at ++ codes "</text>\n"

abbrev pub last_text : ℤ → ℕ → List ℕ
last_text offset at = codes "<text x=\"940\" y=\"204\" class=\"end\">" ++ start_text offset at ++ codes "</text>\n</svg>\n"

abbrev pub drawn : ℤ → ℕ → ℕ → List ℕ → List ℕ
drawn offset at most live =
    picture_begin ++ line_by most live ++ scale_text most ++ first_text offset (looked_at at (length live - 1)) ++ last_text offset (looked_at at 0)

-- the picture of a record whose last step was at a moment
abbrev pub picture_text : ℤ → ℕ → List ℕ → List ℕ
picture_text offset at live =
    if length live == 0 then codes "<p>The record is too short for a picture: it is looked at every five minutes.</p>\n"
    else drawn offset at (most_of live) live
