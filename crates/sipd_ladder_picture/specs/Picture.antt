-- A call as a drawing of SVG: a vertical line for the server and for each address, and a row for each rung, which needs no other file.
use Rattle.std.specs.Prelude.{ℕ, suc, ◌+◌, ◌*◌, List, [], ◌∷◌, ◌++◌, length, take, codes, decimal}
use Rattle.sip_uri.specs.Addresses.{addr_text}
use Rattle.sip_uri.specs.declared.addr.Addr.{Addr}
use Rattle.sipd_ladder.specs.Table.{call_text, known_behind, moment_text, name_of, places_of}
use Rattle.sipd_ladder.specs.declared.rung.AddrName.{AddrName}
use Rattle.sipd_ladder.specs.declared.rung.Rung.{Rung}
use Rattle.sipd_ladder_picture.specs.Parts.{line_of, row_at, text_at}
use Rattle.sipd_ladder_picture.specs.Rows.{rows_from}

-- ---- the head

-- how a drawing looks: what stands behind its size
unfoldable pub look : List ℕ
look =
    codes "\" font-family=\"system-ui,sans-serif\" font-size=\"12\">\n"
    ++ codes "<style>\ntext { text-anchor: middle; }\n.time, .title { text-anchor: start; }\n.time, .place { fill: #57606a; font-size: 11px; }\n"
    ++ codes ".name { font-weight: 600; }\n.line { stroke: #d0d7de; }\n"
    ++ codes "g path { fill: currentColor; stroke: currentColor; stroke-width: 1.5; }\ng text { fill: currentColor; }\n"
    ++ codes ".request { color: #0550ae; }\n.trying { color: #57606a; }\n.done { color: #1a7f37; }\n"
    ++ codes ".asked { color: #b35900; }\n.refused { color: #cf222e; }\n.note { color: #24292f; font-size: 11px; }\n"
    ++ codes ".note rect { fill: #f6f8fa; stroke: #d0d7de; }\n.note.done rect { fill: #dafbe1; }\n"
    ++ codes ".note.asked rect { fill: #fff8c5; }\n.note.refused rect { fill: #ffebe9; }\n"
    ++ codes "</style>\n<rect width=\"100%\" height=\"100%\" fill=\"#fff\"/>\n"

-- how wide a drawing of so many places is, and how high one of so many rows is (`row_at`)
abbrev pub width_of : ℕ → ℕ
width_of places = 240 + 230 * places

abbrev pub head : ℕ → ℕ → List ℕ
head places rows =
    codes "<svg xmlns=\"http://www.w3.org/2000/svg\" width=\"" ++ decimal (width_of places) ++ codes "\" height=\"" ++ decimal (row_at rows) ++ look

-- of which call it is, and when it began
abbrev pub title_of : List ℕ → Rung → List ℕ
title_of call_id first = call_text call_id ++ moment_text first.place.offset first.at

abbrev pub title_text : List ℕ → Rung → List ℕ
title_text call_id first = text_at 8 (codes "\" y=\"20\" class=\"title\">") (title_of call_id first) ++ codes "\n"

-- ---- lines

-- a stroke down to behind so many rows
abbrev pub stroke : ℕ → ℕ → List ℕ
stroke at rows = codes "<path class=\"line\" d=\"M" ++ decimal at ++ codes " 74V" ++ decimal (row_at rows) ++ codes "\"/>\n"

-- a line, under a name and an address
abbrev pub line_text : ℕ → ℕ → List ℕ → List ℕ → List ℕ
line_text at rows name addr =
    text_at at (codes "\" y=\"50\" class=\"name\">") (take 28 name) ++ text_at at (codes "\" y=\"66\" class=\"place\">") addr ++ stroke at rows

-- the line of an address, in front of which so many stand, under the user who was proven from there last
abbrev pub place_text : List AddrName → ℕ → ℕ → Addr → List ℕ
place_text names rows place addr = line_text (line_of place) rows (name_of names addr) (addr_text addr)

abbrev pub places_from : List AddrName → ℕ → ℕ → List Addr → List ℕ
places_from names rows place [] = []
places_from names rows place (addr ∷ places) = place_text names rows place addr ++ places_from names rows (suc place) places

-- the server's, and those of addresses
abbrev pub lines : List AddrName → ℕ → List Addr → List ℕ
lines names rows places = line_text 360 rows (codes "sipd") [] ++ places_from names rows 0 places

-- ---- the whole

abbrev pub front : List ℕ → List AddrName → List Addr → Rung → ℕ → List ℕ
front call_id names places first rows = head (length places) rows ++ title_text call_id first ++ lines names rows places

abbrev pub drawing_from : List ℕ → List AddrName → Rung → List Rung → List ℕ
drawing_from call_id names first rungs =
    front call_id (take (known_behind 0 rungs) names) (places_of rungs) first (length rungs) ++ rows_from first.at (places_of rungs) 0 rungs ++ codes "</svg>\n"

-- nothing where there is no rung
abbrev pub drawing : List ℕ → List AddrName → List Rung → List ℕ
drawing call_id names [] = []
drawing call_id names (first ∷ rungs) = drawing_from call_id names first (first ∷ rungs)
