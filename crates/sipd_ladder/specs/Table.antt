-- The diagram of a call.
use Rattle.std.specs.Prelude.{ℕ, ℤ, ◌-◌, ◌/◌, ◌%◌, ◌==◌, Bool, true, false, if◌then◌else◌, List, [], ◌∷◌, ◌++◌, length, map, take, replicate, codes}
use Rattle.std.specs.Prelude.{position, unwrap_or}
use Rattle.std.specs.List.{flat_map}
use Rattle.std.specs.Str.{byte}
use Rattle.sip_text.specs.Lists.{end_trimmed}
use Rattle.sip_uri.specs.declared.addr.Addr.{Addr}
use Rattle.sip_uri.specs.Addresses.{addr_text}
use Rattle.sip_dialog.specs.Addresses.{is_same_addr}
use Rattle.sipd_report.specs.Cells.{padded}
use Rattle.sipd_report.specs.Times.{dated_text, offset_text, shown_seconds}
use Rattle.sipd_ladder.specs.declared.drawing.Arrow.{Arrow}
use Rattle.sipd_ladder.specs.declared.rung.AddrName.{AddrName}
use Rattle.sipd_ladder.specs.declared.rung.Rung.{Rung}
use Rattle.sipd_ladder.specs.declared.rung.RungKind.{RungKind}
use Rattle.sipd_ladder.specs.declared.rung.RungKind.TheVariants.{Came, Noted, Went}
use Rattle.sipd_ladder.specs.Drawing.{arrow_row, note_row, three_digits}
use Rattle.sipd_ladder.specs.Saying.{plain}

-- ---- places

-- an address goes last, unless it is there
abbrev pub with_place : List Addr → Addr → List Addr
with_place [] addr = addr ∷ []
with_place (known ∷ places) addr = if is_same_addr known addr then known ∷ places else known ∷ with_place places addr

-- the addresses that rungs name behind others, in the order in which they come
abbrev pub with_kind : List Addr → RungKind → List Addr
with_kind places (Came from again word bytes) = with_place places from
with_kind places (Noted who text) = places
with_kind places (Went to again word) = with_place places to

abbrev pub places_behind : List Addr → List Rung → List Addr
places_behind places [] = places
places_behind places (rung ∷ rungs) = places_behind (with_kind places rung.kind) rungs

abbrev pub places_of : List Rung → List Addr
places_of rungs = places_behind [] rungs

-- where an address stands
abbrev pub place_of : Addr → List Addr → ℕ
place_of addr places = unwrap_or (position (λ known. is_same_addr known addr) places) 0

-- the user who was proven last from an address; nothing where none was
abbrev pub name_behind : List ℕ → Addr → List AddrName → List ℕ
name_behind found addr [] = found
name_behind found addr (n ∷ names) = name_behind (if is_same_addr n.addr addr then n.name else found) addr names

abbrev pub name_of : List AddrName → Addr → List ℕ
name_of names addr = name_behind [] addr names

-- ---- rows

-- an arrow to the server, and one from it
abbrev pub inward : ℕ → Arrow
inward place = record { place = place; rightward = place == 0 }

abbrev pub outward : ℕ → Arrow
outward place = record { place = place; rightward = if place == 0 then false else true }

-- a word that fits, with a mark where a message came or went again
abbrev pub label : Bool → List ℕ → List ℕ
label true word = take 17 word ++ codes " again"
label false word = take 23 word

abbrev pub came_row : ℕ → List Addr → Addr → Bool → List ℕ → List ℕ
came_row since places from again word = arrow_row since (length places) (inward (place_of from places)) (label again word)

abbrev pub went_row : ℕ → List Addr → Addr → Bool → List ℕ → List ℕ
went_row since places to again word = arrow_row since (length places) (outward (place_of to places)) (label again word)

abbrev pub row_by : ℕ → List Addr → RungKind → List ℕ
row_by since places (Came from again word bytes) = came_row since places from again word
row_by since places (Noted who text) = note_row (length places) who text
row_by since places (Went to again word) = went_row since places to again word

abbrev pub rung_row : ℕ → List Addr → Rung → List ℕ
rung_row first places rung = row_by (rung.at - first) places rung.kind

-- ---- the head

-- a text over a line that stands in so many columns behind that one
abbrev pub head_cell : ℕ → ℕ → List ℕ → List ℕ
head_cell width line text = padded width (replicate (line - length (take 28 text) / 2) 32 ++ take 28 text)

-- texts over the first place's line, the server's, and those of the others
abbrev pub first_cells : List ℕ → List ℕ → List ℕ
first_cells first own = head_cell 27 12 first ++ head_cell 30 15 own

abbrev pub head_cells : List ℕ → List (List ℕ) → List ℕ
head_cells own [] = first_cells [] own
head_cells own (first ∷ others) = first_cells first own ++ flat_map (head_cell 30 15) others

abbrev pub head_row : List ℕ → List (List ℕ) → List ℕ
head_row own texts = end_trimmed (head_cells own texts) ++ 10 ∷ []

abbrev pub shown_name : List AddrName → Addr → List ℕ
shown_name names addr = map plain (name_of names addr)

-- who is where, and the addresses
abbrev pub head_rows : List AddrName → List Addr → List ℕ
head_rows names places = head_row (codes "sipd") (map (shown_name names) places) ++ head_row [] (map addr_text places)

-- ---- the whole

-- when it began, and on which clock
abbrev pub zone_text : ℤ → List ℕ
zone_text offset = codes " (UTC" ++ offset_text offset ++ codes ")"

abbrev pub moment_text : ℤ → ℕ → List ℕ
moment_text offset at = dated_text (byte " ") (shown_seconds at offset) ++ codes "." ++ three_digits (at % 1000) ++ zone_text offset

abbrev pub call_text : List ℕ → List ℕ
call_text call_id = codes "call " ++ map plain call_id ++ codes ", "

abbrev pub title_at : List ℕ → ℤ → ℕ → List ℕ
title_at call_id offset at = call_text call_id ++ moment_text offset at ++ 10 ∷ 10 ∷ []

-- how many users were proven by the last rung
abbrev pub known_behind : ℕ → List Rung → ℕ
known_behind found [] = found
known_behind found (rung ∷ rungs) = known_behind rung.place.known rungs

abbrev pub diagram_from : List ℕ → List AddrName → List Addr → Rung → List Rung → List ℕ
diagram_from call_id names places first rungs =
    title_at call_id first.place.offset first.at ++ head_rows (take (known_behind 0 rungs) names) places ++ flat_map (rung_row first.at places) rungs

-- nothing where there is no rung
abbrev pub ladder_text : List ℕ → List AddrName → List Rung → List ℕ
ladder_text call_id names [] = []
ladder_text call_id names (first ∷ rungs) = diagram_from call_id names (places_of (first ∷ rungs)) first (first ∷ rungs)
