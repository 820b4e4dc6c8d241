-- The rows of a drawing: one for each rung, in their order.
use Rattle.std.specs.Prelude.{ℕ, suc, ◌-◌, Bool, List, [], ◌∷◌, ◌++◌, take, codes, Option, None, Some}
use Rattle.sip_uri.specs.declared.addr.Addr.{Addr}
use Rattle.sipd_ladder.specs.Table.{inward, label, outward, place_of}
use Rattle.sipd_ladder.specs.declared.drawing.Arrow.{Arrow}
use Rattle.sipd_ladder.specs.declared.rung.Rung.{Rung}
use Rattle.sipd_ladder.specs.declared.rung.RungKind.{RungKind}
use Rattle.sipd_ladder.specs.declared.rung.RungKind.TheVariants.{Came, Noted, Went}
use Rattle.sipd_ladder_picture.specs.Kinds.{kind_of, note_kind}
use Rattle.sipd_ladder_picture.specs.Parts.{arrow_text, begin, text_at, time_text}

-- a message: its time, an arrow and its word
abbrev pub message_row : ℕ → ℕ → Arrow → Bool → List ℕ → List ℕ
message_row row since arrow again word =
    begin (kind_of word) row ++ time_text since ++ arrow_text arrow (label again word) ++ codes "</g>\n"

-- what was decided, and of whom, if somebody was proven; or what happened
abbrev pub note_words : Option (List ℕ) → List ℕ → List ℕ
note_words None text = text
note_words (Some name) text = text ++ codes ", proven: " ++ take 19 name

abbrev pub note : List ℕ
note = codes "<rect x=\"210\" y=\"-14\" width=\"300\" height=\"20\" rx=\"4\"/>"

abbrev pub note_row : ℕ → Option (List ℕ) → List ℕ → List ℕ
note_row row who text = begin (note_kind text) row ++ note ++ text_at 360 (codes "\" y=\"0\">") (note_words who text) ++ codes "</g>\n"

abbrev pub row_by : ℕ → ℕ → List Addr → RungKind → List ℕ
row_by row since places (Came from again word bytes) = message_row row since (inward (place_of from places)) again word
row_by row since places (Noted who text) = note_row row who text
row_by row since places (Went to again word) = message_row row since (outward (place_of to places)) again word

-- the row of a rung, in front of which so many stand
abbrev pub rung_row : ℕ → List Addr → ℕ → Rung → List ℕ
rung_row first places row rung = row_by row (rung.at - first) places rung.kind

-- the rows of rungs, in front of which so many stand
abbrev pub rows_from : ℕ → List Addr → ℕ → List Rung → List ℕ
rows_from first places row [] = []
rows_from first places row (rung ∷ rungs) = rung_row first places row rung ++ rows_from first places (suc row) rungs
