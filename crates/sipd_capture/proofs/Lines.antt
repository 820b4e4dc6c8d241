-- Lines, and the parts of a value, hidden one after the other.
use Rattle.std.proofs.Common.{ℕ, suc, ◌≡◌, ◌<◌, ◌==◌, Bool, true, false, List, [], ◌∷◌, ◌++◌, map, length, Option, Some, None, refl, sym, ap, ◌∙◌, arith}
use Rattle.std.proofs.Common.{append_assoc, append-nil}
use Rattle.std.specs.Prelude.{if◌then◌else◌}
use Rattle.std.specs.List.{flat_map, join_with_byte}
use Rattle.sip_text.specs.Cuts.{parts_at, parts_behind}
use Rattle.sip_text.specs.Lists.{onto}
use Rattle.sip_text.specs.Splits.{split_at_byte}
use Rattle.sip_text.specs.TextLines.{lines_of}
use Rattle.sip_text.proofs.TextLines.{line_cut, last_cut}
use Rattle.sipd_capture.specs.declared.hiding.LinePlace.{LinePlace}
use Rattle.sipd_capture.specs.Hiding.{hidden_from, line_hidden, lines_hidden, piece_hidden, place_behind, value_hidden}

-- ---- lines

has_by : (b : ℕ) (lines : List (List ℕ)) (is : Bool) → 0 < length lines → 0 < length (if is then [] ∷ lines else onto (b ∷ []) lines)
has_by b lines true h = omega arith
has_by b [] false h = absurd (omega (arith, h))
has_by b (line ∷ lines) false h = omega arith

-- a text has a line
pub has_line : (bytes : List ℕ) → 0 < length (lines_of bytes)
has_line [] = omega arith
has_line (b ∷ bs) = has_by b (lines_of bs) (b == 10) (has_line bs)

joined_front : (text : List ℕ) (place : LinePlace) (lines : List (List ℕ)) → 0 < length lines
    → join_with_byte 10 (text ∷ lines_hidden place lines) ≡ text ++ 10 ∷ join_with_byte 10 (lines_hidden place lines)
joined_front text place [] h = absurd (omega (arith, h))
joined_front text place (line ∷ lines) h = refl

-- a line in front of others
line_on : (place : LinePlace) (bytes line rest : List ℕ) → Some (line, rest) ≡ split_at_byte 10 bytes
    → hidden_from place bytes ≡ line_hidden place line ++ 10 ∷ hidden_from (place_behind place line) rest
line_on place bytes line rest e =
    ap (λ (lines : List (List ℕ)). join_with_byte 10 (lines_hidden place lines)) (line_cut bytes line rest e).0
    ∙ joined_front (line_hidden place line) (place_behind place line) (lines_of rest) (has_line rest)

behind_one : (out text rest : List ℕ) → (out ++ text ++ 10 ∷ []) ++ rest ≡ out ++ (text ++ 10 ∷ rest)
behind_one out text rest = append_assoc (out ++ text) (10 ∷ []) rest ∙ append_assoc out text (10 ∷ rest)

goes_on : (out whole : List ℕ) (place : LinePlace) (bytes line rest : List ℕ) → Some (line, rest) ≡ split_at_byte 10 bytes
    → out ++ hidden_from place bytes ≡ whole → (out ++ line_hidden place line ++ 10 ∷ []) ++ hidden_from (place_behind place line) rest ≡ whole
goes_on out whole place bytes line rest e h =
    behind_one out (line_hidden place line) (hidden_from (place_behind place line) rest)
    ∙ ap (λ (l : List ℕ). out ++ l) (sym (line_on place bytes line rest e)) ∙ h

pub goes_on_by : (out here new whole : List ℕ) (place next : LinePlace) (bytes line rest : List ℕ) → Some (line, rest) ≡ split_at_byte 10 bytes
    → here ≡ out ++ line_hidden place line → new ≡ here ++ 10 ∷ [] → next ≡ place_behind place line → out ++ hidden_from place bytes ≡ whole
    → new ++ hidden_from next rest ≡ whole
goes_on_by out here new whole place next bytes line rest e one feed is h =
    ap (λ (l : List ℕ). l ++ hidden_from next rest) (feed ∙ ap (λ (l : List ℕ). l ++ 10 ∷ []) one)
    ∙ ap (λ (p : LinePlace). (out ++ line_hidden place line ++ 10 ∷ []) ++ hidden_from p rest) is ∙ goes_on out whole place bytes line rest e h

-- the last line
pub ends : (out whole : List ℕ) (place : LinePlace) (bytes : List ℕ) → None ≡ split_at_byte 10 bytes → out ++ hidden_from place bytes ≡ whole
    → out ++ line_hidden place bytes ≡ whole
ends out whole place bytes e h =
    ap (λ (l : List ℕ). out ++ l) (sym (ap (λ (lines : List (List ℕ)). join_with_byte 10 (lines_hidden place lines)) (last_cut bytes e))) ∙ h

-- ---- the parts of a value

-- a part behind a comma
abbrev pub comma_hidden : List ℕ → List ℕ
comma_hidden piece = 44 ∷ piece_hidden piece

-- how much is left
abbrev pub left_behind : Option (List ℕ) → ℕ
left_behind None = 0
left_behind (Some text) = suc (length text)

commas_joined : (piece : List ℕ) (pieces : List (List ℕ))
    → join_with_byte 44 (map piece_hidden (piece ∷ pieces)) ≡ piece_hidden piece ++ flat_map comma_hidden pieces
commas_joined piece [] = sym (append-nil (piece_hidden piece))
commas_joined piece (next ∷ pieces) = ap (λ (l : List ℕ). piece_hidden piece ++ 44 ∷ l) (commas_joined next pieces)

-- a value is its first part, and the others behind commas
value_is : (value piece : List ℕ) (rest : Option (List ℕ)) → parts_at 44 value ≡ piece ∷ parts_behind 44 rest
    → value_hidden value ≡ piece_hidden piece ++ flat_map comma_hidden (parts_behind 44 rest)
value_is value piece rest e =
    ap (λ (pieces : List (List ℕ)). join_with_byte 44 (map piece_hidden pieces)) e ∙ commas_joined piece (parts_behind 44 rest)

pub first_on : (out new value piece : List ℕ) (rest : Option (List ℕ)) → new ≡ out ++ piece_hidden piece → parts_at 44 value ≡ piece ∷ parts_behind 44 rest
    → new ++ flat_map comma_hidden (parts_behind 44 rest) ≡ out ++ value_hidden value
first_on out new value piece rest one e =
    ap (λ (l : List ℕ). l ++ flat_map comma_hidden (parts_behind 44 rest)) one
    ∙ append_assoc out (piece_hidden piece) (flat_map comma_hidden (parts_behind 44 rest)) ∙ ap (λ (l : List ℕ). out ++ l) (sym (value_is value piece rest e))
