-- Nothing is longer or shorter than what it hides.
use Rattle.std.proofs.Common.{ℕ, ◌≡◌, ◌<◌, ◌+◌, ◌==◌, Bool, true, false, List, [], ◌∷◌, ◌++◌, map, length, Option, Some, None, refl, sym, ap, ◌∙◌, arith}
use Rattle.std.proofs.Common.{length-append}
use Rattle.std.specs.Prelude.{if◌then◌else◌}
use Rattle.std.specs.List.{join_with_byte}
use Rattle.std.proofs.lemmas.Bool.{eqb-true}
use Rattle.std.proofs.lemmas.List.{length-map}
use Rattle.sip_text.specs.Cuts.{parts_at}
use Rattle.sip_text.specs.Lists.{onto}
use Rattle.sip_text.specs.Splits.{in_front, split_at_byte}
use Rattle.sip_text.specs.TextLines.{lines_of}
use Rattle.sip_text.proofs.PartLaws.{are_parted}
use Rattle.sipd_capture.specs.declared.hiding.LinePlace.{LinePlace}
use Rattle.sipd_capture.specs.declared.hiding.LinePlace.TheVariants.{Plain, Credentials, Body}
use Rattle.sipd_capture.specs.Hiding.{crossed, field_by, field_hidden, hidden, is_credentials, is_folded, is_named, line_hidden, lines_hidden, masked, piece_by}
use Rattle.sipd_capture.specs.Hiding.{piece_hidden, place_behind, value_hidden}
use Rattle.sipd_capture.proofs.Lines.{has_line}

-- ---- cut at a byte

abbrev LengthsOf : List ℕ → Option (List ℕ × List ℕ) → Type 0
LengthsOf text None = Unit {0}
LengthsOf text (Some parts) = length text ≡ length parts.0 + 1 + length parts.1

on_one : (b : ℕ) (bs : List ℕ) (cut : Option (List ℕ × List ℕ)) → LengthsOf bs cut → LengthsOf (b ∷ bs) (in_front (b ∷ []) cut)
on_one b bs None h = tt
on_one b bs (Some parts) h = omega (arith, h)

by_byte : (mark b : ℕ) (bs : List ℕ) (is : Bool) → LengthsOf bs (split_at_byte mark bs)
    → LengthsOf (b ∷ bs) (if is then Some ([], bs) else in_front (b ∷ []) (split_at_byte mark bs))
by_byte mark b bs true h = omega arith
by_byte mark b bs false h = on_one b bs (split_at_byte mark bs) h

lengths_of : (mark : ℕ) (text : List ℕ) → LengthsOf text (split_at_byte mark text)
lengths_of mark [] = tt
lengths_of mark (b ∷ bs) = by_byte mark b bs (b == mark) (lengths_of mark bs)

-- ---- values

split_length : (piece front value : List ℕ) (is : Bool) → length piece ≡ length front + 1 + length value
    → length (if is then front ++ 61 ∷ map masked value else map masked piece) ≡ length piece
split_length piece front value true h = omega (arith, length-append front (61 ∷ map masked value), length-map value masked, h)
split_length piece front value false h = omega (arith, length-map piece masked)

piece_by_length : (piece : List ℕ) (cut : Option (List ℕ × List ℕ)) → LengthsOf piece cut → length (piece_by piece cut) ≡ length piece
piece_by_length piece None h = omega (arith, length-map piece masked)
piece_by_length piece (Some parts) h = split_length piece parts.0 parts.1 (is_named parts.0) h

piece_length : (piece : List ℕ) → length (piece_hidden piece) ≡ length piece
piece_length piece = piece_by_length piece (split_at_byte 61 piece) (lengths_of 61 piece)

pieces_length : (pieces : List (List ℕ)) → length (join_with_byte 44 (map piece_hidden pieces)) ≡ length (join_with_byte 44 pieces)
pieces_length [] = refl
pieces_length (piece ∷ []) = piece_length piece
pieces_length (piece ∷ next ∷ others) =
    omega (
      arith,
      length-append (piece_hidden piece) (44 ∷ join_with_byte 44 (map piece_hidden (next ∷ others))),
      length-append piece (44 ∷ join_with_byte 44 (next ∷ others)),
      piece_length piece,
      pieces_length (next ∷ others),
    )

value_length : (value : List ℕ) → length (value_hidden value) ≡ length value
value_length value = pieces_length (parts_at 44 value) ∙ ap (λ (l : List ℕ). length l) (are_parted 44 value).whole

-- ---- lines

field_by_length : (line : List ℕ) (cut : Option (List ℕ × List ℕ)) → LengthsOf line cut → length (field_by line cut) ≡ length line
field_by_length line None h = refl
field_by_length line (Some parts) h = omega (arith, length-append parts.0 (58 ∷ value_hidden parts.1), value_length parts.1, h)

field_if : (line : List ℕ) (is : Bool) → length (if is then field_by line (split_at_byte 58 line) else line) ≡ length line
field_if line true = field_by_length line (split_at_byte 58 line) (lengths_of 58 line)
field_if line false = refl

folded_if : (line : List ℕ) (is : Bool) → length (if is then map masked line else field_hidden line) ≡ length line
folded_if line true = omega (arith, length-map line masked)
folded_if line false = field_if line (is_credentials line)

line_length : (place : LinePlace) (line : List ℕ) → length (line_hidden place line) ≡ length line
line_length Plain line = field_if line (is_credentials line)
line_length Credentials line = folded_if line (is_folded line)
line_length Body line = omega (arith, length-map line crossed)

lines_length : (place : LinePlace) (lines : List (List ℕ)) → length (join_with_byte 10 (lines_hidden place lines)) ≡ length (join_with_byte 10 lines)
lines_length place [] = refl
lines_length place (line ∷ []) = line_length place line
lines_length place (line ∷ next ∷ others) =
    omega (
      arith,
      length-append (line_hidden place line) (10 ∷ join_with_byte 10 (lines_hidden (place_behind place line) (next ∷ others))),
      length-append line (10 ∷ join_with_byte 10 (next ∷ others)),
      line_length place line,
      lines_length (place_behind place line) (next ∷ others),
    )

join_onto : (b : ℕ) (first : List ℕ) (others : List (List ℕ)) → join_with_byte 10 ((b ∷ first) ∷ others) ≡ b ∷ join_with_byte 10 (first ∷ others)
join_onto b first [] = refl
join_onto b first (next ∷ others) = refl

joined_by : (b : ℕ) (bs : List ℕ) (lines : List (List ℕ)) (is : Bool) → (b == 10) ≡ is → 0 < length lines → join_with_byte 10 lines ≡ bs
    → join_with_byte 10 (if is then [] ∷ lines else onto (b ∷ []) lines) ≡ b ∷ bs
joined_by b bs [] is e some h = absurd (omega (arith, some))
joined_by b bs (line ∷ lines) true e some h = ap (λ (l : List ℕ). 10 ∷ l) h ∙ ap (λ (k : ℕ). k ∷ bs) (sym (eqb-true b 10 e))
joined_by b bs (line ∷ lines) false e some h = join_onto b line lines ∙ ap (λ (l : List ℕ). b ∷ l) h

lines_joined : (bytes : List ℕ) → join_with_byte 10 (lines_of bytes) ≡ bytes
lines_joined [] = refl
lines_joined (b ∷ bs) = joined_by b bs (lines_of bs) (b == 10) refl (has_line bs) (lines_joined bs)

pub same_length : (bytes : List ℕ) → length (hidden bytes) ≡ length bytes
same_length bytes = lines_length Plain (lines_of bytes) ∙ ap (λ (l : List ℕ). length l) (lines_joined bytes)
