-- Escapes and quoted text (RFC 3261 25.1, escaped and quoted-string), read from the left. Their
-- grammars stand in EscapedText and QuotedText, and `escapes_are_pieces` and `quotes_are_pieces` are
-- the proofs that they are the same.
use Rattle.std.specs.Prelude.{◌≡◌, ℕ, Bool, ◌+◌, ◌*◌, ◌&&◌, ◌==◌, not, if◌then◌else◌, List, [], ◌∷◌, ◌++◌, Option, Some, None, option_map}
use Rattle.std.specs.Char.{is_ascii_hexdigit, digit_value}
use Rattle.std.specs.List.{take_while}
use Rattle.std.specs.Str.{byte}

-- the bytes that a text with escapes `%HH` stands for, if each `%` begins one
abbrev pub unescaped : List ℕ → Option (List ℕ)
unescaped [] = Some []
unescaped (b ∷ h ∷ l ∷ rest) =
    if b == byte "%" then
    (if is_ascii_hexdigit h && is_ascii_hexdigit l then option_map (λ v. (16 * digit_value h + digit_value l) ∷ v) (unescaped rest) else None)
    else option_map (λ v. b ∷ v) (unescaped (h ∷ l ∷ rest))
unescaped (b ∷ rest) = if b == byte "%" then None else option_map (λ v. b ∷ v) (unescaped rest)

-- the same behind a front
abbrev pub with_front : List ℕ → Option (List ℕ) → Option (List ℕ)
with_front front value = option_map (λ v. front ++ v) value

-- the text begins with a `%`
abbrev pub BeginsEscape : List ℕ → Type 0
BeginsEscape [] = ⊥
BeginsEscape (b ∷ rest) = b ≡ byte "%"

-- what the rest of a quoted text says, up to a last `"`
abbrev pub inside_quotes : List ℕ → Option (List ℕ)
inside_quotes [] = None
inside_quotes (b ∷ []) = if b == byte "\"" then Some [] else None
inside_quotes (b ∷ c ∷ rest) =
    if b == byte "\"" then None
    else if b == byte "\\" then option_map (λ v. c ∷ v) (inside_quotes rest)
    else option_map (λ v. b ∷ v) (inside_quotes (c ∷ rest))

-- the same of a rest that is no more than its last `"`
abbrev pub at_end : List ℕ → Option (List ℕ)
at_end [] = None
at_end (b ∷ []) = if b == byte "\"" then Some [] else None
at_end (b ∷ c ∷ rest) = None

-- what a quoted text says: what stands between its quotes, a `\` standing for the byte behind it
abbrev pub unquoted : List ℕ → Option (List ℕ)
unquoted [] = None
unquoted (b ∷ rest) = if b == byte "\"" then inside_quotes rest else None

-- a byte that stands for itself in quoted text (RFC 3261 25.1, qdtext)
abbrev pub stands_for_itself : ℕ → Bool
stands_for_itself b = not (b == byte "\"") && not (b == byte "\\")

-- the front of a text whose bytes all do
abbrev pub plain_front : List ℕ → List ℕ
plain_front text = take_while stands_for_itself text
