-- Text cut at a byte outside quoted text, and at blanks.
use Rattle.std.specs.Prelude.{◌≡◌, ◌≢◌, ℕ, Bool, true, false, not, ◌==◌, if◌then◌else◌, List, [], ◌∷◌, ◌++◌, length, drop, take_while}
use Rattle.std.specs.Prelude.{Option, Some, None, suc, option_map}
use Rattle.std.specs.List.{AllByRecursion, join_with_byte}
use Rattle.std.specs.Str.{byte}
use Rattle.sip_text.specs.Lists.{is_blank, front_trimmed, onto}
use Rattle.sip_text.specs.Splits.{in_front}
use Rattle.sip_text.specs.declared.cuts.Quoting.{Quoting}
use Rattle.sip_text.specs.declared.cuts.Quoting.TheVariants.{Outside, Inside, Escaped}

-- where the byte after this one stands: `"` begins and ends quoted text, and in it `\` takes the next byte along (RFC 3261 25.1)
abbrev pub quoting_after : Quoting → ℕ → Quoting
quoting_after Outside b = if b == byte "\"" then Inside else Outside
quoting_after Inside b = if b == byte "\"" then Outside else if b == byte "\\" then Escaped else Inside
quoting_after Escaped b = Inside

-- whether this `"` ends the quoted text that it stands in
abbrev pub ends_quote : Quoting → ℕ → Bool
ends_quote Inside b = b == byte "\""
ends_quote quoting b = false

-- how many bytes stand before the `"` that ends quoted text, of a text which goes on in it; none where none does (RFC 3261 25.1)
abbrev pub quote_end : Quoting → List ℕ → Option ℕ
quote_end quoting [] = None
quote_end quoting (b ∷ bs) = if ends_quote quoting b then Some 0 else option_map (λ n. suc n) (quote_end (quoting_after quoting b) bs)

-- whether this is the byte to cut at
abbrev pub is_mark : Quoting → ℕ → ℕ → Bool
is_mark Outside mark b = b == mark
is_mark quoting mark b = false

-- what stands before the first of a byte outside quoted text, and what follows it, where the text begins inside it or outside
abbrev pub split_from : Quoting → ℕ → List ℕ → Option (List ℕ × List ℕ)
split_from quoting mark [] = None
split_from quoting mark (b ∷ bs) = if is_mark quoting mark b then Some ([], bs) else in_front (b ∷ []) (split_from (quoting_after quoting b) mark bs)

-- what stands before the first of a byte outside quoted text, and what follows it
abbrev pub split_outside : ℕ → List ℕ → Option (List ℕ × List ℕ)
split_outside mark text = split_from Outside mark text

-- what stands between the bytes of one kind outside quoted text, where the text begins inside it or outside
abbrev pub parts_from : Quoting → ℕ → List ℕ → List (List ℕ)
parts_from quoting mark [] = [] ∷ []
parts_from quoting mark (b ∷ bs) = if is_mark quoting mark b then [] ∷ parts_from Outside mark bs
    else onto (b ∷ []) (parts_from (quoting_after quoting b) mark bs)

-- what stands between the bytes of one kind outside quoted text: one part more than there are of them
abbrev pub parts_at : ℕ → List ℕ → List (List ℕ)
parts_at mark text = parts_from Outside mark text

-- where the byte behind a text stands
abbrev pub quoting_behind : Quoting → List ℕ → Quoting
quoting_behind quoting [] = quoting
quoting_behind quoting (b ∷ bs) = quoting_behind (quoting_after quoting b) bs

-- each part but the last closes the quotes that it opens
abbrev pub AreClosed : List (List ℕ) → Type 0
AreClosed [] = Unit {0}
AreClosed (part ∷ []) = Unit {0}
AreClosed (part ∷ next ∷ parts) = (quoting_behind Outside part ≡ Outside) × AreClosed (next ∷ parts)

-- Parts make up a text: one or more, which joined by a byte are the text, none of which has that byte outside quoted text.
pub record IsParted (mark : ℕ) (text : List ℕ) (parts : List (List ℕ)) : Type 0 where
  pub some : parts ≢ []
  pub whole : join_with_byte mark parts ≡ text
  pub uncut : AllByRecursion (λ part. split_outside mark part ≡ None) parts
  pub closed : AreClosed parts

-- A text is cut at the first of a byte outside quoted text: that byte between a front and a rest, where the front has none and
-- closes the quotes that it opens (RFC 3261 25.1).
pub record IsCutAt (mark : ℕ) (text front rest : List ℕ) : Type 0 where
  pub whole : text ≡ front ++ mark ∷ rest
  pub uncut : split_outside mark front ≡ None
  pub closed : quoting_behind Outside front ≡ Outside

-- the parts of what follows a first part, if anything does
abbrev pub parts_behind : ℕ → Option (List ℕ) → List (List ℕ)
parts_behind mark None = []
parts_behind mark (Some text) = parts_at mark text

-- neither a space nor a tab
abbrev pub is_full : ℕ → Bool
is_full b = not (is_blank b)

-- the bytes before the first space or tab
abbrev pub word_at : List ℕ → List ℕ
word_at text = take_while is_full text

-- A text begins with a word, which one or more blanks end; what follows them is the rest.
pub record IsWordAndRest (text word rest : List ℕ) : Type 0 where
  pub blank : ℕ
  pub blanks : List ℕ
  pub whole : text ≡ word ++ ((blank ∷ blanks) ++ rest)
  pub is_word : AllByRecursion (λ b. is_full b ≡ true) word
  pub are_blank : AllByRecursion (λ b. is_blank b ≡ true) (blank ∷ blanks)
  pub is_rest : front_trimmed rest ≡ rest

-- what follows that word and the spaces and tabs behind it
abbrev pub behind_word : List ℕ → List ℕ
behind_word text = front_trimmed (drop (length (word_at text)) text)
