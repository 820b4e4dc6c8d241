-- What `unquoted` reads, as a grammar.
use Rattle.std.proofs.Common.{◌≡◌, ◌↔◌, ℕ, Bool, true, false, cond, List, [], ◌∷◌, ◌++◌, map, length, take, drop, Option, Some, None, refl, sym, ap, subst, ◌∙◌, eqb-true}
use Rattle.std.specs.Prelude.{◌==◌, ◌&&◌, not, option_map}
use Rattle.std.specs.List.{AllByRecursion, flat_map}
use Rattle.std.proofs.lemmas.Option.{cond_some}
use Rattle.std.proofs.lemmas.List.{take-append-drop}
use Rattle.std.proofs.lemmas.List.Sums.{take_while-cons}
use Rattle.std.proofs.lemmas.List.Folds.{length-prefix_len}
use Rattle.sip_text.specs.Escapes.{inside_quotes, unquoted, with_front, stands_for_itself, plain_front}
use Rattle.sip_text.specs.QuotedText.{QuotedPiece, QdText, QuotedPair, IsQuotedPiece, piece_text, piece_byte, IsQuoted}
use Rattle.sip_text.proofs.EscapedLaws.{differs, no_match}

-- the rest of quoted text, up to its last quote
record IsInside (rest bytes : List ℕ) : Type 0 where
  pieces : List QuotedPiece
  each : AllByRecursion IsQuotedPiece pieces
  written : rest ≡ flat_map piece_text pieces ++ 34 ∷ []
  says : bytes ≡ map piece_byte pieces

more_from : (p : QuotedPiece) (front rest v : List ℕ) (o : Option (List ℕ)) → IsQuotedPiece p → ((w : List ℕ) → front ++ w ≡ piece_text p ++ w)
    → with_front (piece_byte p ∷ []) o ≡ Some v
    → ((w : List ℕ) → o ≡ Some w → IsInside rest w) → IsInside (front ++ rest) v
more_from (QdText b) front rest v None good is e rest_is = absurd cc
more_from (QuotedPair b) front rest v None good is e rest_is = absurd cc
more_from (QdText b) front rest v (Some w) good is e rest_is =
    let value : b ∷ w ≡ v = cc in
    let r = rest_is w refl in
    record {
      pieces = QdText b ∷ r.pieces;
      each = (good, r.each);
      written = is rest ∙ ap (λ (x : List ℕ). b ∷ x) r.written;
      says = sym value ∙ ap (λ (x : List ℕ). b ∷ x) r.says;
    }
more_from (QuotedPair b) front rest v (Some w) good is e rest_is =
    let value : b ∷ w ≡ v = cc in
    let r = rest_is w refl in
    record {
      pieces = QuotedPair b ∷ r.pieces;
      each = (good, r.each);
      written = is rest ∙ ap (λ (x : List ℕ). 92 ∷ b ∷ x) r.written;
      says = sym value ∙ ap (λ (x : List ℕ). b ∷ x) r.says;
    }

last_quote : (b : ℕ) (v : List ℕ) → cond (b == 34) (Some []) None ≡ Some v → IsInside (b ∷ []) v
last_quote b v e =
    let got = cond_some (b == 34) [] v e in
    record { pieces = []; each = tt; written = ap (λ (x : ℕ). x ∷ []) (eqb-true b 34 got.0); says = sym got.1 }

more_left : (b c : ℕ) (rest v : List ℕ) (quote pair : Bool) → (b == 34) ≡ quote → (b == 92) ≡ pair
    → cond quote None (cond pair (option_map (λ v. c ∷ v) (inside_quotes rest)) (option_map (λ v. b ∷ v) (inside_quotes (c ∷ rest)))) ≡ Some v
    → ((w : List ℕ) → inside_quotes rest ≡ Some w → IsInside rest w) → ((w : List ℕ) → inside_quotes (c ∷ rest) ≡ Some w → IsInside (c ∷ rest) w)
    → IsInside (b ∷ c ∷ rest) v
more_left b c rest v true pair q p e behind_is after_is = absurd cc
more_left b c rest v false true q p e behind_is after_is =
    more_from (QuotedPair c) (b ∷ c ∷ []) rest v (inside_quotes rest) tt (λ w. ap (λ (x : ℕ). x ∷ c ∷ w) (eqb-true b 92 p)) e behind_is
more_left b c rest v false false q p e behind_is after_is =
    more_from (QdText b) (b ∷ []) (c ∷ rest) v (inside_quotes (c ∷ rest)) (differs b 34 q, differs b 92 p) (λ w. refl) e after_is

is_inside : (rest v : List ℕ) → inside_quotes rest ≡ Some v → IsInside rest v
is_inside [] v e = absurd cc
is_inside (b ∷ []) v e = last_quote b v e
is_inside (b ∷ c ∷ rest) v e = more_left b c rest v (b == 34) (b == 92) refl refl e (λ w. is_inside rest w) (λ w. is_inside (c ∷ rest) w)

is_quoted : (b : ℕ) (rest v : List ℕ) (quote : Bool) → (b == 34) ≡ quote → cond quote (inside_quotes rest) None ≡ Some v → IsQuoted (b ∷ rest) v
is_quoted b rest v false is e = absurd cc
is_quoted b rest v true is e =
    let r = is_inside rest v e in
    record { pieces = r.pieces; each = r.each; written = ap (λ (x : ℕ). x ∷ rest) (eqb-true b 34 is) ∙ ap (λ (x : List ℕ). 34 ∷ x) r.written; says = r.says }

quoted_of : (text v : List ℕ) → unquoted text ≡ Some v → IsQuoted text v
quoted_of [] v e = absurd cc
quoted_of (b ∷ rest) v e = is_quoted b rest v (b == 34) refl e

plain_inside : (b : ℕ) (rest : List ℕ) → (b == 34) ≡ false → (b == 92) ≡ false → inside_quotes (b ∷ rest) ≡ with_front (b ∷ []) (inside_quotes rest)
plain_inside b [] q p = rw q refl
plain_inside b (c ∷ rest) q p = rw (q, p) refl

pair_inside : (b : ℕ) (rest : List ℕ) → inside_quotes (92 ∷ b ∷ rest) ≡ with_front (b ∷ []) (inside_quotes rest)
pair_inside b rest = refl

reads_pieces : (pieces : List QuotedPiece) → AllByRecursion IsQuotedPiece pieces → inside_quotes (flat_map piece_text pieces ++ 34 ∷ []) ≡ Some (map piece_byte pieces)
reads_pieces [] each = refl
reads_pieces (QdText b ∷ pieces) each =
    plain_inside b (flat_map piece_text pieces ++ 34 ∷ []) (no_match b 34 each.0.0) (no_match b 92 each.0.1) ∙ ap (with_front (b ∷ [])) (reads_pieces pieces each.1)
reads_pieces (QuotedPair b ∷ pieces) each =
    pair_inside b (flat_map piece_text pieces ++ 34 ∷ []) ∙ ap (with_front (b ∷ [])) (reads_pieces pieces each.1)

pub quoted_both : (text bytes : List ℕ) → (unquoted text ≡ Some bytes) ↔ IsQuoted text bytes
quoted_both text bytes = (quoted_of text bytes, λ r. ap unquoted r.written ∙ reads_pieces r.pieces r.each ∙ ap (λ (v : List ℕ). Some v) (sym r.says))

-- ---- text that stands so between its quotes

neither : (a b : Bool) → (not a && not b) ≡ true → (a ≡ false) × (b ≡ false)
neither false false e = (refl, refl)
neither false true e = absurd cc
neither true b e = absurd cc

front_by : (x : ℕ) (xs : List ℕ) (t : Bool) → stands_for_itself x ≡ t → inside_quotes (plain_front xs ++ 34 ∷ []) ≡ Some (plain_front xs)
    → inside_quotes (plain_front (x ∷ xs) ++ 34 ∷ []) ≡ Some (plain_front (x ∷ xs))
front_by x xs true e rest_is =
    let front : plain_front (x ∷ xs) ≡ x ∷ plain_front xs = take_while-cons stands_for_itself x xs ∙ ap (λ (t : Bool). cond t (x ∷ plain_front xs) []) e in
    let plain = neither (x == 34) (x == 92) e in
    subst (λ (ys : List ℕ). inside_quotes (ys ++ 34 ∷ []) ≡ Some ys) (sym front) (plain_inside x (plain_front xs ++ 34 ∷ []) plain.0 plain.1
    ∙ ap (with_front (x ∷ [])) rest_is)
front_by x xs false e rest_is =
    let front : plain_front (x ∷ xs) ≡ [] = take_while-cons stands_for_itself x xs ∙ ap (λ (t : Bool). cond t (x ∷ plain_front xs) []) e in
    subst (λ (ys : List ℕ). inside_quotes (ys ++ 34 ∷ []) ≡ Some ys) (sym front) refl

front_quoted : (xs : List ℕ) → inside_quotes (plain_front xs ++ 34 ∷ []) ≡ Some (plain_front xs)
front_quoted [] = refl
front_quoted (x ∷ xs) = front_by x xs (stands_for_itself x) refl (front_quoted xs)

front_is_plain : (xs : List ℕ) → take (length (plain_front xs)) xs ≡ plain_front xs
front_is_plain xs = ap (λ (n : ℕ). take n xs) (length-prefix_len stands_for_itself xs)

-- what stands before the last quote where no byte of it is a quote or a `\`
pub plain_ends : (xs front behind : List ℕ) → front ≡ take (length (plain_front xs)) xs → behind ≡ drop (length (plain_front xs)) xs → behind ≡ 34 ∷ []
    → inside_quotes xs ≡ Some front
plain_ends xs front behind front_is behind_is e =
    let plain = front_is ∙ front_is_plain xs in
    let whole : xs ≡ plain_front xs ++ 34 ∷ [] =
    sym (take-append-drop (length (plain_front xs)) xs) ∙ ap (λ (v : List ℕ). take (length (plain_front xs)) xs ++ v) (sym behind_is ∙ e)
    ∙ ap (λ (v : List ℕ). v ++ 34 ∷ []) (front_is_plain xs) in
    ap inside_quotes whole ∙ front_quoted xs ∙ ap (λ (v : List ℕ). Some v) (sym plain)
