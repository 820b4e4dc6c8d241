-- What `unescaped` reads, as a grammar.
use Rattle.std.proofs.Common.{◌≡◌, ◌≢◌, ◌↔◌, ℕ, Bool, true, false, cond, List, [], ◌∷◌, map, Option, Some, None, refl, sym, ap, ◌∙◌, arith, eqb-true}
use Rattle.std.specs.Prelude.{◌==◌, ◌&&◌, ◌+◌, ◌*◌, option_map}
use Rattle.std.specs.List.{AllByRecursion, flat_map}
use Rattle.std.specs.Char.{is_ascii_hexdigit, digit_value}
use Rattle.std.proofs.lemmas.Bool.{and_parts}
use Rattle.sip_text.specs.Escapes.{unescaped, with_front}
use Rattle.sip_text.specs.EscapedText.{EscapedPiece, Plain, Escape, IsEscapedPiece, escaped_text, escaped_byte, IsEscaped}
use Rattle.sip_text.proofs.Escaping.{plain_one}

pub differs : (b c : ℕ) → (b == c) ≡ false → b ≢ c
differs b c e same = grind arith

pub no_match : (b c : ℕ) → b ≢ c → (b == c) ≡ false
no_match b c ne = grind arith

plain_from : (b : ℕ) (rest v : List ℕ) (o : Option (List ℕ)) → b ≢ 37 → with_front (b ∷ []) o ≡ Some v → ((w : List ℕ) → o ≡ Some w → IsEscaped rest w)
    → IsEscaped (b ∷ rest) v
plain_from b rest v None ne e rest_is = absurd cc
plain_from b rest v (Some w) ne e rest_is =
    let is : b ∷ w ≡ v = cc in
    let r = rest_is w refl in
    record { pieces = Plain b ∷ r.pieces; each = (ne, r.each); written = ap (λ (x : List ℕ). b ∷ x) r.written; says = sym is ∙ ap (λ (x : List ℕ). b ∷ x) r.says }

plain_case : (b : ℕ) (rest v : List ℕ) → (b == 37) ≡ false → unescaped (b ∷ rest) ≡ Some v → ((w : List ℕ) → unescaped rest ≡ Some w → IsEscaped rest w)
    → IsEscaped (b ∷ rest) v
plain_case b rest v is e rest_is = plain_from b rest v (unescaped rest) (differs b 37 is) (sym (plain_one b rest is) ∙ e) rest_is

escape_from : (b h l : ℕ) (rest v : List ℕ) (hex : Bool) (o : Option (List ℕ)) → b ≡ 37 → (is_ascii_hexdigit h && is_ascii_hexdigit l) ≡ hex
    → cond hex (option_map (λ v. (16 * digit_value h + digit_value l) ∷ v) o) None ≡ Some v → ((w : List ℕ) → o ≡ Some w → IsEscaped rest w)
    → IsEscaped (b ∷ h ∷ l ∷ rest) v
escape_from b h l rest v false o percent is e rest_is = absurd cc
escape_from b h l rest v true None percent is e rest_is = absurd cc
escape_from b h l rest v true (Some w) percent is e rest_is =
    let both = and_parts (is_ascii_hexdigit h) (is_ascii_hexdigit l) is in
    let value : (16 * digit_value h + digit_value l) ∷ w ≡ v = cc in
    let r = rest_is w refl in
    record {
      pieces = Escape h l ∷ r.pieces;
      each = ((both.0, both.1), r.each);
      written = ap (λ (x : List ℕ). b ∷ h ∷ l ∷ x) r.written ∙ ap (λ (p : ℕ). p ∷ h ∷ l ∷ flat_map escaped_text r.pieces) percent;
      says = sym value ∙ ap (λ (x : List ℕ). (16 * digit_value h + digit_value l) ∷ x) r.says;
    }

percent_case : (b h l : ℕ) (rest v : List ℕ) → (b == 37) ≡ true → unescaped (b ∷ h ∷ l ∷ rest) ≡ Some v → ((w : List ℕ) → unescaped rest ≡ Some w → IsEscaped rest w)
    → IsEscaped (b ∷ h ∷ l ∷ rest) v
percent_case b h l rest v is e rest_is =
    let one : unescaped (b ∷ h ∷ l ∷ rest) ≡ cond (is_ascii_hexdigit h && is_ascii_hexdigit l)
    (option_map (λ v. (16 * digit_value h + digit_value l) ∷ v) (unescaped rest)) None = rw is refl in
    escape_from b h l rest v (is_ascii_hexdigit h && is_ascii_hexdigit l) (unescaped rest) (eqb-true b 37 is) refl (sym one ∙ e) rest_is

cut_short : (b : ℕ) (rest v : List ℕ) → unescaped (b ∷ rest) ≡ None → unescaped (b ∷ rest) ≡ Some v → IsEscaped (b ∷ rest) v
cut_short b rest v none e = absurd cc

one_left : (b : ℕ) (v : List ℕ) (t : Bool) → (b == 37) ≡ t → unescaped (b ∷ []) ≡ Some v → ((w : List ℕ) → unescaped [] ≡ Some w → IsEscaped [] w) → IsEscaped (b ∷ []) v
one_left b v true is e rest_is = cut_short b [] v (rw is refl) e
one_left b v false is e rest_is = plain_case b [] v is e rest_is

two_left : (b h : ℕ) (v : List ℕ) (t : Bool) → (b == 37) ≡ t → unescaped (b ∷ h ∷ []) ≡ Some v → ((w : List ℕ) → unescaped (h ∷ []) ≡ Some w → IsEscaped (h ∷ []) w)
    → IsEscaped (b ∷ h ∷ []) v
two_left b h v true is e rest_is = cut_short b (h ∷ []) v (rw is refl) e
two_left b h v false is e rest_is = plain_case b (h ∷ []) v is e rest_is

more_left : (b h l : ℕ) (rest v : List ℕ) (t : Bool) → (b == 37) ≡ t → unescaped (b ∷ h ∷ l ∷ rest) ≡ Some v
    → ((w : List ℕ) → unescaped (h ∷ l ∷ rest) ≡ Some w → IsEscaped (h ∷ l ∷ rest) w) → ((w : List ℕ) → unescaped rest ≡ Some w → IsEscaped rest w)
    → IsEscaped (b ∷ h ∷ l ∷ rest) v
more_left b h l rest v true is e plain_is rest_is = percent_case b h l rest v is e rest_is
more_left b h l rest v false is e plain_is rest_is = plain_case b (h ∷ l ∷ rest) v is e plain_is

none_left : (v : List ℕ) → Some [] ≡ Some v → IsEscaped [] v
none_left v e = let is : [] ≡ v = cc in record { pieces = []; each = tt; written = refl; says = sym is }

is_escaped : (text v : List ℕ) → unescaped text ≡ Some v → IsEscaped text v
is_escaped [] v e = none_left v e
is_escaped (b ∷ []) v e = one_left b v (b == 37) refl e none_left
is_escaped (b ∷ h ∷ []) v e = two_left b h v (b == 37) refl e (λ w. is_escaped (h ∷ []) w)
is_escaped (b ∷ h ∷ l ∷ rest) v e = more_left b h l rest v (b == 37) refl e (λ w. is_escaped (h ∷ l ∷ rest) w) (λ w. is_escaped rest w)

reads_pieces : (pieces : List EscapedPiece) → AllByRecursion IsEscapedPiece pieces → unescaped (flat_map escaped_text pieces) ≡ Some (map escaped_byte pieces)
reads_pieces [] each = refl
reads_pieces (Plain b ∷ pieces) each =
    plain_one b (flat_map escaped_text pieces) (no_match b 37 each.0) ∙ ap (with_front (b ∷ [])) (reads_pieces pieces each.1)
reads_pieces (Escape h l ∷ pieces) each = rw (each.0.0, each.0.1, reads_pieces pieces each.1) refl

pub escaped_both : (text bytes : List ℕ) → (unescaped text ≡ Some bytes) ↔ IsEscaped text bytes
escaped_both text bytes = (is_escaped text bytes, λ r. ap unescaped r.written ∙ reads_pieces r.pieces r.each ∙ ap (λ (v : List ℕ). Some v) (sym r.says))
