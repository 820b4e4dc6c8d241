-- A user is read from the text that is written of it, and that text has neither a space nor an `@`.
use Rattle.std.proofs.Common.{◌≡◌, ℕ, ◌+◌, ◌*◌, ◌/◌, ◌%◌, ◌<◌, Bool, true, false, cond, List, [], ◌∷◌, ◌++◌, Option, Some, None, refl, ap, ◌∙◌, arith}
use Rattle.std.specs.List.{list_all, flat_map}
use Rattle.std.specs.Str.{bytes_eq}
use Rattle.std.specs.Char.{is_ascii_hexdigit, digit_value}
use Rattle.std.proofs.lemmas.Bool.{ltb-true}
use Rattle.std.proofs.lemmas.Bool.Decides.{nat_tests}
use Rattle.sip_text.specs.Escapes.{unescaped, with_front}
use Rattle.sip_text.proofs.Escaping.{plain_one}
use Rattle.sip_uri.specs.Host.{is_not}
use Rattle.sip_uri.proofs.Tests.{and_both, and_is, differs, is_other, all_join}
use Rattle.sip_audit.specs.Names.{is_name_byte}
use Rattle.sip_audit.specs.Lines.{upper_digit, user_byte_text, is_byte}
use Rattle.sip_audit.specs.Reading.{◌>>=◌, user_of}
use Rattle.sip_audit.proofs.Words.{bind_some, kept_is, same_text, equals_itself}

-- ---- the digits of an escape

digit_is_hex : (n : ℕ) → n < 16 → is_ascii_hexdigit (upper_digit n) ≡ true
digit_is_hex n lt = grind (arith, nat_tests)

digit_has_value : (n : ℕ) → n < 16 → digit_value (upper_digit n) ≡ n
digit_has_value n lt = grind (arith, nat_tests)

digit_no_space : (n : ℕ) → n < 16 → is_not 32 (upper_digit n) ≡ true
digit_no_space n lt = grind (arith, nat_tests)

digit_no_at : (n : ℕ) → n < 16 → is_not 64 (upper_digit n) ≡ true
digit_no_at n lt = grind (arith, nat_tests)

high_small : (b : ℕ) → b < 256 → b / 16 < 16
high_small b lt = omega arith

low_small : (b : ℕ) → b % 16 < 16
low_small b = omega arith

byte_again : (b : ℕ) → 16 * (b / 16) + b % 16 ≡ b
byte_again b = omega arith

-- ---- one byte

abbrev escape_text : ℕ → List ℕ
escape_text b = 37 ∷ upper_digit (b / 16) ∷ upper_digit (b % 16) ∷ []

byte_text_by : (b : ℕ) (t : Bool) → is_name_byte b ≡ t → user_byte_text b ≡ cond t (b ∷ []) (escape_text b)
byte_text_by b t is = ap (λ (t : Bool). cond t (b ∷ []) (escape_text b)) is

escape_said : (b : ℕ) (rest said : List ℕ) → b < 256 → unescaped rest ≡ Some said → unescaped (escape_text b ++ rest) ≡ Some (b ∷ said)
escape_said b rest said lt e =
    let high : is_ascii_hexdigit (upper_digit (b / 16)) ≡ true = digit_is_hex (b / 16) (high_small b lt) in
    let low : is_ascii_hexdigit (upper_digit (b % 16)) ≡ true = digit_is_hex (b % 16) (low_small b) in
    let value : 16 * digit_value (upper_digit (b / 16)) + digit_value (upper_digit (b % 16)) ≡ b =
    rw (digit_has_value (b / 16) (high_small b lt), digit_has_value (b % 16) (low_small b)) (byte_again b) in
    rw (high, low, e) (ap (λ (k : ℕ). Some (k ∷ said)) value)

byte_said : (b : ℕ) (rest said : List ℕ) (t : Bool) → is_name_byte b ≡ t → b < 256 → unescaped rest ≡ Some said → unescaped (user_byte_text b ++ rest) ≡ Some (b ∷ said)
byte_said b rest said true is lt e =
    ap (λ (w : List ℕ). unescaped (w ++ rest)) (byte_text_by b true is) ∙ plain_one b rest (differs is_name_byte 37 refl b is) ∙ ap (with_front (b ∷ [])) e
byte_said b rest said false is lt e = ap (λ (w : List ℕ). unescaped (w ++ rest)) (byte_text_by b false is) ∙ escape_said b rest said lt e

-- ---- the whole

pub name_as_it_is : (user : List ℕ) → list_all is_name_byte user ≡ true → flat_map user_byte_text user ≡ user
name_as_it_is [] e = refl
name_as_it_is (b ∷ bs) e =
    let both = and_both (is_name_byte b) (list_all is_name_byte bs) e in
    ap (λ (w : List ℕ). w ++ flat_map user_byte_text bs) (byte_text_by b true both.0) ∙ ap (λ (w : List ℕ). b ∷ w) (name_as_it_is bs both.1)

user_said : (user : List ℕ) → list_all is_byte user ≡ true → unescaped (flat_map user_byte_text user) ≡ Some user
user_said [] e = refl
user_said (b ∷ bs) e =
    let both = and_both (is_byte b) (list_all is_byte bs) e in
    byte_said b (flat_map user_byte_text bs) bs (is_name_byte b) refl (ltb-true b 256 both.0) (user_said bs both.1)

abbrev if_written : List ℕ → List ℕ → Option (List ℕ)
if_written text user = cond (bytes_eq (flat_map user_byte_text user) text) (Some user) None

pub user_again : (user : List ℕ) → list_all is_byte user ≡ true → user_of (flat_map user_byte_text user) ≡ Some user
user_again user e =
    let same : bytes_eq (flat_map user_byte_text user) (flat_map user_byte_text user) ≡ true = equals_itself (flat_map user_byte_text user) in
    ap (λ o. o >>= if_written (flat_map user_byte_text user)) (user_said user e) ∙ ap (λ (t : Bool). cond t (Some user) None) same

pub user_is : (text user : List ℕ) → user_of text ≡ Some user → flat_map user_byte_text user ≡ text
user_is text user e =
    let said = bind_some (unescaped text) (if_written text) user e in
    let k = kept_is (bytes_eq (flat_map user_byte_text said.0) text) said.0 user said.2 in
    rw (← k.1) (same_text (flat_map user_byte_text said.0) text k.0)

-- ---- bytes that are not there

byte_others : (mark b : ℕ) (t : Bool) → is_name_byte mark ≡ false → is_not mark 37 ≡ true → ((n : ℕ) → n < 16 → is_not mark (upper_digit n) ≡ true) → is_name_byte b ≡ t
    → b < 256
    → list_all (is_not mark) (user_byte_text b) ≡ true
byte_others mark b true none percent digits is lt =
    ap (list_all (is_not mark)) (byte_text_by b true is) ∙ and_is (is_not mark b) true (is_other is_name_byte mark none b is) refl
byte_others mark b false none percent digits is lt =
    let high = digits (b / 16) (high_small b lt) in
    let low = digits (b % 16) (low_small b) in
    ap (list_all (is_not mark)) (byte_text_by b false is) ∙ rw (percent, high, low) refl

user_others : (mark : ℕ) → is_name_byte mark ≡ false → is_not mark 37 ≡ true → ((n : ℕ) → n < 16 → is_not mark (upper_digit n) ≡ true) → (user : List ℕ)
    → list_all is_byte user ≡ true
    → list_all (is_not mark) (flat_map user_byte_text user) ≡ true
user_others mark none percent digits [] e = refl
user_others mark none percent digits (b ∷ bs) e =
    let both = and_both (is_byte b) (list_all is_byte bs) e in
    all_join (is_not mark) (user_byte_text b) (flat_map user_byte_text bs) (byte_others mark b (is_name_byte b) none percent digits refl (ltb-true b 256 both.0))
    (user_others mark none percent digits bs both.1)

pub user_no_space : (user : List ℕ) → list_all is_byte user ≡ true → list_all (is_not 32) (flat_map user_byte_text user) ≡ true
user_no_space user e = user_others 32 refl refl digit_no_space user e

pub user_no_at : (user : List ℕ) → list_all is_byte user ≡ true → list_all (is_not 64) (flat_map user_byte_text user) ≡ true
user_no_at user e = user_others 64 refl refl digit_no_at user e
